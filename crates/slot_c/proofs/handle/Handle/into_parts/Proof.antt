-- The parts own what the handle owned, which is what is there.
use Rattle.std.proofs.Common.{◌≡◌, List, [], ◌∷◌, ◌++◌, refl, sym, subst, Bool, true}
use mir.Val.{Val}
use base.Logic.{SProp, ent, id⊢}
use base.Fml.{ftrue, fsep}
use prog.Wp.{WpFn}
use types.Kit.{‵, raw, ◌⊛◌, ◌$◌, ◌∵◌, !, qed, move, drop, use1, join, split, fsplit, fjoin, rewrite, suffices, done}
use types.Part.{whole, sub, agg}
use types.Run.{stop, fld, no_more, and_then, of_opd, returns, enter}
use types.ByLocal.{alloc_all, pass_all, free_all, look_at, get, get_in, sets}
use contract.Monad.{fact}
use contract.Running.{tables}
use denote.Exit.{yes}
use denote.Steps.{heard, nothing}
use denote.Triple.Walked.{says, Stays, stay_dropped, walk_of, ends_at, Goes-dropped}
use Rattle.std.proofs.raw_atomic.Walks.{proved_at}
use Rattle.std.proofs.BoxSteps.Form.{D, B, word, box_typed}
use Rattle.std.proofs.BoxSteps.Steps.{box_out, box_in}
use Rattle.std.specs.contracts.alloc.Global as heap
use Rattle.std.specs.contracts.impls.GlobalAllocator.TheImpl.{ghosts}
use Rattle.slot_c.specs.Handles.{row}
use Rattle.slot_c.proofs.Rows.{boxed, FromHandle}
use Rattle.slot_c.specs.contracts.box_parts.BoxParts as parts
use Rattle.slot_c.specs.contracts.handle.Handle.{the_row}
use Rattle.slot_c.specs.contracts.handle.Handle.into_parts.{ended, clauses}
use Rattle.slot_c.specs.contracts.handle.Handle.into_parts.Key.{name as #self}
use Rattle.slot_c.proofs.handle.Handle.into_parts.Statement.{statement}
use Rattle.slot_c.proofs.handle.Handle.into_parts.Code as code

pub into_parts_spec : {M : Type 1} → statement M
into_parts_spec 𝓤 𝓛 𝓜 𝓡 wired =
    let H = 𝓛.H in let 𝓣 = tables 𝓤 H 𝓜 𝓡 𝓡.env in let c = clauses 𝓛 𝓜.mem 𝓡.returns in
    let stayed : Stays ended.signature.params ended.kept = (stay_dropped FromHandle yes, tt) in
    proved_at 𝓛 ended stayed c 𝓜 𝓡 (Goes-dropped 𝓛 0 FromHandle yes (λ κs x f. refl), tt) #self code.function (code.unfolded 𝓤 H 𝓜 𝓡 wired) (λ z are.
    let Post : Val → SProp 𝓤 = (walk_of 𝓛 ended stayed c).post z in let Run : List Val → SProp 𝓤 = λ ws. WpFn 𝓤 H 𝓣.C 𝓣.Λ code.function ws Post in
    let given : the_row.Denot = z.0.3.0 in let v : D boxed = record { ptr = given.at; alloc = given.alloc; value = given.value } in
    let Parts = parts.the_row row heap.the_row ghosts in let made : Parts.Denot = record { at = v.ptr; alloc = v.alloc; value = v.value } in
    qed 𝓛 ((‵ ftrue ⊛ ‵ (fsep (the_row.own_val given z.0.4.0) ftrue)) ∷ raw (fact 𝓤 (given.there ≡ true)) ∷ []) ∵ split ! $ drop ! $ fsplit ! $
    move ! (2 ∷ []) $ heard ! (given.there ≡ true) (λ there.
    rewrite ! 0 (λ (is : Bool). ‵ (the_row.own_val (record given { there = is }) z.0.4.0)) there refl $
    use1 𝓛 (‵ ((B boxed).own_val v z.0.4.0)) (id⊢ 𝓤 _) $
    box_out boxed ! v z.0.4.0 (λ b o h e ws fits. box_in boxed ! v b o v.value e refl $
    let w : Val = word boxed h b o in let typed = box_typed boxed h b o fits in
    use1 𝓛 (‵ (Parts.own_val made (w ∷ []))) (id⊢ 𝓤 _) $ move ! (1 ∷ []) $ drop ! $
    suffices ! (Run (w ∷ [])) (subst (λ (us : List Val). ent 𝓤 (Run (w ∷ [])) (Run us)) (sym (λ i. ws i ++ [])) (id⊢ 𝓤 (Run (w ∷ [])))) $
    enter ! 𝓣.C 𝓣.Λ code.function (w ∷ []) Post $ alloc_all ! (λ l. pass_all ! refl (typed, tt) $
    sets ! (of_opd ! (get_in ! (fld ! refl (stop !)) (sub ! 0 refl (whole !)))) refl (tt, tt) $ sets ! (of_opd ! (get_in ! (fld ! refl (stop !)) (sub ! 1 refl (whole !)))) refl fits $
    sets ! (of_opd ! (get ! refl)) refl (tt, tt) $
    sets ! (agg ! (and_then ! (get ! refl) (and_then ! (get ! refl) (no_more !)))) refl typed $ returns ! (look_at ! 0 refl) $ free_all ! refl $
    suffices ! _ (ends_at 𝓛 ended stayed c z w made (tt, tt) (tt, tt)) $ says ! refl $
    nothing ! $ nothing ! $ fjoin ! $ join ! $ nothing ! $ join ! $ done !))))
