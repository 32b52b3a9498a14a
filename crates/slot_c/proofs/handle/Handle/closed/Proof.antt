-- A handle with no executive owns nothing beside its fields.
use Rattle.std.proofs.Common.{List, [], ◌∷◌, ◌++◌, refl, sym, subst, lit<, false}
use mir.Val.{Val, vstruct, vcons, vnil, has_ty}
use base.Logic.{SProp, ent, emp, id⊢}
use base.Fml.{ftrue, fsep}
use prog.Wp.{WpFn}
use types.Kit.{‵, raw, ◌⊛◌, ◌$◌, ◌∵◌, !, qed, move, drop, join, split, fsplit, fjoin, fpack, feq_i, rewrite, suffices, use1, done}
use types.Part.{agg}
use types.Run.{lit, no_more, and_then, returns, enter}
use types.ByLocal.{alloc_all, pass_all, free_all, look_at, get, sets}
use contract.Running.{tables}
use denote.Exit.{yes}
use denote.Param.{layout}
use denote.RattleType.{RattleType, Valss}
use denote.RawPtr.{RawPtr, null_ptr, ptr_val}
use denote.Steps.{nothing}
use denote.Struct.Owning.{shape}
use denote.Struct.Struct.{within}
use denote.Triple.Walked.{says, Stays, stay_dropped, walk_of, ends_at, Goes-dropped}
use Rattle.std.proofs.cell.Inside.{Good, one}
use Rattle.std.proofs.raw_atomic.Walks.{proved_at}
use Rattle.std.proofs.ResultValues.{and_tt}
use Rattle.std.specs.contracts.alloc.Global as heap
use Rattle.std.proofs.alloc.Global.TheLaws as heap_laws
use Rattle.std.specs.contracts.impls.GlobalAllocator.TheImpl.{ghosts}
use Rattle.slot_core.specs.Keeping.Executives.{Executive}
use Rattle.slot_c.specs.Handles.{row}
use Rattle.slot_c.proofs.Rows.{FromAlloc}
use Rattle.slot_c.specs.contracts.box_parts.BoxParts as parts
use Rattle.slot_c.specs.contracts.handle.Handle.{the_row}
use Rattle.slot_c.specs.contracts.handle.Handle.closed.{ended, clauses}
use Rattle.slot_c.specs.contracts.handle.Handle.closed.Key.{name as #self}
use Rattle.slot_c.proofs.handle.Handle.closed.Statement.{statement}
use Rattle.slot_c.proofs.handle.Handle.closed.Code as code

-- an executive of which nothing is asked
abbrev nobody : Executive
nobody = record {
  plan = record { tasks = record { soft_limit = 0; graphs = []; sporadics = [] }; cycle = 0; jobs = []; spans = [] };
  scene = record { time = 0; jobs = []; nexts = []; soft = []; points = [] };
  last_row = 0;
}

pub closed_spec : {M : Type 1} → statement M
closed_spec 𝓤 𝓛 𝓜 𝓡 wired =
    let H = 𝓛.H in let 𝓣 = tables 𝓤 H 𝓜 𝓡 𝓡.env in let c = clauses 𝓛 𝓜.mem 𝓡.returns in let Z : RattleType = heap.the_row in
    let stayed : Stays ended.signature.params ended.kept = (stay_dropped FromAlloc yes, tt) in
    proved_at 𝓛 ended stayed c 𝓜 𝓡 (Goes-dropped 𝓛 0 FromAlloc yes (λ κs x f. refl), tt) #self code.function (code.unfolded 𝓤 H 𝓜 𝓡 wired) (λ z are.
    let Post : Val → SProp 𝓤 = (walk_of 𝓛 ended stayed c).post z in let Run : List Val → SProp 𝓤 = λ ws. WpFn 𝓤 H 𝓣.C 𝓣.Λ code.function ws Post in
    let a = z.0.3.0 in let h = one (layout Z) z.0.4.0 ((heap_laws.the_row_laws.lawful 𝓛).typed a z.0.4.0 are.0) in
    let w : Val = vstruct (vcons (ptr_val null_ptr) (vcons h.0 vnil)) in let good : Good (layout the_row) w = (and_tt (has_ty (layout Z) h.0) h.2.0, (record { fits = lit< tt }, (h.2.1, tt))) in
    let made : the_row.Denot = record { at = null_ptr; alloc = a; there = false; value = nobody } in
    qed 𝓛 ((‵ ftrue ⊛ ‵ (fsep (Z.own_val a z.0.4.0) ftrue)) ∷ raw (emp 𝓤) ∷ []) ∵ split ! $ drop ! $ fsplit ! $
    rewrite ! 0 (λ (us : List Val). ‵ (Z.own_val a us)) h.1 refl $ move ! (1 ∷ 2 ∷ []) $ drop ! $ drop ! $
    nothing ! $ nothing ! $ move ! (2 ∷ 0 ∷ []) $ fjoin ! $ feq_i ! (List Val) (ptr_val null_ptr ∷ []) (ptr_val null_ptr ∷ []) refl $ fjoin ! $
    feq_i ! (List Val) (w ∷ []) (w ∷ []) refl $ fjoin ! $ fpack ! (Valss (RawPtr ∷ Z ∷ [])) (within (shape (parts.the_type row Z ghosts)) (null_ptr, (a, tt)) (w ∷ [])) (ptr_val null_ptr ∷ [], (h.0 ∷ [], tt)) $ fjoin ! $
    use1 𝓛 (‵ (the_row.own_val made (w ∷ []))) (id⊢ 𝓤 _) $
    suffices ! (Run (h.0 ∷ [])) (subst (λ (us : List Val). ent 𝓤 (Run (h.0 ∷ [])) (Run us)) (sym (λ i. h.1 i ++ [])) (id⊢ 𝓤 (Run (h.0 ∷ [])))) $
    enter ! 𝓣.C 𝓣.Λ code.function (h.0 ∷ []) Post $ alloc_all ! (λ l. pass_all ! refl (h.2, tt) $
    sets ! (agg ! (and_then ! (lit ! tt) (and_then ! (get ! refl) (no_more !)))) refl good $ returns ! (look_at ! 0 refl) $ free_all ! refl $
    suffices ! _ (ends_at 𝓛 ended stayed c z w made (tt, tt) (tt, tt)) $ says ! refl $
    nothing ! $ nothing ! $ fjoin ! $ join ! $ nothing ! $ join ! $ done !))
