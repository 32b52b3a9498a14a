-- What the place held is forgotten, and the value goes into the room.
use mathlib.Core.Path.{◌≡◌, refl, sym, subst, ◌∙◌}
use Prim.Native.Nat.{ℕ, ◌+◌, ◌*◌, ◌<◌, ◌^◌}
use native.Mathlib.Omega.{arith}
use mathlib.Core.List.{List, [], ◌∷◌, ◌++◌}
use lib.ListN.{length, set, get_or, length-set}
use seplogic.Ra.Ura.{Ura}
use base.Fraction.{full_share}
use base.Logic.{SProp, ent, sep, never, id⊢}
use base.Fml.{Lft, GName, Share, ftrue, fat, flft, fobs, fbor}
use mir.Syntax.{Fn, named, w64}
use mir.MapTy.{inst_fn}
use mir.Val.{Val, vptr, vint, vunit}
use prog.Wp.{Env, Calls, Loops, WpFn, Tables}
use types.Logic.{Logic}
use contract.Monad.{fact}
use contract.Running.{tables, tables_of}
use sound.WpLaws.{WpFn-mono}
use types.Kit.{Item, ⋆, ‵, ◌⊛◌, at_ret, ◌$◌, ◌∵◌, !, qed, by, move, keep, use1, use2, split, join, rewrite, fsplit, fsplit3, fjoin, fjoin3, feq_i, feq_l, flt_l, flt_i, suffices, frame, done}
use types.Part.{whole, sub}
use types.Run.{init, stop, fld, unit_lit, of_opd, assigns_last, bin, size_lit, first, blocks, exec, returns, enter}
use types.ByLocal.{alloc_all, pass_all, free_all, look_at, get, get_in, through, sets, take_at, give_at, env}
use types.SemTy.{Body as Borrowed}
use denote.Builtin.{RefMutOf, unit, usize}
use denote.Exit.{yes, no}
use denote.RattleType.{owns}
use denote.Memory.{mem}
use denote.Param.{layout}
use denote.RawPtr.{Ptr, in_a_block}
use denote.Ref.{MutBor, MutRef}
use denote.Signature.{plain}
use denote.Steps.{nothing, opens, closes}
use denote.Triple.Carry.{spared}
use denote.Triple.Clauses.{Clauses, Ended, closing}
use denote.Triple.Entry.{on_entry}
use denote.Triple.Spec.{Meets, triple_of}
use denote.Triple.Table.{entered, run_framed}
use denote.Triple.Walked.{needs, Stays, stay_dropped, stay_ref, walk_of, ends_at, Goes-dropped, Goes-ref, walk_Meets}
use Rattle.std.specs.Prelude.{Some, None}
use Rattle.std.proofs.VecSteps.Shapes.{after}
use Rattle.std.proofs.RcSteps.{Good, word, word-Good}
use Rattle.std.proofs.RawLayout.{as_written}
use Rattle.std.proofs.mem.Param.{El, R, args, elτ}
use Rattle.std.proofs.ptr.Rows.{times_below, one_below}
use Rattle.node_chain.specs.Ownership.{place, places, places_owned}
use Rattle.node_chain.specs.contracts.raw.Places.put.Key.{name as key}
use Rattle.node_chain.proofs.Blocks.{width, Others, place_out, place_in, emptied}
use Rattle.node_chain.proofs.Layouts.{Owner, Start, word_had, value_in, stored, needs_more, says_two}
use Rattle.node_chain.proofs.raw.Places.put.Statement as stated
use Rattle.node_chain.proofs.raw.Places.put.Code as code

module _ (E : El) where
  abbrev function : Fn
  function = inst_fn (args E) code.function

  abbrev ended : Ended
  ended = record {
    signature = record {
      lifetimes = 1;
      outlives = [];
      params = RefMutOf (0 ∷ []) tt (plain (λ _. Owner E)) (λ _. tt) ∷ plain (λ _. Start E) ∷ plain (λ _. usize) ∷ plain (λ _. R E) ∷ [];
      result = plain (λ _. unit);
    };
    kept = (yes, (no, (no, (no, tt))));
  }

  abbrev stayed : Stays ended.signature.params ended.kept
  stayed = (
    stay_ref (0 ∷ []) tt (plain (λ _. Owner E)),
    (
      stay_dropped (plain (λ _. Start E)) no,
      (stay_dropped (plain (λ _. usize)) no, (stay_dropped (plain (λ _. R E)) no, tt)),
    ),
  )

  abbrev Asks0 : (Owner E).Denot → (Start E).Denot → Type 0
  Asks0 d start = start.ptr ≡ d.at

  abbrev Asks1 : (Owner E).Denot → ℕ → Type 0
  Asks1 d i = i < length d.held

  abbrev Says0 : (Owner E).Denot → (Owner E).Denot → Type 0
  Says0 d new = new.at ≡ d.at

  abbrev Says1 : (Owner E).Denot → ℕ → (R E).Denot → (Owner E).Denot → Type 0
  Says1 d i x new = new.held ≡ set d.held i (Some x)

  abbrev spec : {M : Type 1} {𝓤 : Ura M} (𝓛 : Logic 𝓤) → Clauses 𝓤 ended
  spec {𝓤 = 𝓤} 𝓛 κs a = record {
    ghost = Unit {0};
    requires = λ _. sep 𝓤 (fact 𝓤 (Asks0 a.0.now a.1.0)) (fact 𝓤 (Asks1 a.0.now a.1.1.0));
    ensures = λ _ r w. sep 𝓤 (fact 𝓤 (Says0 a.0.now w.0.now)) (fact 𝓤 (Says1 a.0.now a.1.1.0 a.1.1.1.0 w.0.now));
  }

module _ (E : El) {M : Type 1} {𝓤 : Ura M} (𝓛 : Logic 𝓤) (C : Calls 𝓤 𝓛.H) (Λ : Loops 𝓤 𝓛.H)
    (κ : Lft) (q : Share) (sb so : ℕ) (γ : GName) (d : (Owner E).Denot) (start : (Start E).Denot) (i : ℕ) (x : (R E).Denot) (us0 us1 us2 us3 : List Val) where
  open 𝓛 use {H, A}

  abbrev self : MutBor (Owner E).Denot
  self = record { ref_ptr = (sb, so); ghost_name = γ; now = d }

  abbrev bound : (walk_of 𝓛 (ended E) (stayed E) (spec E 𝓛)).Ghost
  bound = (((κ, tt), (q, tt), tt, (self, (start, (i, (x, tt)))), (us0, (us1, (us2, (us3, tt))))), tt)

  abbrev Post : Val → SProp 𝓤
  Post = (walk_of 𝓛 (ended E) (stayed E) (spec E 𝓛)).post bound

  abbrev Lent : (Owner E).Denot → List (Item 𝓤)
  Lent n = ‵ (fobs γ ((Owner E).coded.code n)) ∷ ‵ (fbor κ (Borrowed (mem (Owner E)) sb so γ)) ∷ ‵ (flft κ q) ∷ []

  leaves : us0 ≡ vptr sb so ∷ [] → (new : (Owner E).Denot) → Says0 E d new → Says1 E d i x new → ent 𝓤 (⋆ 𝓛 (Lent new ++ ‵ (unit.own_val tt (vunit ∷ [])) ∷ [])) (Post vunit)
  leaves passed new same told =
      qed 𝓛 (Lent new ++ ‵ (unit.own_val tt (vunit ∷ [])) ∷ []) ∵
      suffices ! _ (ends_at 𝓛 (ended E) (stayed E) (spec E 𝓛) bound vunit tt (new, (tt, (tt, (tt, tt)))) (tt, (tt, (tt, (tt, tt))))) $ says_two ! same told $
      nothing ! $ move ! (3 ∷ 0 ∷ []) $ join ! $ frame ! $ feq_i ! (List Val) us0 (vptr sb so ∷ []) passed $ fjoin3 ! $
      nothing ! $ nothing ! $ fjoin ! $ nothing ! $ fjoin ! $ nothing ! $ fjoin ! $ move ! (1 ∷ 0 ∷ []) $ fjoin ! $ done !

  abbrev Had : Val → List (Item 𝓤)
  Had v = Lent d ++ ‵ ((R E).own_val x (v ∷ [])) ∷ []

  abbrev given : Val → List Val
  given v = vptr sb so ∷ word start.ptr ∷ vint w64 i ∷ v ∷ []

  walk : us0 ≡ vptr sb so ∷ [] → Asks0 E d start → Asks1 E d i → i < 2 ^ 64 → (v : Val) → Good (layout (R E)) v → ent 𝓤 (⋆ 𝓛 (Had v)) (WpFn 𝓤 H C Λ (function E) (given v) Post)
  walk passed is_start lt fits v good =
      let w = width E in
      let new : (Owner E).Denot = record { mark = d.mark; at = d.at; held = set d.held i (Some x) } in
      qed 𝓛 (Had v) ∵ enter ! C Λ (function E) (given v) _ $
      alloc_all ! (λ l. pass_all ! refl ((tt, tt), (word-Good [] start.ptr, ((tt, record { fits = fits }), (good, tt)))) $
      let En : Env 𝓤 H = env (function E).locals l in
      opens ! tt (Owner E) {h = d} sb so (λ vs. move ! (1 ∷ []) $ fsplit ! $ move ! (1 ∷ []) $
      in_a_block ! d.at (λ p. places_owned (R E) p d.held) (id⊢ 𝓤 (never 𝓤)) (λ b o e. fsplit ! $ flt_l ! (λ small.
      let narrow : w < 2 ^ 64 = omega (arith, one_below (length d.held) w (2 ^ 63) (omega arith) small) in
      let near : i * w < 2 ^ 64 = omega (arith, times_below i (length d.held) w (2 ^ 63) (omega arith) small) in
      take_at ! 2 $ rewrite ! 0 (λ (p : Ptr). ‵ (fat full_share (layout (Start E)) (l 2) 0 (word p))) (is_start ∙ e) refl $ give_at ! 2 $
      first ! $ blocks ! $
      sets ! (bin ! (get ! refl) (size_lit ! (record { fits = narrow })) (record { fits = near })) refl (tt, record { fits = near }) $
      sets ! (bin ! (get_in ! (fld ! refl (stop !)) (sub ! 0 refl (whole !))) (get ! refl) tt) refl (tt, tt) $
      use1 𝓛 (‵ (place (R E) b (i * w + o) (get_or d.held i None)) ⊛ ‵ (Others E 𝓛 b o d.held i)) (place_out E 𝓛 b o d.held i lt) $ split ! $
      use1 𝓛 (‵ (place (R E) b (i * w + o) None)) (emptied E 𝓛 b (i * w + o) (get_or d.held i None)) $
      as_written ! (elτ E) b (i * w + o) $
      -- [the room; the other places; the mark; its cell; the open borrow; what is seen of it; what its lender has; what the value owns]
      sets ! (of_opd ! (get ! refl)) refl good $ assigns_last ! (of_opd ! (get ! refl)) (through ! refl (stop !)) (init ! 0 refl good) $
      exec ! C Λ En (after 1 (function E).body) (at_ret En Post) $ sets ! (of_opd ! (unit_lit !)) refl (tt, tt) $
      move ! (0 ∷ 7 ∷ []) $ use2 𝓛 (‵ (place (R E) b (i * w + o) (Some x))) (value_in 0 E.row E.laws 𝓛 x b (i * w + o) v) $
      use2 𝓛 (‵ (places (R E) b o new.held)) (place_in E 𝓛 b o d.held i lt (Some x)) $
      flt_i ! (length new.held * w) (2 ^ 63) (subst (λ k. k * w < 2 ^ 63) (sym (length-set d.held i (Some x))) small) $ fjoin ! $
      rewrite ! 0 (λ (p : Ptr). ‵ (places_owned (R E) p new.held)) (sym e) refl $ move ! (1 ∷ 0 ∷ []) $ fjoin ! $ move ! (1 ∷ 0 ∷ []) $
      closes ! tt (Owner E) new vs sb so $
      returns ! (look_at ! 0 refl) $ free_all ! refl $ keep ! (0 ∷ 1 ∷ 2 ∷ []) $ feq_i ! (List Val) (vunit ∷ []) (vunit ∷ []) refl $ move ! (1 ∷ 2 ∷ 3 ∷ 0 ∷ []) $
      by ! (leaves passed new refl refl)))))

  abbrev Handed : Type 1
  Handed = ent 𝓤 (on_entry 𝓛 (ended E).signature (κ, tt) (q, tt) (self, (start, (i, (x, tt)))) (us0, (us1, (us2, (us3, tt))))) (WpFn 𝓤 H C Λ (function E) (us0 ++ (us1 ++ (us2 ++ (us3 ++ [])))) Post)

  handed : Asks0 E d start → Asks1 E d i → Handed
  handed is_start lt =
      qed 𝓛 ((‵ (flft κ q) ⊛ ‵ ftrue) ∷ ‵ (owns (MutRef (named 0) κ (Owner E) ∷ Start E ∷ usize ∷ R E ∷ []) (self, (start, (i, (x, tt)))) (us0, (us1, (us2, (us3, tt))))) ∷ []) ∵
      split ! $ move ! (2 ∷ []) $ fsplit ! $ fsplit3 ! $ feq_l ! (λ e0. move ! (2 ∷ []) $
      fsplit ! $ word_had ! start.ptr us1 (λ e1. fsplit ! $ fsplit ! $ feq_l ! (λ e2. flt_l ! (λ fits.
      fsplit ! $ stored E.row E.laws ! x us3 (λ v e3 good. keep ! (2 ∷ 3 ∷ 4 ∷ 0 ∷ []) $
      by ! (subst (λ (ws : List Val × List Val × List Val × List Val). ent 𝓤 (⋆ 𝓛 (Had v)) (WpFn 𝓤 H C Λ (function E) (ws.0 ++ (ws.1 ++ (ws.2 ++ (ws.3 ++ [])))) Post))
      (λ j. (sym e0 j, sym e1 j, sym e2 j, sym e3 j)) (walk e0 is_start lt fits v good)))))))

meets : (E : El) {M : Type 1} {𝓤 : Ura M} (𝓛 : Logic 𝓤) (𝓣 : Tables 𝓤 𝓛.H)
    → Meets 𝓛 (ended E).signature (WpFn 𝓤 𝓛.H 𝓣.C 𝓣.Λ (function E)) (closing 𝓛 (ended E) (spec E 𝓛))
meets E {𝓤 = 𝓤} 𝓛 𝓣 =
    walk_Meets 𝓛 (ended E) (stayed E)
    (Goes-ref 𝓛 1 0 tt (plain (λ _. Owner E)), (Goes-dropped 𝓛 1 (plain (λ _. Start E)) no (λ κs x f. refl), (Goes-dropped 𝓛 1 (plain (λ _. usize)) no (λ κs x f. refl), (Goes-dropped 𝓛 1 (plain (λ _. R E)) no (λ κs x f. refl), tt))))
    (spec E 𝓛) (WpFn 𝓤 𝓛.H 𝓣.C 𝓣.Λ (function E)) (WpFn-mono 𝓤 𝓛.H 𝓛.laws 𝓣 (function E))
    (λ z. let a = z.0.3 in let us = z.0.4 in let On : SProp 𝓤 = on_entry 𝓛 (ended E).signature z.0.0 z.0.1 a us in
    needs_more 𝓤 (Asks0 E a.0.now a.1.0) On (fact 𝓤 (Asks1 E a.0.now a.1.1.0)) (λ is_start. needs 𝓤 (Asks1 E a.0.now a.1.1.0) On
    (handed E 𝓛 𝓣.C 𝓣.Λ z.0.0.0 z.0.1.0 a.0.ref_ptr.0 a.0.ref_ptr.1 a.0.ghost_name a.0.now a.1.0 a.1.1.0 a.1.1.1.0 us.0 us.1.0 us.1.1.0 us.1.1.1.0 is_start)))

pub put_spec : {M : Type 1} → stated.statement M
unfolding tables_of
put_spec 𝓤 𝓛 𝓜 𝓡 wired X LX y =
    let E : El = record { row = X; laws = LX } in
    let 𝓣 : Tables 𝓤 𝓛.H = tables_of 𝓤 𝓛.H 𝓜 (tables 𝓤 𝓛.H 𝓜 𝓡 𝓡.env) in
    let k = key (args E) in let c = closing 𝓛 (ended E) (spec E 𝓛) in
    spared 𝓛 (ended E).signature (𝓡.run (𝓡.env k)) (run_framed 𝓤 𝓛.H 𝓜 𝓡 (𝓡.env k)) 1 (X.lives, tt) c
    (entered 𝓤 𝓛.H (triple_of 𝓛 (ended E).signature c) 𝓣.C 𝓣.Λ k (function E) (code.unfolded 𝓤 𝓛.H 𝓜 𝓡 wired (X, tt)) (meets E 𝓛 𝓣))
    ((y.0.0, y.0.1, tt, y.0.3, y.0.4), y.1)
