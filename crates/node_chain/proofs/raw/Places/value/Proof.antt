-- The place of the value lies so many widths after the start, and a reference shows it.
use mathlib.Core.Path.{◌≡◌, refl, sym, subst, ◌∙◌}
use Prim.Native.Nat.{ℕ, ◌+◌, ◌*◌, ◌<◌, ◌^◌}
use native.Mathlib.Omega.{arith}
use mathlib.Core.List.{List, [], ◌∷◌, ◌++◌}
use lib.ListN.{length, get_or}
use seplogic.Ra.Ura.{Ura}
use base.Fraction.{full_share}
use base.Logic.{SProp, ent, sep, never, id⊢}
use base.Fml.{Lft, Share, ftrue, fat, flft}
use mir.Syntax.{Fn, named, w64}
use mir.MapTy.{inst_fn}
use mir.Val.{Val, vptr, vint}
use prog.Wp.{Env, Calls, Loops, WpFn, Tables}
use types.Logic.{Logic}
use contract.Monad.{fact}
use contract.Running.{tables, tables_of}
use sound.WpLaws.{WpFn-mono}
use types.Kit.{Item, ⋆, ‵, ◌⊛◌, at_ret, ◌$◌, ◌∵◌, !, qed, by, move, keep, drop, use1, split, join, rewrite, fsplit, fjoin, feq_i, feq_l, flt_l, suffices, frame, done}
use types.Part.{whole, sub}
use types.Run.{stop, fld, of_opd, addr, bin, size_lit, first, blocks, exec, returns, enter}
use types.ByLocal.{alloc_all, pass_all, free_all, look_at, get, get_in, through, sets, sets_last, take_at, give_at, env}
use denote.Builtin.{RefOf, usize}
use denote.Exit.{yes, no}
use denote.RattleType.{owns}
use denote.Memory.{hidden_shr}
use denote.Param.{layout}
use denote.RawPtr.{Ptr, in_a_block}
use denote.Ref.{Bor, ShrRef}
use denote.Signature.{plain}
use denote.Opens.{hide, unhide}
use denote.Steps.{nothing}
use denote.Triple.Carry.{spared}
use denote.Triple.Clauses.{Clauses, Ended, closing}
use denote.Triple.Entry.{on_entry}
use denote.Triple.Spec.{Meets, triple_of}
use denote.Triple.Table.{entered, run_framed}
use denote.Triple.Walked.{says, needs, Stays, stay_dropped, walk_of, ends_at, Goes-dropped, walk_Meets}
use Rattle.std.specs.Prelude.{Some, None}
use Rattle.std.proofs.VecSteps.Shapes.{after}
use Rattle.std.proofs.RcSteps.{word, word-Good}
use Rattle.std.proofs.mem.Param.{El, R, args, el_x}
use Rattle.std.proofs.ptr.Rows.{times_below, one_below}
use Rattle.node_chain.specs.Raw.{HoldsValue}
use Rattle.node_chain.specs.Ownership.{place_lent, places_lent}
use Rattle.node_chain.specs.contracts.raw.Places.value.Key.{name as key}
use Rattle.node_chain.proofs.Blocks.{Held, width, within, place_shown}
use Rattle.node_chain.proofs.Layouts.{Owner, Start, word_had, needs_more}
use Rattle.node_chain.proofs.raw.Places.value.Statement as stated
use Rattle.node_chain.proofs.raw.Places.value.Code as code

module _ (E : El) where
  abbrev function : Fn
  function = inst_fn (args E) code.function

  abbrev ended : Ended
  ended = record {
    signature = record {
      lifetimes = 1;
      outlives = [];
      params = RefOf (0 ∷ []) tt (plain (λ _. Owner E)) (λ _. tt) ∷ plain (λ _. Start E) ∷ plain (λ _. usize) ∷ [];
      result = RefOf (0 ∷ []) tt (plain (λ _. R E)) (λ _. tt);
    };
    kept = (yes, (no, (no, tt)));
  }

  abbrev stayed : Stays ended.signature.params ended.kept
  stayed = (
    stay_dropped (RefOf (0 ∷ []) tt (plain (λ _. Owner E)) (λ _. tt)) yes,
    (
      stay_dropped (plain (λ _. Start E)) no,
      (stay_dropped (plain (λ _. usize)) no, tt),
    ),
  )

  abbrev Asks0 : (Owner E).Denot → (Start E).Denot → Type 0
  Asks0 d start = start.ptr ≡ d.at

  abbrev Asks1 : (Owner E).Denot → ℕ → Type 0
  Asks1 d i = HoldsValue d.held i

  abbrev Says : (Owner E).Denot → ℕ → Bor (el_x E) → Type 0
  Says d i r = get_or d.held i None ≡ Some r.now

  abbrev spec : {M : Type 1} {𝓤 : Ura M} (𝓛 : Logic 𝓤) → Clauses 𝓤 ended
  spec {𝓤 = 𝓤} 𝓛 κs a = record {
    ghost = Unit {0};
    requires = λ _. sep 𝓤 (fact 𝓤 (Asks0 a.0.now a.1.0)) (fact 𝓤 (Asks1 a.0.now a.1.1.0));
    ensures = λ _ r w. fact 𝓤 (Says a.0.now a.1.1.0 r);
  }

module _ (E : El) {M : Type 1} {𝓤 : Ura M} (𝓛 : Logic 𝓤) (C : Calls 𝓤 𝓛.H) (Λ : Loops 𝓤 𝓛.H)
    (κ : Lft) (q : Share) (sb so : ℕ) (d : (Owner E).Denot) (start : (Start E).Denot) (i : ℕ) (us0 us1 us2 : List Val) where
  open 𝓛 use {H, A}

  abbrev self : Bor (Owner E).Denot
  self = record { ref_ptr = (sb, so); now = d }

  abbrev bound : (walk_of 𝓛 (ended E) (stayed E) (spec E 𝓛)).Ghost
  bound = (((κ, tt), (q, tt), tt, (self, (start, (i, tt))), (us0, (us1, (us2, tt)))), tt)

  abbrev Post : Val → SProp 𝓤
  Post = (walk_of 𝓛 (ended E) (stayed E) (spec E 𝓛)).post bound

  abbrev Shr : (Bor (el_x E)) → Val → Item 𝓤
  Shr r v = ‵ ((ShrRef (named 0) κ (R E)).own_val r (v ∷ []))

  leaves : (r : Bor (el_x E)) (v : Val) → Says E d i r → ent 𝓤 (⋆ 𝓛 (‵ (flft κ q) ∷ Shr r v ∷ [])) (Post v)
  leaves r v told =
      qed 𝓛 (‵ (flft κ q) ∷ Shr r v ∷ []) ∵
      suffices ! _ (ends_at 𝓛 (ended E) (stayed E) (spec E 𝓛) bound v r (tt, (tt, (tt, tt))) (tt, (tt, (tt, tt)))) $ says ! told $
      nothing ! $ move ! (1 ∷ 0 ∷ []) $ join ! $ frame ! $ nothing ! $ nothing ! $ fjoin ! $ nothing ! $ fjoin ! $ nothing ! $ fjoin ! $ done !

  abbrev Had : List (Item 𝓤)
  Had = ‵ (hidden_shr (Owner E) κ d sb so) ∷ ‵ (flft κ q) ∷ []

  abbrev passed : List Val
  passed = vptr sb so ∷ word start.ptr ∷ vint w64 i ∷ []

  walk : Asks0 E d start → Asks1 E d i → i < 2 ^ 64 → ent 𝓤 (⋆ 𝓛 Had) (WpFn 𝓤 H C Λ (function E) passed Post)
  walk is_start asked fits =
      let x = asked.0 in let at_i = asked.1 in let lt = within d.held i x at_i in let w = width E in
      qed 𝓛 Had ∵ enter ! C Λ (function E) passed _ $
      alloc_all ! (λ l. pass_all ! refl ((tt, tt), (word-Good [] start.ptr, ((tt, record { fits = fits }), tt))) $
      let En : Env 𝓤 H = env (function E).locals l in
      unhide ! $ fsplit ! $ drop ! $ in_a_block ! d.at (λ p. places_lent (R E) p d.held κ) (id⊢ 𝓤 (never 𝓤)) (λ b o e.
      fsplit ! $ flt_l ! (λ small.
      let narrow : w < 2 ^ 64 = omega (arith, one_below (length d.held) w (2 ^ 63) (omega arith) small) in
      let near : i * w < 2 ^ 64 = omega (arith, times_below i (length d.held) w (2 ^ 63) (omega arith) small) in
      take_at ! 2 $ rewrite ! 0 (λ (p : Ptr). ‵ (fat full_share (layout (Start E)) (l 2) 0 (word p))) (is_start ∙ e) refl $ give_at ! 2 $
      first ! $ blocks ! $
      sets ! (bin ! (get ! refl) (size_lit ! (record { fits = narrow })) (record { fits = near })) refl (tt, record { fits = near }) $
      sets ! (bin ! (get_in ! (fld ! refl (stop !)) (sub ! 0 refl (whole !))) (get ! refl) tt) refl (tt, tt) $
      use1 𝓛 (‵ (place_lent (R E) b (i * w + o) (get_or d.held i None) κ)) (place_shown E 𝓛 b κ o d.held i lt) $
      rewrite ! 0 (λ (p : Held E). ‵ (place_lent (R E) b (i * w + o) p κ)) at_i refl $ hide ! $
      sets_last ! (addr ! (through ! refl (stop !))) refl (tt, tt) $
      exec ! C Λ En (after 1 (function E).body) (at_ret En Post) $ sets ! (of_opd ! (get ! refl)) refl (tt, tt) $
      feq_i ! (List Val) (vptr b (i * w + o) ∷ []) (vptr b (i * w + o) ∷ []) refl $ fjoin ! $
      returns ! (look_at ! 0 refl) $ free_all ! refl $ keep ! (1 ∷ 0 ∷ []) $
      by ! (leaves (record { ref_ptr = (b, i * w + o); now = x }) (vptr b (i * w + o)) at_i))))

  abbrev Handed : Type 1
  Handed = ent 𝓤 (on_entry 𝓛 (ended E).signature (κ, tt) (q, tt) (self, (start, (i, tt))) (us0, (us1, (us2, tt)))) (WpFn 𝓤 H C Λ (function E) (us0 ++ (us1 ++ (us2 ++ []))) Post)

  handed : Asks0 E d start → Asks1 E d i → Handed
  handed is_start asked =
      qed 𝓛 ((‵ (flft κ q) ⊛ ‵ ftrue) ∷ ‵ (owns (ShrRef (named 0) κ (Owner E) ∷ Start E ∷ usize ∷ []) (self, (start, (i, tt))) (us0, (us1, (us2, tt)))) ∷ []) ∵
      split ! $ move ! (2 ∷ []) $ fsplit ! $ fsplit ! $ feq_l ! (λ e0. move ! (1 ∷ []) $
      fsplit ! $ word_had ! start.ptr us1 (λ e1. fsplit ! $ fsplit ! $ feq_l ! (λ e2. flt_l ! (λ fits. keep ! (1 ∷ 2 ∷ []) $
      by ! (subst (λ (ws : List Val × List Val × List Val). ent 𝓤 (⋆ 𝓛 Had) (WpFn 𝓤 H C Λ (function E) (ws.0 ++ (ws.1 ++ (ws.2 ++ []))) Post))
      (λ j. (sym e0 j, sym e1 j, sym e2 j)) (walk is_start asked fits))))))

meets : (E : El) {M : Type 1} {𝓤 : Ura M} (𝓛 : Logic 𝓤) (𝓣 : Tables 𝓤 𝓛.H)
    → Meets 𝓛 (ended E).signature (WpFn 𝓤 𝓛.H 𝓣.C 𝓣.Λ (function E)) (closing 𝓛 (ended E) (spec E 𝓛))
meets E {𝓤 = 𝓤} 𝓛 𝓣 =
    walk_Meets 𝓛 (ended E) (stayed E)
    (Goes-dropped 𝓛 1 (RefOf (0 ∷ []) tt (plain (λ _. Owner E)) (λ _. tt)) yes (λ κs x f. refl), (Goes-dropped 𝓛 1 (plain (λ _. Start E)) no (λ κs x f. refl), (Goes-dropped 𝓛 1 (plain (λ _. usize)) no (λ κs x f. refl), tt)))
    (spec E 𝓛) (WpFn 𝓤 𝓛.H 𝓣.C 𝓣.Λ (function E)) (WpFn-mono 𝓤 𝓛.H 𝓛.laws 𝓣 (function E))
    (λ z. let a = z.0.3 in let us = z.0.4 in let On : SProp 𝓤 = on_entry 𝓛 (ended E).signature z.0.0 z.0.1 a us in
    needs_more 𝓤 (Asks0 E a.0.now a.1.0) On (fact 𝓤 (Asks1 E a.0.now a.1.1.0)) (λ is_start. needs 𝓤 (Asks1 E a.0.now a.1.1.0) On
    (handed E 𝓛 𝓣.C 𝓣.Λ z.0.0.0 z.0.1.0 a.0.ref_ptr.0 a.0.ref_ptr.1 a.0.now a.1.0 a.1.1.0 us.0 us.1.0 us.1.1.0 is_start)))

pub value_spec : {M : Type 1} → stated.statement M
unfolding tables_of
value_spec 𝓤 𝓛 𝓜 𝓡 wired X LX y =
    let E : El = record { row = X; laws = LX } in
    let 𝓣 : Tables 𝓤 𝓛.H = tables_of 𝓤 𝓛.H 𝓜 (tables 𝓤 𝓛.H 𝓜 𝓡 𝓡.env) in
    let k = key (args E) in let c = closing 𝓛 (ended E) (spec E 𝓛) in
    spared 𝓛 (ended E).signature (𝓡.run (𝓡.env k)) (run_framed 𝓤 𝓛.H 𝓜 𝓡 (𝓡.env k)) 1 (X.lives, tt) c
    (entered 𝓤 𝓛.H (triple_of 𝓛 (ended E).signature c) 𝓣.C 𝓣.Λ k (function E) (code.unfolded 𝓤 𝓛.H 𝓜 𝓡 wired (X, tt)) (meets E 𝓛 𝓣))
    ((y.0.0, y.0.1, tt, y.0.3, y.0.4), y.1)
