-- The places become room, whatever they hold, and the room goes back with the allocator's token.
use mathlib.Core.Path.{◌≡◌, refl, sym, ap, subst, ◌∙◌}
use Prim.Native.Nat.{ℕ, ◌*◌, ◌<◌, ◌^◌}
use native.Mathlib.Omega.{arith}
use mathlib.Core.List.{List, [], ◌∷◌, ◌++◌}
use lib.Dec.{T}
use lib.ListN.{length}
use seplogic.Ra.Ura.{Ura}
use base.Logic.{SProp, ent, sep, never, id⊢}
use base.Fml.{Lft, Share, Incl-trans, ftrue, froom, flft}
use mir.Syntax.{Fn, named, w64, ty_unit, ty_array}
use mir.MapTy.{inst_fn}
use mir.Val.{Val, vptr, vint, vunit, has_ty, WT}
use prog.Memory.{Memory, align, capped}
use prog.Capped.{capped_fits}
use prog.Routine.{Routine}
use prog.Wp.{Env, Calls, Loops, WpFn, Tables}
use types.Logic.{Logic}
use contract.Monad.{Fun, fact}
use contract.Running.{tables, tables_of}
use contract.BorrowLft.{◌⊑◌}
use sound.WpLaws.{WpFn-mono, FmC, fm_of}
use types.Kit.{Item, ⋆, ‵, raw, ◌⊛◌, given, later, await, learn, at_ret, ◌$◌, ◌∵◌, !, qed, by, move, keep, use1, split, join, group, rewrite, fsplit, fsplit3, fjoin, feq_i, feq_l, flt_l, suffices, done}
use types.Part.{whole, sub}
use types.Run.{stop, fld, unit_lit, of_opd, bin, size_word, align_word, and_then, no_more, first, blocks, exec, returns, enter}
use types.ByLocal.{alloc_all, pass_all, free_all, look_at, get, get_in, sets, lands_last, is, env}
use denote.Builtin.{RefOf, usize}
use denote.Exit.{yes, no}
use denote.RattleType.{RattleType, owns}
use denote.Memory.{hidden_shr}
use denote.RawPtr.{Ptr, ptr_val, in_a_block}
use denote.Ref.{Bor, ShrRef}
use denote.Signature.{plain}
use denote.Steps.{nothing}
use denote.Triple.Call.{calls_at_last}
use denote.Triple.Clauses.{Clauses, Ended, closing}
use denote.Triple.Entry.{on_entry}
use denote.Triple.Spec.{Meets, triple_of}
use denote.Triple.Statement.{Triple}
use denote.Triple.Table.{entered}
use denote.Triple.Walked.{needs, Stays, stay_dropped, walk_of, ends_at, Goes-dropped, walk_Meets}
use Rattle.std.proofs.alloc.Calls.{Al, Goes-blank, second, token, gives_key, Gives, at_gives, Gives-goes, Gives-Gives}
use Rattle.std.proofs.mem.Param.{El, R, elτ}
use Rattle.std.proofs.RawLayout.{as_raw}
use Rattle.std.proofs.RcSteps.{word, word-Good}
use Rattle.std.proofs.VecSteps.Shapes.{after}
use Rattle.node_chain.specs.Ownership.{places_owned, permits}
use Rattle.node_chain.specs.contracts.raw.Permit as P-type
use Rattle.node_chain.specs.contracts.raw.give_back as F
use Rattle.node_chain.specs.contracts.raw.give_back.Key.{name as key}
use Rattle.node_chain.proofs.Blocks.{width, to_room}
use Rattle.node_chain.proofs.Layouts.{Owner, Start, mark, mark_had, word_had, needs_more}
use Rattle.node_chain.proofs.Sizes.{uncapped, block_ty, block_size, block_align, both, Handle}
use Rattle.node_chain.proofs.raw.give_back.Statement as stated
use Rattle.node_chain.proofs.raw.give_back.Code as code

module _ (E : El) (Z : Al) where
  abbrev function : Fn
  function = inst_fn (both E Z) code.function

  abbrev ended : Ended
  ended = F.ended E.row Z.row Z.g Z.d Z.drops

  abbrev clauses : {M : Type 1} {𝓤 : Ura M} (𝓛 : Logic 𝓤) → (Memory → SProp 𝓤) → (Routine → Fun 𝓤) → Clauses 𝓤 ended
  clauses 𝓛 = F.clauses E.row Z.row Z.g Z.d Z.drops 𝓛

  abbrev Right : RattleType
  Right = P-type.the_row (R E) (Handle E Z) Z.g

  abbrev stayed : Stays ended.signature.params ended.kept
  stayed = (
    stay_dropped (RefOf (0 ∷ []) tt (plain (λ _. Handle E Z)) (λ _. tt)) yes,
    (
      stay_dropped (plain (λ _. Start E)) no,
      (stay_dropped (plain (λ _. usize)) yes, (stay_dropped (plain (λ _. Owner E)) no, (stay_dropped (plain (λ _. Right)) no, tt))),
    ),
  )

  abbrev Asks : Z.row.Denot → (Start E).Denot → ℕ → (Owner E).Denot → Right.Denot → Type 0
  Asks a start n owner right = (owner.at ≡ start.ptr) × (length owner.held ≡ n) × (right.at ≡ start.ptr) × (right.count ≡ n) × (right.alloc ≡ a)

module _ (E : El) (Z : Al) {M : Type 1} {𝓤 : Ura M} (𝓛 : Logic 𝓤) (at_mem : Memory → SProp 𝓤) (run : Routine → Fun 𝓤) (C : Calls 𝓤 𝓛.H) (Λ : Loops 𝓤 𝓛.H) (fm : FmC 𝓤 𝓛.H 𝓛.laws C)
    (callee : Triple 𝓤 (C (gives_key Z)) (Gives Z 𝓛 at_mem run))
    (κ κ₁ κ₂ : Lft) (q q₁ q₂ : Share) (short : κ ⊑ κ₂) (within : κ₂ ⊑ Z.row.lives) (ab ao : ℕ) (a : Z.row.Denot) (start : (Start E).Denot) (n : ℕ) (owner : (Owner E).Denot) (right : (Right E Z).Denot)
    (us0 us1 us2 us3 us4 : List Val) where
  open 𝓛 use {H, A}

  abbrev handle : Bor Z.row.Denot
  handle = record { ref_ptr = (ab, ao); now = a }

  abbrev others : Item 𝓤
  others = ‵ (flft κ₁ q₁) ⊛ ‵ (flft κ₂ q₂) ⊛ ‵ ftrue

  abbrev bound : (walk_of 𝓛 (ended E Z) (stayed E Z) (clauses E Z 𝓛 at_mem run)).Ghost
  bound = (((κ, (κ₁, (κ₂, tt))), (q, (q₁, (q₂, tt))), (short, tt), (handle, (start, (n, (owner, (right, tt))))), (us0, (us1, (us2, (us3, (us4, tt)))))), tt)

  abbrev Post : Val → SProp 𝓤
  Post = (walk_of 𝓛 (ended E Z) (stayed E Z) (clauses E Z 𝓛 at_mem run)).post bound

  leaves : ent 𝓤 (⋆ 𝓛 (‵ (flft κ q) ∷ others ∷ [])) (Post vunit)
  leaves =
      qed 𝓛 (‵ (flft κ q) ∷ others ∷ []) ∵
      suffices ! _ (ends_at 𝓛 (ended E Z) (stayed E Z) (clauses E Z 𝓛 at_mem run) bound vunit tt (tt, (tt, (tt, (tt, (tt, tt))))) (tt, (tt, (tt, (tt, (tt, tt)))))) $
      join ! $ feq_i ! (List Val) (vunit ∷ []) (vunit ∷ []) refl $ nothing ! $ nothing ! $ fjoin ! $ nothing ! $ fjoin ! $ nothing ! $ fjoin ! $ nothing ! $ fjoin ! $ nothing ! $ fjoin ! $
      join ! $ move ! (1 ∷ 0 ∷ []) $ join ! $ nothing ! $ move ! (1 ∷ 0 ∷ []) $ done !

  abbrev Had : List (Item 𝓤)
  Had =
      ‵ (places_owned (R E) owner.at owner.held) ∷ ‵ (permits (R E) (token Z right.alloc) right.at right.count)
      ∷ ‵ (hidden_shr (Handle E Z) κ a ab ao) ∷ ‵ (flft κ q) ∷ others ∷ []

  abbrev passed : List Val
  passed = vptr ab ao ∷ word start.ptr ∷ vint w64 n ∷ mark ∷ mark ∷ []

  walk : Asks E Z a start n owner right → n < 2 ^ 64 → ent 𝓤 (⋆ 𝓛 Had) (WpFn 𝓤 H C Λ (function E Z) passed Post)
  walk asked fits =
      let w = width E in let al : ℕ = capped (align (elτ E)) in let ps = owner.held in
      qed 𝓛 Had ∵ enter ! C Λ (function E Z) passed _ $
      alloc_all ! (λ l. pass_all ! refl ((tt, tt), (word-Good [] start.ptr, ((tt, record { fits = fits }), ((tt, (tt, tt)), ((tt, (tt, tt)), tt))))) $
      let En : Env 𝓤 H = env (function E Z).locals l in
      rewrite ! 0 (λ (p : Ptr). ‵ (places_owned (R E) p ps)) asked.0 refl $
      in_a_block ! start.ptr (λ p. places_owned (R E) p ps) (id⊢ 𝓤 (never 𝓤)) (λ b o e. fsplit ! $ flt_l ! (λ fit.
      let small : n * w < 2 ^ 63 = subst (λ k. k * w < 2 ^ 63) asked.1 fit in let bytes : n * w < 2 ^ 64 = omega arith in
      let y : (Gives Z 𝓛 at_mem run).Ghost = at_gives Z 𝓛 at_mem run κ q (ab, ao) a b o (n * w) al (block_ty E n) in
      rewrite ! 1 (λ (r : Z.row.Denot × Ptr × ℕ). ‵ (permits (R E) (token Z r.0) r.1 r.2)) (λ i. (asked.4 i, (asked.2 ∙ e) i, asked.3 i)) refl $
      use1 𝓛 (‵ (froom (ty_array (elτ E) (length ps)) b o)) (to_room E 𝓛 b ps o) $
      rewrite ! 0 (λ (k : ℕ). ‵ (froom (ty_array (elτ E) k) b o)) asked.1 refl $ as_raw ! (ty_array (elτ E) n) b o $
      first ! $ blocks ! $
      sets ! (is ! (of_opd ! (get_in ! (fld ! refl (stop !)) (sub ! 0 refl (whole !)))) (ap ptr_val e)) refl (tt, tt) $
      sets ! (is ! (bin ! (get ! refl) (size_word !) (record { fits = subst (λ (k : ℕ). k < 2 ^ 64) (sym (uncapped n w bytes)) bytes })) (ap (vint w64) (uncapped n w bytes))) refl (tt, record { fits = bytes }) $
      group ! 4 $ use1 𝓛 (raw ((Gives Z 𝓛 at_mem run).pre y))
      (Gives-goes Z 𝓛 at_mem run κ q (ab, ao) a (Incl-trans short within) b o (n * w) al (block_ty E n) (block_size E n bytes) (block_align E n) bytes (capped_fits (align (elτ E)))) $
      calls_at_last ! fm (Gives Z 𝓛 at_mem run) callee y (and_then ! (get ! refl) (and_then ! (get ! refl) (and_then ! (get ! refl) (and_then ! (align_word !) (no_more !))))) (λ v.
      use1 𝓛 (later (given (v ≡ vunit) (‵ (flft κ q)))) (Gives-Gives Z 𝓛 at_mem run κ q (ab, ao) a b o (n * w) al (block_ty E n) v) $ await ! tt $ learn ! (λ nothing_else.
      lands_last ! refl (subst (λ (z : Val). T (has_ty ty_unit z) × WT z) (sym nothing_else) (tt, tt)) $
      exec ! C Λ En (after 1 (function E Z).body) (at_ret En Post) $ sets ! (of_opd ! (unit_lit !)) refl (tt, tt) $
      returns ! (look_at ! 0 refl) $ free_all ! refl $ keep ! (0 ∷ 1 ∷ []) $ by ! leaves)))))

  abbrev Handed : Type 1
  Handed =
      ent 𝓤 (on_entry 𝓛 (ended E Z).signature (κ, (κ₁, (κ₂, tt))) (q, (q₁, (q₂, tt))) (handle, (start, (n, (owner, (right, tt))))) (us0, (us1, (us2, (us3, (us4, tt))))))
      (WpFn 𝓤 H C Λ (function E Z) (us0 ++ (us1 ++ (us2 ++ (us3 ++ (us4 ++ []))))) Post)

  handed : Asks E Z a start n owner right → Handed
  handed asked =
      qed 𝓛 ((‵ (flft κ q) ⊛ others) ∷ ‵ (owns (ShrRef (named 0) κ (Handle E Z) ∷ Start E ∷ usize ∷ Owner E ∷ Right E Z ∷ []) (handle, (start, (n, (owner, (right, tt))))) (us0, (us1, (us2, (us3, (us4, tt)))))) ∷ []) ∵
      split ! $ move ! (2 ∷ []) $ fsplit3 ! $ fsplit ! $ feq_l ! (λ e0. move ! (1 ∷ []) $ word_had ! start.ptr us1 (λ e1.
      move ! (1 ∷ []) $ fsplit3 ! $ fsplit ! $ feq_l ! (λ e2. flt_l ! (λ fits.
      fsplit ! $ mark_had ! E us3 (λ e3. move ! (1 ∷ []) $ fsplit ! $ fsplit ! $ mark_had ! E us4 (λ e4. keep ! (2 ∷ 0 ∷ 3 ∷ 4 ∷ 5 ∷ []) $
      by ! (subst (λ (ws : List Val × List Val × List Val × List Val × List Val). ent 𝓤 (⋆ 𝓛 Had) (WpFn 𝓤 H C Λ (function E Z) (ws.0 ++ (ws.1 ++ (ws.2 ++ (ws.3 ++ (ws.4 ++ []))))) Post))
      (λ j. (sym e0 j, sym e1 j, sym e2 j, sym e3 j, sym e4 j)) (walk asked fits))))))))

meets : (E : El) (Z : Al) {M : Type 1} {𝓤 : Ura M} (𝓛 : Logic 𝓤) (at_mem : Memory → SProp 𝓤) (run : Routine → Fun 𝓤) (𝓣 : Tables 𝓤 𝓛.H) → Triple 𝓤 (𝓣.C (gives_key Z)) (Gives Z 𝓛 at_mem run)
    → Meets 𝓛 (ended E Z).signature (WpFn 𝓤 𝓛.H 𝓣.C 𝓣.Λ (function E Z)) (closing 𝓛 (ended E Z) (clauses E Z 𝓛 at_mem run))
meets E Z {𝓤 = 𝓤} 𝓛 at_mem run 𝓣 callee =
    walk_Meets 𝓛 (ended E Z) (stayed E Z) (
      Goes-dropped 𝓛 3 (RefOf (0 ∷ []) tt (plain (λ _. Handle E Z)) (λ _. tt)) yes (λ κs x f. refl),
      (
        Goes-dropped 𝓛 3 (plain (λ _. Start E)) no (λ κs x f. refl),
        (
          Goes-dropped 𝓛 3 (plain (λ _. usize)) yes (λ κs x f. refl),
          (Goes-blank 𝓛 3 (plain (λ _. Owner E)) no (λ κs x f. tt), (Goes-blank 𝓛 3 (plain (λ _. Right E Z)) no (λ κs x f. tt), tt)),
        ),
      ),
    )
    (clauses E Z 𝓛 at_mem run) (WpFn 𝓤 𝓛.H 𝓣.C 𝓣.Λ (function E Z)) (WpFn-mono 𝓤 𝓛.H 𝓛.laws 𝓣 (function E Z))
    (λ z. let κs = z.0.0 in let qs = z.0.1 in let a = z.0.3 in let us = z.0.4 in
    let On : SProp 𝓤 = on_entry 𝓛 (ended E Z).signature κs qs a us in
    let start = a.1.0 in let n = a.1.1.0 in let owner = a.1.1.1.0 in let right = a.1.1.1.1.0 in
    let f0 = owner.at ≡ start.ptr in let f1 = length owner.held ≡ n in let f2 = right.at ≡ start.ptr in
    let f3 = right.count ≡ n in let f4 = right.alloc ≡ a.0.now in
    let s4 : SProp 𝓤 = fact 𝓤 f4 in let s3 : SProp 𝓤 = sep 𝓤 (fact 𝓤 f3) s4 in
    let s2 : SProp 𝓤 = sep 𝓤 (fact 𝓤 f2) s3 in let s1 : SProp 𝓤 = sep 𝓤 (fact 𝓤 f1) s2 in
    second 𝓤 (κs.1.0 ⊑ E.row.lives) (κs.1.1.0 ⊑ Z.row.lives) On (sep 𝓤 (fact 𝓤 f0) s1) (λ within.
    needs_more 𝓤 f0 On s1 (λ x0. needs_more 𝓤 f1 On s2 (λ x1. needs_more 𝓤 f2 On s3 (λ x2. needs_more 𝓤 f3 On s4 (λ x3. needs 𝓤 f4 On (λ x4.
    handed E Z 𝓛 at_mem run 𝓣.C 𝓣.Λ (fm_of 𝓤 𝓛.H 𝓛.laws 𝓣) callee κs.0 κs.1.0 κs.1.1.0 qs.0 qs.1.0 qs.1.1.0 z.0.2.0 within
    a.0.ref_ptr.0 a.0.ref_ptr.1 a.0.now start n owner right us.0 us.1.0 us.1.1.0 us.1.1.1.0 us.1.1.1.1.0 (x0, x1, x2, x3, x4))))))))

pub give_back_spec : {M : Type 1} → stated.statement M
unfolding tables_of
give_back_spec 𝓤 𝓛 𝓜 𝓡 wired X W LX LW g d dd met md =
    let E : El = record { row = X; laws = LX } in
    let Z : Al = record { row = W; laws = LW; g = g; d = d; drops = dd } in
    let 𝓣 : Tables 𝓤 𝓛.H = tables_of 𝓤 𝓛.H 𝓜 (tables 𝓤 𝓛.H 𝓜 𝓡 𝓡.env) in
    entered 𝓤 𝓛.H (triple_of 𝓛 (ended E Z).signature (F.spec X W g d dd 𝓛 𝓜.mem 𝓡.returns)) 𝓣.C 𝓣.Λ (key (both E Z)) (function E Z)
    (code.unfolded 𝓤 𝓛.H 𝓜 𝓡 wired (X, (W, tt)) d dd) (meets E Z 𝓛 𝓜.mem 𝓡.returns 𝓣 (met.deallocate dd))
