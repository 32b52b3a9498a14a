-- How the parts of a block are stored: a pointer is one word, and an owner takes no bytes.
use mathlib.Core.Path.{◌≡◌, refl, subst}
use mathlib.Core.List.{List, [], ◌∷◌, ◌++◌}
use Prim.Native.Nat.{ℕ}
use seplogic.Ra.Ura.{Ura}
use mir.Syntax.{Ty}
use mir.Val.{Val, vstruct, vcons, vnil, of_list}
use base.Fraction.{full_share}
use base.Logic.{SProp, ent, emp, ex, guard, sep, via, fst∗, snd∗, mono_r}
use contract.Monad.{fact, fact_i, fact_use}
use types.Logic.{Logic, sem}
use types.Kit.{Item, Goal, Seq, Step, step, prop, raw, use0, frame, ‵, some, ◌⊛◌, ◌$◌, ◌∵◌, !, qed, move, drop, use1, pick, split, check, show, fsplit, fjoin, fpick, fpack, feq_i, feq_l, rewrite, done}
use base.Fml.{fat}
use denote.RattleType.{RattleType, Valss}
use denote.Laws.{Typed, Is, shows}
use denote.Param.{param, layout}
use denote.Param.Laws.{Laws, param_laws}
use denote.Memory.{part_at}
use denote.RawPtr.{Ptr, RawPtr, ptr_val}
use denote.Shadow.{makes_shadow}
use denote.Steps.{nothing, peeks}
use denote.Struct.Struct.{Shape, Struct, within}
use denote.Struct.Owning.{shape}
use denote.Struct.Declared as Declared
use denote.Struct.Tuple.{Tuple, tuple_type}
use borrow.Table.OneValue.{part_in, part_out}
use Rattle.std.proofs.mem.Param.{El, R}
use Rattle.std.proofs.RcSteps.{Good, word}
use Rattle.node_chain.specs.contracts.raw.Places as P-type
use Rattle.node_chain.specs.contracts.raw.Origin as O-type

module _ (E : El) where
  abbrev pub Owner : RattleType
  Owner = P-type.the_row (R E)

  abbrev pub Start : RattleType
  Start = O-type.the_row (R E)

  -- the only field of an owner that code sees
  abbrev pub Mark : RattleType
  Mark = Struct (shape (P-type.the_type (R E)))

abbrev one_pointer : Shape
one_pointer = record { name = []; args = []; types = []; fields = RawPtr ∷ [] }

abbrev pub Word : RattleType
Word = Struct one_pointer

abbrev pub mark : Val
mark = vstruct (vcons (vstruct vnil) vnil)

-- an owner is made of nothing
pub mark_made : (E : El) {M : Type 1} {𝓤 : Ura M} (𝓛 : Logic 𝓤) → ent 𝓤 (emp 𝓤) (sem 𝓛 ((Mark E).own_val (tt, tt) (mark ∷ [])))
mark_made E 𝓛 =
    makes_shadow 𝓛 ((Mark E).own_val (tt, tt) (mark ∷ [])) (λ vss. (tt, ((λ uss. (tt, tt)), tt)))
    ((vstruct vnil ∷ [], tt), (refl, ((tt, (refl, tt)), tt)))

module _ {M : Type 1} {𝓤 : Ura M} {𝓛 : Logic 𝓤} {K : Type 0} {Γ : List (Item 𝓤)} {G : Goal 𝓤 𝓛.H} where
  -- what is owned of a pointer says which word it is
  pub word_had : K → (p : Ptr) (vs : List Val) → (vs ≡ word p ∷ [] → Seq K 𝓛 Γ G) → Seq K 𝓛 (‵ (Word.own_val (p, tt) vs) ∷ Γ) G
  word_had t p vs next =
      fpick t (λ vss. fsplit t $ feq_l t (λ all. fsplit t $ feq_l t (λ one. drop t $
      next (subst (λ (ws : List Val). vs ≡ vstruct (of_list (ws ++ [])) ∷ []) one all))))

  -- a pointer is made of nothing
  pub word_made : K → (p : Ptr) → Step K 𝓛 (‵ (Word.own_val (p, tt) (word p ∷ [])) ∷ Γ) G Γ G
  word_made t p = step (λ rest.
      nothing t $ feq_i t (List Val) (ptr_val p ∷ []) (ptr_val p ∷ []) refl $ fjoin t $
      feq_i t (List Val) (word p ∷ []) (word p ∷ []) refl $ fjoin t $
      fpack t (Valss (RawPtr ∷ [])) (within one_pointer (p, tt) (word p ∷ [])) (ptr_val p ∷ [], tt) $ rest)

  -- what is owned of an owner's field says that it has no bytes
  pub mark_had : K → (E : El) (vs : List Val) → (vs ≡ mark ∷ [] → Seq K 𝓛 Γ G) → Seq K 𝓛 (‵ ((Mark E).own_val (tt, tt) vs) ∷ Γ) G
  mark_had t E vs next =
      fpick t (λ vss. fsplit t $ feq_l t (λ all. fsplit t $ fpick t (λ uss. fsplit t $ feq_l t (λ one. drop t $ drop t $
      next (subst (λ (ws : List Val). vs ≡ vstruct (of_list (ws ++ [])) ∷ []) one all)))))

-- a value at a place is what it owns beside its bytes there
module _ (i : ℕ) (Y : RattleType) (L : Laws Y) {M : Type 1} {𝓤 : Ura M} (𝓛 : Logic 𝓤) where
  open 𝓛 use {H}

  pub value_out : (x : Y.Denot) (b o : ℕ) → ent 𝓤 (sem 𝓛 (part_at (param i Y) full_share x b o)) (ex 𝓤 (λ (v : Val). guard 𝓤 (Good (layout Y) v) (sep 𝓤 (H.at full_share (layout Y) b o v) (sem 𝓛 (Y.own_val x (v ∷ []))))))
  value_out x b o = qed 𝓛 (‵ (part_at (param i Y) full_share x b o) ∷ []) ∵
      use1 𝓛 (some (λ (v : Val). ‵ (fat full_share (layout Y) b o v) ⊛ ‵ (Y.own_val x (v ∷ [])))) (part_out 𝓛 (param i Y) refl full_share x b o) $
      pick ! (λ v. split ! $ move ! (1 ∷ []) $ peeks ! (param i Y) (Is (param i Y)) (shows 𝓛 (param i Y)) x (v ∷ []) (λ is.
      show ! (λ (w : Val). guard 𝓤 (Good (layout Y) w) (sep 𝓤 (H.at full_share (layout Y) b o w) (sem 𝓛 (Y.own_val x (w ∷ []))))) v $
      check ! (((param_laws i Y L).lawful 𝓛).typed x (v ∷ []) is).0 $ move ! (1 ∷ 0 ∷ []) $ done !))

  pub value_in : (x : Y.Denot) (b o : ℕ) (v : Val) → ent 𝓤 (sep 𝓤 (H.at full_share (layout Y) b o v) (sem 𝓛 (Y.own_val x (v ∷ [])))) (sem 𝓛 (part_at (param i Y) full_share x b o))
  value_in x b o v = part_in 𝓛 (param i Y) refl full_share x b o v

-- a value of one type is one machine value
alone : (τ : Ty) (vs : List Val) → Typed (τ ∷ []) vs → (v : Val) × ((vs ≡ v ∷ []) × Good τ v)
alone τ [] typed = absurd typed
alone τ (v ∷ []) typed = (v, (refl, typed.0))
alone τ (v ∷ w ∷ vs) typed = absurd typed.1

module _ (Y : RattleType) (L : Laws Y) {M : Type 1} {𝓤 : Ura M} {𝓛 : Logic 𝓤} {K : Type 0} {Γ : List (Item 𝓤)} {G : Goal 𝓤 𝓛.H} where
  -- a value is stored as one machine value of its type
  pub stored : K → (x : Y.Denot) (vs : List Val) → ((v : Val) → vs ≡ v ∷ [] → Good (layout Y) v → Seq K 𝓛 (‵ (Y.own_val x (v ∷ [])) ∷ Γ) G) → Seq K 𝓛 (‵ (Y.own_val x vs) ∷ Γ) G
  stored t x vs next =
      peeks t (param 0 Y) (Is (param 0 Y)) (shows 𝓛 (param 0 Y)) x vs (λ is.
      let one = alone (layout Y) vs (((param_laws 0 Y L).lawful 𝓛).typed x vs is) in
      rewrite t 0 (λ (us : List Val). ‵ (Y.own_val x us)) one.1.0 refl $ next one.0 one.1.0 one.1.1)

abbrev pub triple_val : Val → Val → Val → Val
triple_val u v w = vstruct (vcons u (vcons v (vcons w vnil)))

-- a tuple of three owns what its parts own
pub triple_of : {M : Type 1} {𝓤 : Ura M} (𝓛 : Logic 𝓤) (R S T : RattleType) (x : R.Denot) (y : S.Denot) (z : T.Denot) (u v w : Val)
    → ent 𝓤 (sep 𝓤 (sem 𝓛 (R.own_val x (u ∷ []))) (sep 𝓤 (sem 𝓛 (S.own_val y (v ∷ []))) (sem 𝓛 (T.own_val z (w ∷ [])))))
    (sem 𝓛 ((Tuple (R ∷ S ∷ T ∷ [])).own_val (x, y, z) (triple_val u v w ∷ [])))
triple_of 𝓛 R S T x y z u v w =
    qed 𝓛 (‵ (R.own_val x (u ∷ [])) ∷ ‵ (S.own_val y (v ∷ [])) ∷ ‵ (T.own_val z (w ∷ [])) ∷ []) ∵
    nothing ! $ move ! (3 ∷ 0 ∷ []) $ fjoin ! $ move ! (2 ∷ 0 ∷ []) $ fjoin ! $ move ! (1 ∷ 0 ∷ []) $ fjoin ! $
    feq_i ! (List Val) (triple_val u v w ∷ []) (triple_val u v w ∷ []) refl $ fjoin ! $
    fpack ! (Valss (R ∷ S ∷ T ∷ [])) (within (Declared.shape (tuple_type (R ∷ S ∷ T ∷ []))) (x, (y, (z, tt))) (triple_val u v w ∷ [])) (u ∷ [], (v ∷ [], (w ∷ [], tt))) $ done !

-- a fact that is asked for is learned
pub needs_more : {M : Type 1} (𝓤 : Ura M) (φ : Type 0) (P S : SProp 𝓤) {Q : SProp 𝓤} → (φ → ent 𝓤 (sep 𝓤 P S) Q) → ent 𝓤 (sep 𝓤 P (sep 𝓤 (fact 𝓤 φ) S)) Q
needs_more 𝓤 φ P S h =
    let all : SProp 𝓤 = sep 𝓤 (fact 𝓤 φ) S in
    fact_use 𝓤 φ (via 𝓤 all (snd∗ 𝓤 P all) (fst∗ 𝓤 (fact 𝓤 φ) S)) (λ x.
    via 𝓤 (sep 𝓤 P S) (mono_r 𝓤 P {Q = all} {Q' = S} (snd∗ 𝓤 (fact 𝓤 φ) S)) (h x))

-- facts that are promised are shown
module _ {M : Type 1} {𝓤 : Ura M} {𝓛 : Logic 𝓤} {K : Type 0} {Γ : List (Item 𝓤)} where
  pub says_two : K → {φ ψ : Type 0} {P : SProp 𝓤} → φ → ψ → Step K 𝓛 Γ (prop P) Γ (prop (sep 𝓤 P (sep 𝓤 (fact 𝓤 φ) (fact 𝓤 ψ))))
  says_two t {φ} {ψ} {P} x y = step (λ rest. record {
    prf = via 𝓤 P rest.prf (qed 𝓛 (raw P ∷ []) {P = sep 𝓤 P (sep 𝓤 (fact 𝓤 φ) (fact 𝓤 ψ))} (
        frame ! $ use0 𝓛 (raw (fact 𝓤 ψ)) (fact_i 𝓤 ψ (emp 𝓤) y) $ use0 𝓛 (raw (fact 𝓤 φ)) (fact_i 𝓤 φ (emp 𝓤) x) $ done !));
  })

  pub says_five : K → {f g h i j : Type 0} {P : SProp 𝓤} → f → g → h → i → j
      → Step K 𝓛 Γ (prop P) Γ (prop (sep 𝓤 P (sep 𝓤 (fact 𝓤 f) (sep 𝓤 (fact 𝓤 g) (sep 𝓤 (fact 𝓤 h) (sep 𝓤 (fact 𝓤 i) (fact 𝓤 j)))))))
  says_five t {f} {g} {h} {i} {j} {P} u v w x y = step (λ rest. record {
    prf = via 𝓤 P rest.prf (qed 𝓛 (raw P ∷ []) {P = sep 𝓤 P (sep 𝓤 (fact 𝓤 f) (sep 𝓤 (fact 𝓤 g) (sep 𝓤 (fact 𝓤 h) (sep 𝓤 (fact 𝓤 i) (fact 𝓤 j)))))} (
        frame ! $ use0 𝓛 (raw (fact 𝓤 j)) (fact_i 𝓤 j (emp 𝓤) y) $ use0 𝓛 (raw (fact 𝓤 i)) (fact_i 𝓤 i (emp 𝓤) x) $
        use0 𝓛 (raw (fact 𝓤 h)) (fact_i 𝓤 h (emp 𝓤) w) $ use0 𝓛 (raw (fact 𝓤 g)) (fact_i 𝓤 g (emp 𝓤) v) $ use0 𝓛 (raw (fact 𝓤 f)) (fact_i 𝓤 f (emp 𝓤) u) $ done !));
  })
