-- How often a place is in a list.
use Rattle.std.proofs.Common.{◌≡◌, ℕ, zero, suc, ◌+◌, ◌≤◌, ◌⊎◌, Bool, true, false, cond, nat_eq, List, [], ◌∷◌, ◌++◌, slice_get, Some, refl, sym, ap, subst, inl, inr, arith, zero-add}
use Rattle.std.proofs.lemmas.Bool.{eq-eqb, eqb-true, eqb-false}
use Rattle.node_chain.specs.Links.{times}

by_test : (a b : ℕ) (t : Bool) → nat_eq a b ≡ t → (a ≡ b) ⊎ (a ≡ b → ⊥)
by_test a b true e = inl (eqb-true a b e)
by_test a b false e = inr (eqb-false a b e)

-- two numbers are the same, or not
pub same_or_not : (a b : ℕ) → (a ≡ b) ⊎ (a ≡ b → ⊥)
same_or_not a b = by_test a b (nat_eq a b) refl

-- a place is in a list behind it once more
pub times-head : (p : ℕ) (ps : List ℕ) → times p (p ∷ ps) ≡ 1 + times p ps
times-head p ps = ap (λ (t : Bool). cond t 1 0 + times p ps) (eq-eqb p p refl)

-- a place is in a list that it begins
pub times-here : (p : ℕ) (ps : List ℕ) → 1 ≤ times p (p ∷ ps)
times-here p ps = omega (arith, times-head p ps)

-- a place of a list is one of a longer list
pub times-there : (r p : ℕ) (ps : List ℕ) → 1 ≤ times r ps → 1 ≤ times r (p ∷ ps)
times-there r p ps i = omega (arith, i)

-- the count in two lists is the sum of the counts
pub times-append : (p : ℕ) (xs ys : List ℕ) → times p (xs ++ ys) ≡ times p xs + times p ys
times-append p [] ys = sym (zero-add (times p ys))
times-append p (x ∷ xs) ys = omega (arith, times-append p xs ys)

off : (r p : ℕ) (t : Bool) → nat_eq r p ≡ t → (r ≡ p → ⊥) → ◌≡◌ {A = ℕ} (cond t 1 0) 0
off r p true e not_same = absurd (not_same (eqb-true r p e))
off r p false e not_same = refl

-- a place is in a list behind another as often as in the list
pub times-not : (r p : ℕ) (ps : List ℕ) → (r ≡ p → ⊥) → times r (p ∷ ps) ≡ times r ps
times-not r p ps not_same =
    let none : ◌≡◌ {A = ℕ} (cond (nat_eq r p) 1 0) 0 = off r p (nat_eq r p) refl not_same in
    omega (arith, none)

-- a place of a list is its first or one of the rest
pub times-cases : (r p : ℕ) (ps : List ℕ) → 1 ≤ times r (p ∷ ps) → (r ≡ p) ⊎ (1 ≤ times r ps)
times-cases r p ps i = elim (same_or_not r p) [
  | inl same ↦ inl same
  | inr not_same ↦ inr (subst (λ k. 1 ≤ k) (times-not r p ps not_same) i)
]

-- what is in a list is no place that is not
pub not_in : (x r : ℕ) (ps : List ℕ) → times x ps ≡ 0 → 1 ≤ times r ps → r ≡ x → ⊥
not_in x r ps none i same =
    let there : 1 ≤ times x ps = subst (λ k. 1 ≤ times k ps) same i in
    omega (arith, there, none)

pub some-same : {X : Type 0} (x y : X) → Some x ≡ Some y → x ≡ y
some-same x y e = cc

-- what stands at an index is in the list
pub times-listed : (xs : List ℕ) (i x : ℕ) → slice_get xs i ≡ Some x → 1 ≤ times x xs
times-listed [] i x e = cc
times-listed (y ∷ ys) zero x e =
    let same : y ≡ x = some-same y x e in
    subst (λ k. 1 ≤ times k (y ∷ ys)) same (times-here y ys)
times-listed (y ∷ ys) (suc i) x e = times-there x y ys (times-listed ys i x e)

-- a place that is in a list once is at one index
pub once-index : (xs : List ℕ) (i j x : ℕ) → times x xs ≤ 1 → slice_get xs i ≡ Some x → slice_get xs j ≡ Some x → i ≡ j
once-index [] i j x once e f = cc
once-index (y ∷ ys) zero zero x once e f = refl
once-index (y ∷ ys) zero (suc j) x once e f =
    let same : y ≡ x = some-same y x e in
    let head : times x (y ∷ ys) ≡ 1 + times x ys = subst (λ k. times x (k ∷ ys) ≡ 1 + times x ys) (sym same) (times-head x ys) in
    let again = times-listed ys j x f in absurd (omega (arith, head, again, once))
once-index (y ∷ ys) (suc i) zero x once e f =
    let same : y ≡ x = some-same y x f in
    let head : times x (y ∷ ys) ≡ 1 + times x ys = subst (λ k. times x (k ∷ ys) ≡ 1 + times x ys) (sym same) (times-head x ys) in
    let again = times-listed ys i x e in absurd (omega (arith, head, again, once))
once-index (y ∷ ys) (suc i) (suc j) x once e f =
    let less : times x ys ≤ 1 = omega (arith, once) in
    ap (λ k. suc k) (once-index ys i j x less e f)

-- a place of a list is its last or one of those before it
pub times-after : (r p : ℕ) (ps : List ℕ) → 1 ≤ times r (ps ++ p ∷ []) → (1 ≤ times r ps) ⊎ (r ≡ p)
times-after r p ps i = elim (same_or_not r p) [
  | inl same ↦ inr same
  | inr off ↦ let none = times-not r p [] off in let sum = times-append r ps (p ∷ []) in inl (omega (arith, i, sum, none))
]
