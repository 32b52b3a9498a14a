-- Tests of the members of a list, and what a search finds.
use Rattle.std.proofs.Common.{◌≡◌, ℕ, zero, suc, ◌<◌, ◌⊎◌, Bool, true, false, cond, ◌&&◌, ◌||◌, ◌==◌, List, [], ◌∷◌, ◌++◌, length, take, Some, None, refl, sym, ap, ◌∙◌, subst, inl, inr, arith}
use Rattle.std.specs.Prelude.{slice_get, find}
use Rattle.std.specs.List.{list_any, list_all}
use Rattle.std.proofs.lemmas.Bool.{and_from, and_cases, false≢true, eqb-true, eq-eqb}
use Rattle.slot_facts.proofs.Lists.Members.{Has, list_any-from_Has, Has-from_list_any}

-- two truth values that follow from one another
pub same_tests : (a b : Bool) → (a ≡ true → b ≡ true) → (b ≡ true → a ≡ true) → a ≡ b
same_tests true b there back = sym (there refl)
same_tests false true there back = back refl
same_tests false false there back = refl

-- a list whose members pass, and a member that fails
pub list_all-from_Has : {X : Type 0} (p : X → Bool) (xs : List X) → ((x : X) → Has xs x → p x ≡ true) → list_all p xs ≡ true
list_all-from_Has p [] each = refl
list_all-from_Has p (x ∷ xs) each =
    and_from (p x) (list_all p xs) (each x (inl refl)) (list_all-from_Has p xs (λ y h. each y (inr h)))

pub fails-from_list_all : {X : Type 0} (p : X → Bool) (xs : List X) → list_all p xs ≡ false → (x : X) × Has xs x × (p x ≡ false)
fails-from_list_all p [] h = absurd (false≢true (sym h))
fails-from_list_all p (x ∷ xs) h =
    let rest = fails-from_list_all p xs in
    elim (and_cases (p x) (list_all p xs) h) [
      | inl a ↦ (x, inl refl, a)
      | inr b ↦ ((rest b).0, inr (rest b).1, (rest b).2)
    ]

-- what a search finds is a member that passes
pub find-Some : {X : Type 0} (p : X → Bool) (xs : List X) (x : X) → find p xs ≡ Some x → Has xs x × (p x ≡ true)
find-Some p [] x h = absurd (cc h)
find-Some p (y ∷ ys) x h =
    let rest = find-Some p ys x in
    elim (p y) as (λ b. b ≡ p y → cond b (Some y) (find p ys) ≡ Some x → Has (y ∷ ys) x × (p x ≡ true)) [
      | true ↦ λ e f. let same : y ≡ x = cc f in (inl same, sym (ap p same) ∙ sym e)
      | false ↦ λ e f. let r = rest f in (inr r.0, r.1)
    ] refl h

-- a search finds nothing where each member fails
pub None-from_fails : {X : Type 0} (p : X → Bool) (xs : List X) → ((x : X) → Has xs x → p x ≡ false) → find p xs ≡ None
None-from_fails p [] fails = refl
None-from_fails p (x ∷ xs) fails =
    rw (fails x (inl refl)) (None-from_fails p xs (λ y h. fails y (inr h)))

-- two tests that agree find the same
pub find-same : {X : Type 0} (p q : X → Bool) (xs : List X) → ((x : X) → Has xs x → p x ≡ q x) → find p xs ≡ find q xs
find-same p q [] same = refl
find-same p q (x ∷ xs) same =
    ap (λ b. cond b (Some x) (find p xs)) (same x (inl refl)) ∙ ap (λ o. cond (q x) (Some x) o) (find-same p q xs (λ y h. same y (inr h)))

pub list_any-same : {X : Type 0} (p q : X → Bool) (xs : List X) → ((x : X) → Has xs x → p x ≡ q x) → list_any p xs ≡ list_any q xs
list_any-same p q [] same = refl
list_any-same p q (x ∷ xs) same =
    ap (λ b. b || list_any p xs) (same x (inl refl)) ∙ ap (λ b. q x || b) (list_any-same p q xs (λ y h. same y (inr h)))

pub list_all-same : {X : Type 0} (p q : X → Bool) (xs : List X) → ((x : X) → p x ≡ q x) → list_all p xs ≡ list_all q xs
list_all-same p q [] same = refl
list_all-same p q (x ∷ xs) same =
    ap (λ b. b && list_all p xs) (same x) ∙ ap (λ b. q x && b) (list_all-same p q xs same)

-- a number that a list holds, by a test of equality
pub equal-from_Has : (xs : List ℕ) (x : ℕ) → Has xs x → list_any (λ y. y == x) xs ≡ true
equal-from_Has xs x h = list_any-from_Has (λ y. y == x) xs x h (eq-eqb x x refl)

pub Has-from_equal : (xs : List ℕ) (x : ℕ) → list_any (λ y. y == x) xs ≡ true → Has xs x
Has-from_equal xs x h =
    let r = Has-from_list_any (λ y. y == x) xs h in
    let same : r.0 ≡ x = eqb-true r.0 x r.2 in
    subst (λ y. Has xs y) same r.1

-- what stands at a place stands there in a longer list
pub slice_get-append : {X : Type 0} (xs ys : List X) (i : ℕ) (x : X) → slice_get xs i ≡ Some x → slice_get (xs ++ ys) i ≡ Some x
slice_get-append [] ys i x at = absurd (cc at)
slice_get-append (z ∷ xs) ys zero x at = at
slice_get-append (z ∷ xs) ys (suc i) x at = slice_get-append xs ys i x at

-- what stands at a place of a list that is longer by one
pub slice_get-push : {X : Type 0} (xs : List X) (y x : X) (i : ℕ) → slice_get (xs ++ y ∷ []) i ≡ Some x → ((i < length xs) × (slice_get xs i ≡ Some x)) ⊎ ((i ≡ length xs) × (x ≡ y))
slice_get-push [] y x zero h = inr (refl, cc h)
slice_get-push [] y x (suc i) h = absurd (cc h)
slice_get-push (z ∷ xs) y x zero h = inl (omega arith, h)
slice_get-push (z ∷ xs) y x (suc i) h =
    elim (slice_get-push xs y x i h) [
      | inl a ↦ inl (omega (arith, a.0), a.1)
      | inr b ↦ inr (ap suc b.0, b.1)
    ]

-- a member of the first part of a list, by its place
pub place-from_Has : {X : Type 0} (xs : List X) (i : ℕ) (x : X) → Has (take i xs) x → (j : ℕ) × (j < i) × (slice_get xs j ≡ Some x)
place-from_Has xs zero x h = absurd h
place-from_Has [] (suc i) x h = absurd h
place-from_Has (y ∷ xs) (suc i) x (inl e) = (0, omega arith, ap Some e)
place-from_Has (y ∷ xs) (suc i) x (inr h) =
    let r = place-from_Has xs i x h in
    (suc r.0, omega (arith, r.1), r.2)

pub Has-from_place : {X : Type 0} (xs : List X) (i j : ℕ) (x : X) → j < i → slice_get xs j ≡ Some x → Has (take i xs) x
Has-from_place xs zero j x below h = absurd (omega arith)
Has-from_place [] (suc i) j x below h = absurd (cc h)
Has-from_place (y ∷ xs) (suc i) zero x below h = inl (cc h)
Has-from_place (y ∷ xs) (suc i) (suc j) x below h = inr (Has-from_place xs i j x (omega arith) h)
