-- Sums over a list against the terms of its members, and members of parts.
use Rattle.std.proofs.Common.{◌≡◌, ℕ, zero, suc, ◌+◌, ◌≤◌, List, [], ◌∷◌, length, Some, refl, ap, inl, inr, arith}
use Rattle.std.specs.Prelude.{sum_by, slice_get, flat_map}
use Rattle.std.specs.List.{range_with_len}
use Rattle.std.proofs.lemmas.List.Sums.{sum_by-cons, sum_by-append}
use Rattle.slot_facts.proofs.Lists.Members.{Has}

-- the term of a member is part of the sum
pub term-le_sum_by : {X : Type 0} (f : X → ℕ) (xs : List X) (x : X) → Has xs x → f x ≤ sum_by f xs
term-le_sum_by f [] x at = absurd at
term-le_sum_by f (y ∷ ys) x (inl e) = omega (arith, sum_by-cons f y ys, ap f e)
term-le_sum_by f (y ∷ ys) x (inr at) = omega (arith, sum_by-cons f y ys, term-le_sum_by f ys x at)

-- where each item counts for one or more, there are no more items than their sum
pub length-at_most_sum : {X : Type 0} (f : X → ℕ) (xs : List X) → ((x : X) → Has xs x → 1 ≤ f x) → length xs ≤ sum_by f xs
length-at_most_sum f [] some = omega arith
length-at_most_sum f (x ∷ xs) some =
    omega (arith, some x (inl refl), sum_by-cons f x xs, length-at_most_sum f xs (λ y at. some y (inr at)))

-- a member stands at some place
pub place_of_member : {X : Type 0} (xs : List X) (x : X) → Has xs x → (k : ℕ) × (slice_get xs k ≡ Some x)
place_of_member [] x at = absurd at
place_of_member (y ∷ ys) x (inl e) = (0, ap Some e)
place_of_member (y ∷ ys) x (inr at) =
    let r = place_of_member ys x at in
    (suc r.0, r.1)

-- a sum over lists joined end to end whose parts are no more is no more
pub sum_by-le_joined : {X Y : Type 0} (f g : Y → ℕ) (h i : X → List Y) (xs : List X) → ((x : X) → Has xs x → sum_by f (h x) ≤ sum_by g (i x)) → sum_by f (flat_map h xs) ≤ sum_by g (flat_map i xs)
sum_by-le_joined f g h i [] le = omega arith
sum_by-le_joined f g h i (x ∷ xs) le =
    omega (arith, sum_by-append f (h x) (flat_map h xs), sum_by-append g (i x) (flat_map i xs), le x (inl refl), sum_by-le_joined f g h i xs (λ y at. le y (inr at)))

-- and along a range against the same range shifted
pub sum_by-le_shifted : {Y : Type 0} (f g : Y → ℕ) (h i : ℕ → List Y) (a b n d : ℕ) → a + d ≡ b → ((k m : ℕ) → k + d ≡ m → sum_by f (h k) ≤ sum_by g (i m)) → sum_by f (flat_map h (range_with_len a n)) ≤ sum_by g (flat_map i (range_with_len b n))
sum_by-le_shifted f g h i a b zero d shift le = omega arith
sum_by-le_shifted f g h i a b (suc n) d shift le =
    omega (arith, sum_by-append f (h a) (flat_map h (range_with_len (a + 1) n)), sum_by-append g (i b) (flat_map i (range_with_len (b + 1) n)), le a b shift, sum_by-le_shifted f g h i (a + 1) (b + 1) n d (omega arith) le)
