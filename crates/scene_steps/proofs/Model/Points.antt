-- The points of a range: without the first number, with one more, and with those of a further cycle.
use Rattle.std.proofs.Common.{◌≡◌, ℕ, zero, suc, ◌+◌, ◌-◌, ◌*◌, ◌/◌, ◌%◌, ◌<◌, ◌≤◌, Bool, true, false, ◌&&◌, ◌||◌, cond, ◌==◌, List, [], ◌∷◌, ◌++◌, filter, add-one, refl, sym, ap, ap₂, ◌∙◌, inl, inr, arith}
use Rattle.std.specs.Prelude.{nat_le, nat_lt}
use Rattle.std.specs.List.{list_any, range_with_len}
use Rattle.std.proofs.lemmas.Bool.{cases_order, cond-false, cond-true, eq-eqb, ne_eqb, lt-ltb, le-ltb, false_from_ne_true, or_right}
use Rattle.std.proofs.lemmas.List.Folds.{list_any-append}
use Rattle.slot_core.specs.Runs.Points.{is_point}
use Rattle.slot_core.specs.Runs.Scenes.{horizon}
use Rattle.slot_facts.proofs.Lists.Members.{Has, Has-filter_passes, Has-range_with_len_bounds, Has-append_right}
use Rattle.slot_facts.proofs.Lists.RangeFilters.{filter-parts, filter-all}
use Rattle.slot_facts.proofs.Lists.Tests.{equal-from_Has, Has-from_equal}
use Rattle.slot_facts.proofs.Plans.Horizons.{past_now, further_now}
use Rattle.slot_facts.proofs.Plans.SetPoints.{points_from}
use Rattle.scene_steps.specs.Steps.{with_point}
use Rattle.scene_steps.proofs.Spans.Points.{with_point-before}

-- tests that agree on the members of a list keep the same ones
pub filter-same : {X : Type 0} (p q : X → Bool) (xs : List X) → ((x : X) → Has xs x → p x ≡ q x) → filter p xs ≡ filter q xs
filter-same p q [] same = refl
filter-same p q (x ∷ xs) same =
    ap (λ b. cond b (x ∷ filter p xs) (filter p xs)) (same x (inl refl)) ∙ ap (λ ys. cond (q x) (x ∷ ys) ys) (filter-same p q xs (λ y at. same y (inr at)))

-- the points of a range lie in it
points-bounds : (p : ℕ → Bool) (a n x : ℕ) → Has (filter p (range_with_len a n)) x → (a ≤ x) × (x < a + n)
points-bounds p a n x at =
    Has-range_with_len_bounds a n x (Has-filter_passes p (range_with_len a n) x at).0

-- those above the first number of a range are those of the rest
pub points-above : (p : ℕ → Bool) (a n : ℕ) → filter (nat_lt a) (filter p (range_with_len a (suc n))) ≡ filter p (range_with_len (a + 1) n)
points-above p a n = by_test (p a)
  where
    rest : List ℕ
    rest = filter p (range_with_len (a + 1) n)

    above : filter (nat_lt a) rest ≡ rest
    above = filter-all (nat_lt a) rest (λ x at. lt-ltb a x (omega (arith, points-bounds p (a + 1) n x at)))

    by_test : (b : Bool) → filter (nat_lt a) (cond b (a ∷ rest) rest) ≡ rest
    by_test true = cond-false (nat_lt a a) (a ∷ filter (nat_lt a) rest) (filter (nat_lt a) rest) (le-ltb a a (omega arith)) ∙ above
    by_test false = above

-- a point below all others comes first
with_point-first : (x : ℕ) (points : List ℕ) → ((y : ℕ) → Has points y → x < y) → with_point x points ≡ x ∷ points
with_point-first x [] below = refl
with_point-first x (y ∷ points) below = with_point-before x y points (below y (inl refl))

-- the points of a range by a test that one number more passes are those before with it
pub with_point-more : (p q : ℕ → Bool) (x a n : ℕ) → a ≤ x → x < a + n → q x ≡ true → ((y : ℕ) → (x ≡ y → ⊥) → q y ≡ p y) → with_point x (filter p (range_with_len a n)) ≡ filter q (range_with_len a n)
with_point-more p q x a zero low high passes same = absurd (omega arith)
with_point-more p q x a (suc n) low high passes same =
    elim (cases_order x a) [
      | inl here ↦ at_first here
      | inr other ↦ elim other [
        | inl before ↦ absurd (omega arith)
        | inr later ↦ past_first later (with_point-more p q x (a + 1) n (omega arith) (omega arith) passes same)
      ]
    ]
  where
    old : List ℕ
    old = filter p (range_with_len (a + 1) n)

    at_first : x ≡ a → with_point x (filter p (range_with_len a (suc n))) ≡ filter q (range_with_len a (suc n))
    at_first here =
        let rest = filter-same q p (range_with_len (a + 1) n) (λ y at. same y (λ e. absurd (omega (arith, Has-range_with_len_bounds (a + 1) n y at)))) in
        let passes_a : q a ≡ true = ap q (sym here) ∙ passes in
        by_test (p a) ∙ ap₂ (λ y ys. y ∷ ys) here (sym rest) ∙ sym (cond-true (q a) _ _ passes_a)
      where
        by_test : (b : Bool) → with_point x (cond b (a ∷ old) old) ≡ x ∷ old
        by_test true = cond-true (x == a) _ _ (eq-eqb x a here) ∙ ap (λ y. y ∷ old) (sym here)
        by_test false = with_point-first x old (λ y at. omega (arith, points-bounds p (a + 1) n y at))

    past_first : a < x → with_point x old ≡ filter q (range_with_len (a + 1) n) → with_point x (filter p (range_with_len a (suc n))) ≡ filter q (range_with_len a (suc n))
    past_first later rest =
        by_test (p a) ∙ ap₂ (λ b ys. cond b (a ∷ ys) ys) (sym (same a (λ e. absurd (omega arith)))) rest
      where
        by_test : (b : Bool) → with_point x (cond b (a ∷ old) old) ≡ cond b (a ∷ with_point x old) (with_point x old)
        by_test true = cond-false (x == a) _ _ (ne_eqb x a (λ e. absurd (omega arith))) ∙ cond-false (nat_lt x a) _ _ (le-ltb x a (omega arith))
        by_test false = refl

-- the number is a planned point plus a multiple of the cycle
abbrev is_planned : ℕ → List ℕ → ℕ → Bool
is_planned cycle planned p = list_any (λ q. nat_le q p && (p - q) % cycle == 0) planned

-- a number among the own points is a point
is_point-own : (cycle : ℕ) (planned xs ys : List ℕ) (x : ℕ) → is_point cycle planned (xs ++ x ∷ ys) x ≡ true
is_point-own cycle planned xs ys x =
    or_right _ _ (equal-from_Has (xs ++ x ∷ ys) x (Has-append_right xs (x ∷ ys) x (inl refl)))

-- another number is one where it was without it
is_point-besides : (cycle : ℕ) (planned xs ys : List ℕ) (x y : ℕ) → (x ≡ y → ⊥) → is_point cycle planned (xs ++ x ∷ ys) y ≡ is_point cycle planned (xs ++ ys) y
is_point-besides cycle planned xs ys x y other =
    let equals = λ (q : ℕ). q == y in
    let without = list_any-append equals xs (x ∷ ys) ∙ ap (λ b. list_any equals xs || (b || list_any equals ys)) (ne_eqb x y other) ∙ sym (list_any-append equals xs ys) in
    ap (λ b. is_planned cycle planned y || b) without

-- past all own points only the planned ones count
is_point-past : (cycle : ℕ) (planned own : List ℕ) (y : ℕ) → ((x : ℕ) → Has own x → x < y) → is_point cycle planned own y ≡ is_point cycle planned [] y
is_point-past cycle planned own y past =
    let none = false_from_ne_true (list_any (λ q. q == y) own) (λ e. absurd (omega (arith, past y (Has-from_equal own y e)))) in
    ap (λ b. is_planned cycle planned y || b) none

-- the points after time t up to its horizon, by a test for one
abbrev pub points_to_horizon : (ℕ → Bool) → ℕ → ℕ → List ℕ
points_to_horizon p cycle t = points_from p (t + 1) (horizon cycle t - t)

-- with one own point more, which lies after the time and no later than the horizon
pub points_to_horizon-more : (cycle : ℕ) (planned xs ys : List ℕ) (t x : ℕ) → t < x → x ≤ horizon cycle t → with_point x (points_to_horizon (is_point cycle planned (xs ++ ys)) cycle t) ≡ points_to_horizon (is_point cycle planned (xs ++ x ∷ ys)) cycle t
points_to_horizon-more cycle planned xs ys t x later near =
    with_point-more
    (is_point cycle planned (xs ++ ys))
    (is_point cycle planned (xs ++ x ∷ ys))
    x
    (t + 1)
    (horizon cycle t - t)
    (omega arith)
    (omega arith)
    (is_point-own cycle planned xs ys x)
    (λ y other. is_point-besides cycle planned xs ys x y other)

-- after a slot they are those above the new time, up to the horizon before it
points_to_horizon-slot : (p : ℕ → Bool) (cycle t : ℕ) → 1 ≤ cycle → filter (nat_lt (t + 1)) (points_to_horizon p cycle t) ≡ filter p (range_with_len (suc t + 1) (horizon cycle t - suc t))
points_to_horizon-slot p cycle t some =
    let count : horizon cycle t - t ≡ suc (horizon cycle t - suc t) = omega (arith, past_now t cycle some) in
    ap (λ n. filter (nat_lt (t + 1)) (filter p (range_with_len (t + 1) n))) count
    ∙ points-above p (t + 1) (horizon cycle t - suc t)
    ∙ ap (λ n. filter p (range_with_len (n + 1) (horizon cycle t - suc t))) (add-one t)

-- so it is where the slot after lies in the same cycle
pub points_to_horizon-inside : (p : ℕ → Bool) (cycle t : ℕ) → 1 ≤ cycle → suc t / cycle ≡ t / cycle → filter (nat_lt (t + 1)) (points_to_horizon p cycle t) ≡ points_to_horizon p cycle (suc t)
points_to_horizon-inside p cycle t some same_cycle =
    points_to_horizon-slot p cycle t some ∙ ap (λ d. filter p (range_with_len (suc t + 1) ((d + 3) * cycle - suc t))) (sym same_cycle)

-- where it starts a cycle, the planned ones of the further cycle follow, past the own points
pub points_to_horizon-turn : (cycle : ℕ) (planned own : List ℕ) (t n : ℕ) → 1 ≤ cycle → ((x : ℕ) → Has own x → x ≤ horizon cycle t) → suc t / cycle ≡ suc (t / cycle) → n ≡ t / cycle + 3 → filter (nat_lt (t + 1)) (points_to_horizon (is_point cycle planned own) cycle t) ++ filter (is_point cycle planned []) (range_with_len (n * cycle + 1) cycle) ≡ points_to_horizon (is_point cycle planned own) cycle (suc t)
points_to_horizon-turn cycle planned own t n some near next_cycle is =
    let p = is_point cycle planned own in
    let end : n * cycle ≡ horizon cycle t = ap (λ m. m * cycle) is in
    let past = past_now t cycle some in
    let further = further_now t cycle next_cycle in
    let fresh = filter-same p (is_point cycle planned []) (range_with_len (n * cycle + 1) cycle) (λ y at.
    is_point-past cycle planned own y (λ x h. omega (arith, near x h, Has-range_with_len_bounds (n * cycle + 1) cycle y at))) in
    ap₂ (λ xs ys. xs ++ ys) (points_to_horizon-slot p cycle t some) (sym fresh)
    ∙ sym (filter-parts p (suc t + 1) (n * cycle + 1) (horizon cycle t - suc t) cycle (horizon cycle (suc t) - suc t) (omega arith) (omega arith))
