-- How many numbers do not exceed the one of a rank, and sums that a counter holds.
use Rattle.std.proofs.Common.{◌≡◌, ℕ, suc, zero, ◌+◌, ◌-◌, ◌*◌, ◌/◌, ◌^◌, ◌<◌, ◌≤◌, true, cond, List, [], ◌∷◌, get_or, length, nat_le, Some, refl, sym, ap, subst, ◌∙◌, arith}
use Rattle.std.specs.Prelude.{count_by, min, slice_get, sum, sum_by}
use Rattle.std.specs.List.{fold}
use Rattle.std.specs.List.Sorted.{IsNonDecreasing}
use Rattle.std.proofs.lemmas.Bool.Decides.{nat_tests}
use Rattle.std.proofs.lemmas.List.Elements.{All-from_recursion, All-get_or}
use Rattle.std.proofs.lemmas.List.Sums.{sum_by-cons}
use Rattle.view_stats.specs.Figures.{plus, total}
use Rattle.view_stats.specs.Ordered.{ascending, nearest_rank}
use Rattle.view_stats.proofs.Sorts.{ascending-rises, ascending-sum, AtLeast, Rise}

-- a later number is no lower
rises-by_places : (xs : List ℕ) → Rise xs → (i j : ℕ) (d : ℕ) → i ≤ j → j < length xs → get_or xs i d ≤ get_or xs j d
rises-by_places [] rise i j d before low = absurd (omega (arith, low))
rises-by_places (x ∷ xs) (all, rise) zero zero d before low = omega arith
rises-by_places (x ∷ xs) (all, rise) zero (suc j) d before low =
    All-get_or (λ y. x ≤ y) xs j d (omega (arith, low)) (All-from_recursion (λ y. x ≤ y) xs all)
rises-by_places (x ∷ xs) (all, rise) (suc i) zero d before low = absurd (omega (arith, before))
rises-by_places (x ∷ xs) (all, rise) (suc i) (suc j) d before low =
    rises-by_places xs rise i j d (omega (arith, before)) (omega (arith, low))

pub order-rises : (numbers : List ℕ) → IsNonDecreasing (ascending numbers)
order-rises numbers = rises-by_places (ascending numbers) (ascending-rises numbers)

-- whether a number does not exceed another, as a number
abbrev within : ℕ → ℕ → ℕ
within most n = cond (nat_le n most) 1 0

within-one : (most n : ℕ) → n ≤ most → within most n ≡ 1
within-one most n low =
    let yes : nat_le n most ≡ true = grind (arith, nat_tests, low) in
    ap {B = ℕ} (λ b. cond b 1 0) yes

-- a number at a place is no lower than the first bound of all
at-least : (x : ℕ) (xs : List ℕ) (k most : ℕ) → AtLeast x xs → slice_get xs k ≡ Some most → x ≤ most
at-least x [] k most all at = absurd (cc at)
at-least x (y ∷ ys) zero most (here, all) at = (let same : y ≡ most = cc at in omega (arith, here, same))
at-least x (y ∷ ys) (suc k) most (here, all) at = at-least x ys k most all at

-- those up to a place of rising numbers do not exceed the one there
counted : (xs : List ℕ) (k most : ℕ) → Rise xs → slice_get xs k ≡ Some most → k + 1 ≤ sum_by (within most) xs
counted [] k most rise at = absurd (cc at)
counted (x ∷ xs) zero most rise at =
    let same : x ≡ most = cc at in
    omega (arith, sum_by-cons (within most) x xs, within-one most x (omega (arith, same)))
counted (x ∷ xs) (suc k) most (all, rise) at =
    omega (
      arith,
      sum_by-cons (within most) x xs,
      within-one most x (at-least x xs k most all at),
      counted xs k most rise at,
    )

pub most-below : (numbers : List ℕ) (most : ℕ) → slice_get (ascending numbers) (nearest_rank (length numbers)) ≡ Some most → 95 * length numbers ≤ 100 * count_by (λ n. nat_le n most) numbers
most-below numbers most at =
    let n = length numbers in
    let few = counted (ascending numbers) (n - n / 20 - 1) most (ascending-rises numbers) at in
    let all = ascending-sum (within most) numbers in
    omega (arith, few, all)

-- a sum from some number on
total-from : (a : ℕ) (numbers : List ℕ) → a + sum numbers < 2 ^ 64 → fold plus a numbers ≡ a + sum numbers
total-from a [] fits = omega arith
total-from a (n ∷ ns) fits =
    let one = sum_by-cons (λ (x : ℕ). x) n ns in
    let next : plus a n ≡ a + n = omega (arith, fits, one) in
    ap (λ b. fold plus b ns) next ∙ total-from (a + n) ns (omega (arith, fits, one)) ∙ omega (arith, one)

pub total-exact : (numbers : List ℕ) → sum numbers < 2 ^ 64 → total numbers ≡ sum numbers
total-exact numbers fits = total-from 0 numbers (omega (arith, fits)) ∙ omega arith
