-- How many of the densest arrivals are due, one after the other.
use Rattle.std.proofs.Common.{◌≡◌, ℕ, ◌+◌, ◌-◌, ◌*◌, ◌/◌, ◌<◌, ◌≤◌, max, cond, ◌&&◌, List, [], ◌∷◌, ap, ◌∙◌, inl, inr, arith}
use Rattle.std.specs.Prelude.{sum_by, count_by, nat_le}
use Rattle.std.specs.List.{range_with_len}
use Rattle.std.proofs.Math.Nat.{add-mul-div_left, div-eq_of_lt, div-mul-le_self, lt-div-mul-add, mul-le-mul_left, mul-le-mul_right}
use Rattle.std.proofs.lemmas.Bool.{cases_lt}
use Rattle.std.proofs.lemmas.Bool.Decides.{nat_tests}
use Rattle.std.proofs.lemmas.List.Sums.{sum_by-cons}
use Rattle.slot_core.specs.declared.tasks.Sporadic.{Sporadic}
use Rattle.slot_core.specs.Feasibility.Sporadics.{arrivals_due, AreSpaced}
use Rattle.slot_facts.proofs.Demand.Arrivals.{arrivals_due-none, arrivals_due-spaced}
use Rattle.slot_facts.proofs.Demand.OneSlot.{arrivals_due-later}

-- of the two times from which arrivals are counted the later one matters
pub arrivals_due-from : (s : Sporadic) (next r x : ℕ) → arrivals_due s next r x ≡ arrivals_due s 0 (max r next) x
arrivals_due-from s next r x =
    let same : max r next ≡ max (max r next) 0 = omega arith in
    ap (λ b. count_by (λ m. nat_le (b + m * s.separation + s.deadline) x) (range_with_len 0 (x + 1))) same

-- the first arrival, where it is due, and those from a separation later on
pub arrivals_due-first : (s : Sporadic) (b x : ℕ) → 1 ≤ s.separation → b + s.deadline ≤ x → arrivals_due s 0 b x ≡ 1 + arrivals_due s 0 (b + s.separation) x
arrivals_due-first s b x apart due =
    let n = s.separation in
    let y = x - (b + s.deadline) in
    let z = x - (b + n + s.deadline) in
    elim (cases_lt x (b + n + s.deadline)) [
      | inl early ↦ let few : y / n ≡ 0 = div-eq_of_lt {n = y} {m = n} (omega arith) in
          omega (arith, arrivals_due-spaced s b x apart due, arrivals_due-none s (b + n) x early)
      | inr late ↦ let parts : y ≡ z + n * 1 = omega arith in
          let more : y / n ≡ z / n + 1 = ap (λ w. w / n) parts ∙ add-mul-div_left z 1 apart in
          omega (arith, arrivals_due-spaced s b x apart due, arrivals_due-spaced s (b + n) x apart late)
    ]

-- one arrival, and those that may come after it
pub arrival-le : (s : Sporadic) (from a x t : ℕ) → 1 ≤ s.separation → from ≤ t → cond (nat_le a t && nat_le (t + s.deadline) x) s.wcet 0 + s.wcet * arrivals_due s 0 (max a (t + s.separation)) x ≤ s.wcet * arrivals_due s 0 (max a from) x
arrival-le s from a x t apart low =
    elim (cases_lt t a) [
      | inl early ↦ let none : cond (nat_le a t && nat_le (t + s.deadline) x) s.wcet 0 ≡ 0 = grind (arith, nat_tests) in
          omega (arith, none, mul-le-mul_left s.wcet (arrivals_due-later s 0 (max a from) (max a (t + s.separation)) x (omega arith)))
      | inr late ↦ elim (cases_lt x (t + s.deadline)) [
        | inl over ↦ let none : cond (nat_le a t && nat_le (t + s.deadline) x) s.wcet 0 ≡ 0 = grind (arith, nat_tests) in
            omega (arith, none, mul-le-mul_left s.wcet (arrivals_due-later s 0 (max a from) (max a (t + s.separation)) x (omega arith)))
        | inr due ↦ let one : cond (nat_le a t && nat_le (t + s.deadline) x) s.wcet 0 ≤ s.wcet = grind (arith, nat_tests) in
            let later : max a (t + s.separation) ≡ t + s.separation = omega arith in
            let same : arrivals_due s 0 (max a (t + s.separation)) x ≡ arrivals_due s 0 (t + s.separation) x = ap (λ b. arrivals_due s 0 b x) later in
            let all : 1 + arrivals_due s 0 (max a (t + s.separation)) x ≤ arrivals_due s 0 (max a from) x = omega (arith, arrivals_due-first s t x apart due, arrivals_due-later s 0 (max a from) t x (omega arith)) in
            omega (arith, mul-le-mul_left s.wcet all)
      ]
    ]

-- arrivals at least a separation apart that come from a on and are due by x need no more than the densest ones
pub spaced-le : (s : Sporadic) (from a x : ℕ) (ts : List ℕ) → 1 ≤ s.separation → AreSpaced s.separation from ts → sum_by (λ t. cond (nat_le a t && nat_le (t + s.deadline) x) s.wcet 0) ts ≤ s.wcet * arrivals_due s 0 (max a from) x
spaced-le s from a x [] apart spaced = omega arith
spaced-le s from a x (t ∷ ts) apart spaced =
    omega (
      arith,
      sum_by-cons (λ t. cond (nat_le a t && nat_le (t + s.deadline) x) s.wcet 0) t ts,
      arrival-le s from a x t apart spaced.0,
      spaced-le s (t + s.separation) a x ts apart spaced.1,
    )

-- the first of the densest arrivals are due, as many as are counted, and no others
pub is_due : (s : Sporadic) (b x m : ℕ) → 1 ≤ s.separation → m < arrivals_due s 0 b x → b + m * s.separation + s.deadline ≤ x
is_due s b x m apart counted =
    elim (cases_lt x (b + s.deadline)) [
      | inl early ↦ absurd (omega (arith, arrivals_due-none s b x early))
      | inr due ↦ let y = x - (b + s.deadline) in
          let most : m ≤ y / s.separation = omega (arith, arrivals_due-spaced s b x apart due) in
          omega (arith, mul-le-mul_right s.separation most, div-mul-le_self y s.separation)
    ]

pub is_counted : (s : Sporadic) (b x m : ℕ) → 1 ≤ s.separation → b + m * s.separation + s.deadline ≤ x → m < arrivals_due s 0 b x
is_counted s b x m apart due =
    let y = x - (b + s.deadline) in
    let first : b + s.deadline ≤ x = omega arith in
    let next : y < y / s.separation * s.separation + s.separation = lt-div-mul-add apart in
    elim (cases_lt (y / s.separation) m) [
      | inl over ↦ absurd (omega (arith, mul-le-mul_right s.separation over))
      | inr most ↦ omega (arith, arrivals_due-spaced s b x apart first)
    ]
