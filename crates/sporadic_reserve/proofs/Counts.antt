-- How many arrivals of one task are due by a time, and when the next one is.
use Rattle.std.proofs.Common.{◌≡◌, ℕ, ◌+◌, ◌-◌, ◌*◌, ◌/◌, ◌<◌, ◌≤◌, max, ◌∙◌, inl, inr, arith}
use Rattle.std.proofs.lemmas.Bool.{cases_lt}
use Rattle.slot_core.specs.declared.tasks.Sporadic.{Sporadic}
use Rattle.slot_core.specs.Feasibility.Sporadics.{arrivals_due}
use Rattle.slot_facts.proofs.Demand.Arrivals.{arrivals_due-none, arrivals_due-spaced}
use Rattle.slot_facts.proofs.Patterns.Counts.{arrivals_due-from, is_due, is_counted}
use Rattle.sporadic_reserve.specs.Reserves.{IsNextRise}

-- none is due before the deadline of the first
pub none_due : (s : Sporadic) (next r x : ℕ) → x < max r next + s.deadline → arrivals_due s next r x ≡ 0
none_due s next r x early =
    arrivals_due-from s next r x ∙ arrivals_due-none s (max r next) x early

-- and from there on one more for each separation
pub some_due : (s : Sporadic) (next r x : ℕ) → 1 ≤ s.separation → max r next + s.deadline ≤ x → arrivals_due s next r x ≡ (x - (max r next + s.deadline)) / s.separation + 1
some_due s next r x apart due =
    arrivals_due-from s next r x ∙ arrivals_due-spaced s (max r next) x apart due

-- where the m-th is not due, at most m are; where it is, more are
pub few_due : (s : Sporadic) (next r x m : ℕ) → 1 ≤ s.separation → x < max r next + m * s.separation + s.deadline → arrivals_due s next r x ≤ m
few_due s next r x m apart late =
    elim (cases_lt m (arrivals_due s next r x)) [
      | inl over ↦ let counted : m < arrivals_due s 0 (max r next) x = omega (arith, arrivals_due-from s next r x) in
          absurd (omega (arith, is_due s (max r next) x m apart counted))
      | inr most ↦ most
    ]

pub more_due : (s : Sporadic) (next r x m : ℕ) → 1 ≤ s.separation → max r next + m * s.separation + s.deadline ≤ x → m < arrivals_due s next r x
more_due s next r x m apart due =
    omega (arith, is_counted s (max r next) x m apart due, arrivals_due-from s next r x)

-- an arrival that is counted by x is due by x
pub due_by : (s : Sporadic) (next r x m : ℕ) → 1 ≤ s.separation → m < arrivals_due s next r x → max r next + m * s.separation + s.deadline ≤ x
due_by s next r x m apart counted =
    is_due s (max r next) x m apart (omega (arith, arrivals_due-from s next r x))

-- no fewer are due later
pub arrivals_due-grows : (s : Sporadic) (next r x y : ℕ) → 1 ≤ s.separation → x ≤ y → arrivals_due s next r x ≤ arrivals_due s next r y
arrivals_due-grows s next r x y apart le =
    elim (cases_lt (arrivals_due s next r y) (arrivals_due s next r x)) [
      | inl over ↦ let due = due_by s next r x (arrivals_due s next r y) apart over in
          absurd (omega (arith, more_due s next r y (arrivals_due s next r y) apart (omega arith)))
      | inr most ↦ most
    ]

-- the next one is due a separation after each that is due, or where the first is
pub next_arrival_due : (s : Sporadic) (next r x : ℕ) → 1 ≤ s.separation → IsNextRise (λ z. arrivals_due s next r z) x (max r next + s.deadline + arrivals_due s next r x * s.separation)
next_arrival_due s next r x apart =
    let n = arrivals_due s next r x in
    let y = max r next + s.deadline + n * s.separation in
    let after : x < y = late in
    record {
      after = after;
      rises = omega (arith, few_due s next r (y - 1) n apart (omega arith), more_due s next r y n apart (omega arith));
      stays = λ z low high. omega (arith, few_due s next r z n apart (omega arith), arrivals_due-grows s next r x z apart low);
    }
  where
    late : x < max r next + s.deadline + arrivals_due s next r x * s.separation
    late =
        elim (cases_lt x (max r next + s.deadline + arrivals_due s next r x * s.separation)) [
          | inl lt ↦ lt
          | inr le ↦ absurd (omega (arith, more_due s next r x (arrivals_due s next r x) apart (omega arith)))
        ]
