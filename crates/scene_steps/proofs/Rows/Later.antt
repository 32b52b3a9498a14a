-- The spans one slot later, where no job is due by then.
use Rattle.std.proofs.Common.{◌≡◌, ℕ, ◌+◌, ◌<◌, ◌≤◌, ◌⊎◌, cond, eqb, List, [], ◌∷◌, filter, refl, sym, ap, ◌∙◌, inl, inr, arith, eq-eqb, ne_eqb, lt-ltb, le-ltb}
use Rattle.std.specs.Prelude.{nat_lt}
use Rattle.std.specs.List.{AllByRecursion}
use Rattle.std.proofs.lemmas.Bool.{cond_both, cases_eq, eqb-true, eqb-false}
use Rattle.slot_core.specs.declared.jobs.Job.{Job}
use Rattle.slot_core.specs.declared.jobs.Span.{Span}
use Rattle.slot_core.specs.Runs.Rising.{AreRising, last_point}
use Rattle.slot_facts.proofs.Lists.Apart.{above-from_rising, AreRising-lower}
use Rattle.slot_facts.proofs.Lists.Members.{Has, Has-filter, AllByRecursion-at_Has, AllByRecursion-weaker}
use Rattle.slot_facts.proofs.Lists.RangeFilters.{filter-all}
use Rattle.spare_capacity.specs.Recurrence.{filled}
use Rattle.interval_build.specs.Rows.{rows_between}
use Rattle.interval_row.specs.Changes.{after_pass}
use Rattle.scene_steps.specs.Rows.{spans, AreDueAmong}
use Rattle.scene_steps.proofs.Rows.Bare.{bare, cleared, bare-spans_between, filled-spans, same_row}
use Rattle.scene_steps.proofs.Rows.Due.{Has-due, AreDueAmong-from_Has, work_between-from_later}

-- a slot later is the same before and after the capacities are cleared
pub bare-after_pass : (rows : List Span) → bare (after_pass rows) ≡ after_pass (bare rows)
bare-after_pass [] = refl
bare-after_pass (s ∷ ss) =
    cond_both (eqb (s.start + 1) s.end) ss (record s { start = s.start + 1 } ∷ ss)
    (λ xs. bare xs ≡ cond (eqb (s.start + 1) s.end) (bare ss) (record (cleared s) { start = s.start + 1 } ∷ bare ss))
    (λ t. rw t refl)
    (λ t. rw t refl)

-- the points after the next slot start are those after the first, where that is it, and else all
later_points : (t e : ℕ) (points : List ℕ) → t < e → AreRising e points → filter (nat_lt (t + 1)) (e ∷ points) ≡ cond (eqb (t + 1) e) points (e ∷ points)
later_points t e points low rising =
    let rest = filter-all (nat_lt (t + 1)) points (λ x at. lt-ltb (t + 1) x (omega (arith, above-from_rising e points x rising at))) in
    elim (cases_eq (t + 1) e) [
      | inl same ↦ rw (eq-eqb (t + 1) e same, le-ltb (t + 1) e (omega arith)) rest
      | inr other ↦ rw (ne_eqb (t + 1) e other, lt-ltb (t + 1) e (omega arith)) (ap (λ xs. e ∷ xs) rest)
    ]

-- they rise from there
pub rising_later : (t : ℕ) (points : List ℕ) → AreRising t points → AreRising (t + 1) (filter (nat_lt (t + 1)) points)
rising_later t [] rising = tt
rising_later t (e ∷ points) rising =
    rw (later_points t e points rising.0 rising.1)
    (cond_both (eqb (t + 1) e) points (e ∷ points) (AreRising (t + 1))
    (λ same. AreRising-lower (t + 1) e points (omega (arith, eqb-true (t + 1) e same)) rising.1)
    (λ other.
    let differs : t + 1 ≡ e → ⊥ = eqb-false (t + 1) e other in
    let next : t + 1 < e = omega (arith, rising.0) in
    (next, rising.1)))

-- a slot later the rows are those between the points after it
after_pass-rows_between : (jobs : List Job) (t : ℕ) (points : List ℕ) → AreRising t points → AllByRecursion (λ (j : Job). t + 1 < j.dl) jobs → after_pass (rows_between jobs t points) ≡ rows_between jobs (t + 1) (filter (nat_lt (t + 1)) points)
after_pass-rows_between jobs t [] rising later = refl
after_pass-rows_between jobs t (e ∷ points) rising later =
    let same = work_between-from_later jobs t (t + 1) e (omega arith) (AllByRecursion-weaker _ (λ (j : Job). (j.dl ≤ t) ⊎ (t + 1 < j.dl)) jobs (λ j after. inr after) later) in
    rw (later_points t e points rising.0 rising.1)
    (elim (cases_eq (t + 1) e) [
      | inl at ↦ rw (eq-eqb (t + 1) e at) (ap (λ s. rows_between jobs s points) (sym at))
      | inr other ↦ rw (ne_eqb (t + 1) e other) (same_row (t + 1) e _ _ _ _ same refl)
    ])

-- jobs that are due after the next slot are due among the points after it
pub due_later : (jobs : List Job) (t : ℕ) (points : List ℕ) → AreDueAmong points jobs → AllByRecursion (λ (j : Job). t + 1 < j.dl) jobs → AreDueAmong (filter (nat_lt (t + 1)) points) jobs
due_later jobs t points due later =
    let among = λ (j : Job) (at : Has jobs j). Has-filter (nat_lt (t + 1)) points j.dl (Has-due points jobs j due at) (lt-ltb (t + 1) j.dl (AllByRecursion-at_Has (λ (j : Job). t + 1 < j.dl) jobs j later at)) in
    AreDueAmong-from_Has (filter (nat_lt (t + 1)) points) jobs among

-- where each job is due after the next slot, the spans one slot later are the spans from there
pub spans-later : (jobs : List Job) (t : ℕ) (points : List ℕ) → AreRising t points → AreDueAmong points jobs → AllByRecursion (λ (j : Job). t + 1 < j.dl) jobs → t + 1 < last_point t points → filled (after_pass (spans jobs t points)) ≡ spans jobs (t + 1) (filter (nat_lt (t + 1)) points)
spans-later jobs t points rising due later within =
    filled-spans (after_pass (spans jobs t points)) jobs (t + 1) (filter (nat_lt (t + 1)) points) (rising_later t points rising)
    (due_later jobs t points due later)
    (bare-after_pass (spans jobs t points)
    ∙ ap after_pass (bare-spans_between jobs (last_point t points) t points)
    ∙ after_pass-rows_between jobs t points rising later)
