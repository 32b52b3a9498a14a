-- The demand of windows, and so the counterexample, depends on starts, deadlines and declared slots alone.
use Rattle.std.proofs.Common.{◌≡◌, ℕ, ◌+◌, ◌*◌, ◌-◌, ◌≤◌, List, [], get_or, refl, inl, inr, arith}
use Rattle.std.specs.Prelude.{All, sum_by, nat_le, nat_lt, ◌&&◌, if◌then◌else◌}
use Rattle.std.proofs.lemmas.Bool.{cases_Bool, leb-true, le-leb}
use Rattle.std.proofs.lemmas.List.Sums.{sum_by_more_le}
use Rattle.slot_core.specs.declared.jobs.Job.{Job}
use Rattle.slot_core.specs.declared.tasks.Sporadic.{Sporadic}
use Rattle.slot_core.specs.Feasibility.Sporadics.{sporadic_demand}
use Rattle.slot_core.specs.Feasibility.Feasible.{declared_within, window_demand, failing_window, first_failing_from, counterexample_in}
use Rattle.slot_facts.proofs.Lists.FirstSome.{first_some-agree}
use Rattle.slot_facts.proofs.Lists.Sums.{sum_by-none}
use Rattle.margin_find.specs.Kept.{HaveSameWindows}

declared_within-windows : (jobs others : List Job) (shift a b : ℕ) → HaveSameWindows jobs others → declared_within jobs shift a b ≡ declared_within others shift a b
declared_within-windows jobs others shift a b same =
    same (λ est dl declared. if nat_le a (est + shift) && nat_le (dl + shift) b then declared else 0)

pub window_demand-windows : (jobs others : List Job) (ss : List Sporadic) (cycle a b : ℕ) → HaveSameWindows jobs others → window_demand jobs ss cycle a b ≡ window_demand others ss cycle a b
window_demand-windows jobs others ss cycle a b same =
    λ i. declared_within-windows jobs others 0 a b same i + (if nat_lt cycle b then declared_within-windows jobs others cycle a b same i else 0) + sporadic_demand ss [] a b

failing_window-windows : (jobs others : List Job) (ss : List Sporadic) (cycle a b : ℕ) → HaveSameWindows jobs others → failing_window jobs ss cycle a b ≡ failing_window others ss cycle a b
failing_window-windows jobs others ss cycle a b same =
    let first : declared_within jobs 0 a b ≡ declared_within others 0 a b = declared_within-windows jobs others 0 a b same in
    let next : declared_within jobs cycle a b ≡ declared_within others cycle a b = declared_within-windows jobs others cycle a b same in
    cc

pub counterexample_in-windows : (jobs others : List Job) (ss : List Sporadic) (cycle : ℕ) → HaveSameWindows jobs others → counterexample_in jobs ss cycle ≡ counterexample_in others ss cycle
counterexample_in-windows jobs others ss cycle same =
    let whole : failing_window jobs ss cycle 0 cycle ≡ failing_window others ss cycle 0 cycle = failing_window-windows jobs others ss cycle 0 cycle same in
    let from = first_some-agree (first_failing_from jobs ss cycle) (first_failing_from others ss cycle) 0 cycle (λ a _ _. first_some-agree (failing_window jobs ss cycle a) (failing_window others ss cycle a) (a + 1) (2 * cycle - a) (λ b _ _. failing_window-windows jobs others ss cycle a b same)) in
    rw (whole, from) refl

-- where one list is due by a slot, so is the other
abbrev late : ℕ → ℕ → ℕ
late limit dl = if nat_le dl limit then 0 else 1

on_time : (limit dl : ℕ) → late limit dl ≤ 0 → dl ≤ limit
on_time limit dl none =
    elim (cases_Bool (nat_le dl limit)) [
      | inl low ↦ leb-true dl limit low
      | inr past ↦ let one : late limit dl ≡ 1 = rw past refl in absurd (omega (arith, one, none))
    ]

not_late : (limit dl : ℕ) → dl ≤ limit → late limit dl ≡ 0
not_late limit dl low = rw (le-leb dl limit low) refl

pub due-windows : (jobs others : List Job) (limit : ℕ) → HaveSameWindows jobs others → All (λ (j : Job). j.dl ≤ limit) others → All (λ (j : Job). j.dl ≤ limit) jobs
due-windows jobs others limit same due = λ k d low.
    let f = λ (j : Job). late limit j.dl in
    let none = sum_by-none f others (λ i e within. not_late limit (get_or others i e).dl (due i e within)) in
    let equal : sum_by f jobs ≡ sum_by f others = same (λ est dl declared. late limit dl) in
    on_time limit (get_or jobs k d).dl (omega (arith, none, equal, sum_by_more_le f jobs k d low))
