-- What a counterexample to feasibility says, and what it says that there is none.
use Rattle.std.proofs.Common.{◌≡◌, ℕ, ◌+◌, ◌-◌, ◌*◌, ◌<◌, ◌≤◌, List, Option, Some, None, refl, sym, ap, ◌∙◌, arith}
use Rattle.std.specs.Prelude.{nat_le, nat_lt, if◌then◌else◌, ◌&&◌}
use Rattle.std.specs.Option.{option_or}
use Rattle.std.specs.List.{range_with_len}
use Rattle.std.specs.List.Sorted.{IsPermutation}
use Rattle.std.proofs.lemmas.Bool.{ltb-true, ltb-false}
use Rattle.std.proofs.lemmas.Option.{cond_some}
use Rattle.std.proofs.lemmas.List.Sorted.{sum_by-IsPermutation}
use Rattle.slot_core.specs.declared.jobs.Job.{Job}
use Rattle.slot_core.specs.declared.jobs.Window.{Window}
use Rattle.slot_core.specs.declared.tasks.Sporadic.{Sporadic}
use Rattle.slot_core.specs.declared.tasks.TaskSet.{TaskSet}
use Rattle.slot_core.specs.Offline.OfflineJobs.{cycle_jobs}
use Rattle.slot_core.specs.Feasibility.Feasible.{declared_within, window_demand, IsFeasible, failing_window, first_some, first_failing_from, counterexample_in, counterexample}
use Rattle.slot_facts.proofs.Sets.Faults.{option_or-None, cond-None}
use Rattle.slot_facts.proofs.Lists.FirstSome.{none-from_first_some, found-from_first_some, first_some-agree}

-- a window that does not fail has slots for its demand
pub fits-from_failing_window : (jobs : List Job) (sporadics : List Sporadic) (cycle a b : ℕ) → failing_window jobs sporadics cycle a b ≡ None → window_demand jobs sporadics cycle a b ≤ b - a
fits-from_failing_window jobs sporadics cycle a b h =
    let needed = window_demand jobs sporadics cycle a b in
    ltb-false (b - a) needed (cond-None (nat_lt (b - a) needed) (record { from = a; until = b; demand = needed }) None h).0

-- where no window from a fails, each that ends in the first two cycles has slots for its demand
pub fits-from_first_failing : (jobs : List Job) (sporadics : List Sporadic) (cycle a : ℕ) → first_failing_from jobs sporadics cycle a ≡ None → (b : ℕ) → a < b → b ≤ 2 * cycle → window_demand jobs sporadics cycle a b ≤ b - a
fits-from_first_failing jobs sporadics cycle a none b low high =
    fits-from_failing_window
    jobs
    sporadics
    cycle
    a
    b
    (none-from_first_some (failing_window jobs sporadics cycle a) (a + 1) (2 * cycle - a) none b (omega arith) (omega arith))

-- a set with no counterexample is feasible
pub IsFeasible-from_none : (set : TaskSet) (cycle : ℕ) → counterexample set cycle ≡ None → IsFeasible set cycle
IsFeasible-from_none set cycle none a b start low high =
    let jobs = cycle_jobs set cycle 0 in
    let from = first_failing_from jobs set.sporadics cycle in
    let parts = option_or-None (failing_window jobs set.sporadics cycle 0 cycle) (first_some from (range_with_len 0 cycle)) none in
    fits-from_first_failing
    jobs
    set.sporadics
    cycle
    a
    (none-from_first_some from 0 cycle parts.1 a (omega arith) (omega arith))
    b
    low
    high

-- what the failing window of these bounds says
record Fails (jobs : List Job) (sporadics : List Sporadic) (cycle a b : ℕ) (w : Window) : Type 0 where
  starts : w.from ≡ a
  ends : w.until ≡ b
  needs : w.demand ≡ window_demand jobs sporadics cycle a b
  short : b - a < w.demand

Fails-from_failing_window : (jobs : List Job) (sporadics : List Sporadic) (cycle a b : ℕ) (w : Window) → failing_window jobs sporadics cycle a b ≡ Some w → Fails jobs sporadics cycle a b w
Fails-from_failing_window jobs sporadics cycle a b w h =
    let needed = window_demand jobs sporadics cycle a b in
    let found : Window = record { from = a; until = b; demand = needed } in
    let (more, same) = cond_some (nat_lt (b - a) needed) found w h in
    let needs : needed ≡ w.demand = ap (λ (v : Window). v.demand) same in
    record {
      starts = sym (ap (λ (v : Window). v.from) same);
      ends = sym (ap (λ (v : Window). v.until) same);
      needs = sym needs;
      short = omega (arith, ltb-true (b - a) needed more);
    }

-- what a counterexample says: a window that starts in the first cycle and ends in the first two, its
-- demand, and that this is more than its slots
abbrev IsFailing : List Job → List Sporadic → ℕ → Window → Type 0
IsFailing jobs sporadics cycle w =
    (w.from < cycle) × (w.from < w.until) × (w.until ≤ 2 * cycle) × (w.demand ≡ window_demand jobs sporadics cycle w.from w.until) × (w.until - w.from < w.demand)

IsFailing-from_Fails : (jobs : List Job) (sporadics : List Sporadic) (cycle a b : ℕ) (w : Window) → Fails jobs sporadics cycle a b w → a < cycle → a < b → b ≤ 2 * cycle → IsFailing jobs sporadics cycle w
IsFailing-from_Fails jobs sporadics cycle a b w fails start low high =
    let same : window_demand jobs sporadics cycle a b ≡ window_demand jobs sporadics cycle w.from w.until = cc (fails.starts, fails.ends) in
    (omega arith, omega arith, omega arith, fails.needs ∙ same, omega arith)

counterexample_cases : (jobs : List Job) (sporadics : List Sporadic) (cycle : ℕ) (w : Window) (o : Option Window) → failing_window jobs sporadics cycle 0 cycle ≡ o → option_or o (first_some (first_failing_from jobs sporadics cycle) (range_with_len 0 cycle)) ≡ Some w → 0 < cycle → IsFailing jobs sporadics cycle w
counterexample_cases jobs sporadics cycle w (Some v) whole h positive =
    IsFailing-from_Fails
    jobs
    sporadics
    cycle
    0
    cycle
    w
    (Fails-from_failing_window jobs sporadics cycle 0 cycle w (whole ∙ h))
    positive
    positive
    (omega arith)
counterexample_cases jobs sporadics cycle w None whole h positive =
    let (a, _, start, from) = found-from_first_some (first_failing_from jobs sporadics cycle) w 0 cycle h in
    let (b, low, high, at) = found-from_first_some (failing_window jobs sporadics cycle a) w (a + 1) (2 * cycle - a) from in
    IsFailing-from_Fails
    jobs
    sporadics
    cycle
    a
    b
    w
    (Fails-from_failing_window jobs sporadics cycle a b w at)
    (omega arith)
    (omega arith)
    (omega arith)

pub counterexample-fails : (jobs : List Job) (sporadics : List Sporadic) (cycle : ℕ) (w : Window) → 0 < cycle → counterexample_in jobs sporadics cycle ≡ Some w → (w.from < cycle) × (w.from < w.until) × (w.until ≤ 2 * cycle) × (w.demand ≡ window_demand jobs sporadics cycle w.from w.until) × (w.until - w.from < w.demand)
counterexample-fails jobs sporadics cycle w positive h =
    counterexample_cases jobs sporadics cycle w (failing_window jobs sporadics cycle 0 cycle) refl h positive

-- a feasible set has none
pub none-from_feasible : (set : TaskSet) (cycle : ℕ) → 0 < cycle → IsFeasible set cycle → counterexample set cycle ≡ None
none-from_feasible set cycle positive feasible = by_found (counterexample set cycle) refl
  where
    by_found : (o : Option Window) → counterexample set cycle ≡ o → o ≡ None
    by_found None is = refl
    by_found (Some w) is =
        let fails = counterexample-fails (cycle_jobs set cycle 0) set.sporadics cycle w positive is in
        absurd (omega (arith, fails, feasible w.from w.until fails.0 fails.1 fails.2))

-- the order of the jobs does not matter
declared_within-permutation : (jobs others : List Job) (shift a b : ℕ) → IsPermutation jobs others → declared_within jobs shift a b ≡ declared_within others shift a b
declared_within-permutation jobs others shift a b h =
    sym (sum_by-IsPermutation (λ (j : Job). if nat_le a (j.est + shift) && nat_le (j.dl + shift) b then j.declared else 0) jobs others h)

pub failing_window-permutation : (jobs others : List Job) (sporadics : List Sporadic) (cycle a b : ℕ) → IsPermutation jobs others → failing_window jobs sporadics cycle a b ≡ failing_window others sporadics cycle a b
failing_window-permutation jobs others sporadics cycle a b h =
    let first : declared_within jobs 0 a b ≡ declared_within others 0 a b = declared_within-permutation jobs others 0 a b h in
    let next : declared_within jobs cycle a b ≡ declared_within others cycle a b = declared_within-permutation jobs others cycle a b h in
    cc

pub counterexample_in-permutation : (jobs others : List Job) (sporadics : List Sporadic) (cycle : ℕ) → IsPermutation jobs others → counterexample_in jobs sporadics cycle ≡ counterexample_in others sporadics cycle
counterexample_in-permutation jobs others sporadics cycle h =
    let whole : failing_window jobs sporadics cycle 0 cycle ≡ failing_window others sporadics cycle 0 cycle = failing_window-permutation jobs others sporadics cycle 0 cycle h in
    let from = first_some-agree (first_failing_from jobs sporadics cycle) (first_failing_from others sporadics cycle) 0 cycle (λ a _ _. first_some-agree (failing_window jobs sporadics cycle a) (failing_window others sporadics cycle a) (a + 1) (2 * cycle - a) (λ b _ _. failing_window-permutation jobs others sporadics cycle a b h)) in
    rw (whole, from) refl
