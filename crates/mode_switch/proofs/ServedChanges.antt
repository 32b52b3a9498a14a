-- A change that can be served is served for ever.
use Rattle.std.proofs.Common.{◌≡◌, ℕ, zero, suc, ◌+◌, ◌*◌, ◌≤◌, true, List, map, inl, inr, arith}
use Rattle.std.specs.Prelude.{Contains}
use Rattle.std.proofs.Math.Nat.{mul-le-mul_left}
use Rattle.std.proofs.lemmas.Bool.{cases_lt}
use Rattle.slot_core.specs.declared.jobs.Job.{Job}
use Rattle.slot_core.specs.declared.tasks.TaskSet.{TaskSet}
use Rattle.slot_core.specs.Offline.OfflineJobs.{cycle_jobs, offline_jobs}
use Rattle.slot_core.specs.Sets.Cycles.{cycle_of}
use Rattle.slot_core.specs.Sets.Ranges.{is_sound}
use Rattle.slot_core.specs.Feasibility.Feasible.{IsFeasible}
use Rattle.slot_core.specs.Runs.Histories.{History}
use Rattle.slot_facts.proofs.Lists.Members.{Has, Has-from_Contains, Contains-from_Has, Has-append_left, Has-append_right, Has-append_cases}
use Rattle.slot_facts.proofs.Offline.Jobs.{cycle-positive}
use Rattle.change_laws.specs.Carried.{since, cycles_of_change, jobs_after, AreCarried}
use Rattle.change_laws.specs.Demand.{FitsFor}
use Rattle.mode_switch.specs.Runs.{after_change, IsServedAfter}
use Rattle.mode_switch.specs.Laws.{ChangesAreServed}
use Rattle.change_laws.proofs.GrantExact.{changes_are_exact}
use Rattle.change_laws.proofs.GrantForEver.{fits_for_ever}
use Rattle.mode_switch.proofs.ServedRuns.{served}

-- the offline jobs of some cycles are among those of more
offline_jobs-more : (set : TaskSet) (cycle m n : ℕ) (job : Job) → m ≤ n → Has (offline_jobs set cycle m) job → Has (offline_jobs set cycle n) job
offline_jobs-more set cycle m zero job le at =
    let same : m ≡ 0 = omega arith in
    rw same at at
offline_jobs-more set cycle m (suc n) job le at =
    elim (cases_lt n m) [
      | inl above ↦ let same : m ≡ suc n = omega arith in rw same at at
      | inr below ↦ Has-append_left (offline_jobs set cycle n) (cycle_jobs set cycle n) job (offline_jobs-more set cycle m n job below at)
    ]

-- so are the jobs after a change
jobs_after-more : (set : TaskSet) (c m n : ℕ) (carried : List Job) (job : Job) → m ≤ n → Has (jobs_after set c carried m) job → Has (jobs_after set c carried n) job
jobs_after-more set c m n carried job le at =
    let own = map (since c) carried in
    let cycle = cycle_of set in
    elim (Has-append_cases own (offline_jobs set cycle m) job at) [
      | inl x ↦ Has-append_left own (offline_jobs set cycle n) job x
      | inr y ↦ Has-append_right own (offline_jobs set cycle n) job (offline_jobs-more set cycle m n job le y)
    ]

-- what serves the jobs of more cycles serves those of fewer
IsServedAfter-fewer : (set : TaskSet) (c m n : ℕ) (carried : List Job) (h : History) → m ≤ n → IsServedAfter set (jobs_after set c carried n) h → IsServedAfter set (jobs_after set c carried m) h
IsServedAfter-fewer set c m n carried h le all =
    record {
      inside = λ job earlier at follows. all.inside job earlier (among job at) follows;
      in_time = λ job at due. all.in_time job (among job at) due;
      at_most = λ job at. all.at_most job (among job at);
      ordered = λ before after earlier at_before at_after first follows.
          all.ordered before after earlier (among before at_before) (among after at_after) first follows;
    }
  where
    among : (job : Job) → Contains (jobs_after set c carried m) job → Contains (jobs_after set c carried n) job
    among job at =
        Contains-from_Has (jobs_after set c carried n) job (jobs_after-more set c m n carried job le (Has-from_Contains (jobs_after set c carried m) job at))

-- n cycles have n slots and more
many : (cycles n cycle : ℕ) → 1 ≤ cycle → n ≤ (cycles + n) * cycle
many cycles n cycle some = omega (arith, mul-le-mul_left (cycles + n) some)

-- what fits is served
pub served_where_fits : (set : TaskSet) (c row cycles n : ℕ) (carried : List Job) → is_sound set ≡ true → IsFeasible set (cycle_of set) → AreCarried c row carried → FitsFor set c carried (cycles_of_change (cycle_of set) c carried) → IsServedAfter set (jobs_after set c carried cycles) (after_change set c carried n)
served_where_fits set c row cycles n carried sound feasible may fits =
    let h = after_change set c carried n in
    let more = fits_for_ever set c row (cycles + n) carried sound feasible may fits in
    IsServedAfter-fewer set c cycles (cycles + n) carried h (omega arith) (served set c row (cycles + n) carried sound feasible may more n (many cycles n (cycle_of set) (cycle-positive set sound)))

-- and so is what can be served
pub changes_are_served : ChangesAreServed
changes_are_served set c row cycles n carried sound feasible may can =
    served_where_fits set c row cycles n carried sound feasible may ((changes_are_exact set c row (cycles_of_change (cycle_of set) c carried) carried sound feasible may).0 can)
