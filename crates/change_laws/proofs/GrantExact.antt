-- A change can be served exactly where the work that is due fits.
use Rattle.std.proofs.Common.{◌≡◌, ℕ, ◌+◌, ◌-◌, ◌*◌, ◌≤◌, true, List, [], map, subst, inl, inr, arith}
use Rattle.std.proofs.lemmas.Bool.{cases_lt}
use Rattle.slot_core.specs.declared.jobs.Job.{Job}
use Rattle.slot_core.specs.declared.tasks.TaskSet.{TaskSet}
use Rattle.slot_core.specs.Offline.OfflineJobs.{offline_jobs}
use Rattle.slot_core.specs.Sets.Cycles.{cycle_of}
use Rattle.slot_core.specs.Sets.Ranges.{is_sound}
use Rattle.slot_core.specs.Feasibility.Feasible.{IsFeasible}
use Rattle.slot_core.specs.Feasibility.Sporadics.{densest_pattern}
use Rattle.slot_core.specs.Claims.Safety.{IsSafe}
use Rattle.slot_core.specs.Claims.Futures.{pattern_jobs}
use Rattle.slot_facts.proofs.Scheduling.Extras.{AreExtra-pattern, separated-from_sound}
use Rattle.slot_facts.proofs.Scheduling.Beside.{served_beside, closed_beside, work_by-both, work_from-both}
use Rattle.slot_facts.proofs.Patterns.NeedNoMore.{patterns_need_no_more}
use Rattle.slot_facts.proofs.Patterns.Densest.{the_densest_pattern_needs_all}
use Rattle.slot_facts.proofs.Patterns.Work.{work_by-le_work_from_0}
use Rattle.slot_facts.proofs.Bounds.SafeStart.{offline_jobs-fit}
use Rattle.change_laws.specs.Carried.{since, jobs_after, AreCarried}
use Rattle.change_laws.specs.Grants.{CanChangeFor}
use Rattle.change_laws.specs.Demand.{due_after, FitsFor}
use Rattle.change_laws.specs.Laws.{ChangesAreExact}
use Rattle.change_laws.proofs.GrantJobs.{jobs_after-own, jobs_after-wait, carried-not_due_now, carried-not_from_later}

-- nothing is due at once
pub due_after-now : (set : TaskSet) (c row cycles : ℕ) (carried : List Job) → is_sound set ≡ true → IsFeasible set (cycle_of set) → AreCarried c row carried → due_after set c carried cycles 0 ≤ 0
due_after-now set c row cycles carried sound feasible own =
    let planned = offline_jobs set (cycle_of set) cycles in
    omega (
      arith,
      work_by-both (map (since c) carried) planned 0,
      carried-not_due_now c row carried own,
      work_by-le_work_from_0 planned 0,
      offline_jobs-fit set cycles [] 0 0 sound feasible (omega arith),
    )

-- where the work that is due fits, no deadline is at risk
pub jobs_after-safe : (set : TaskSet) (c row cycles : ℕ) (carried : List Job) → is_sound set ≡ true → IsFeasible set (cycle_of set) → AreCarried c row carried → FitsFor set c carried cycles → IsSafe set.sporadics [] (jobs_after set c carried cycles) 0 (cycles * cycle_of set)
jobs_after-safe set c row cycles carried sound feasible own fits =
    let planned = offline_jobs set (cycle_of set) cycles in
    record {
      due = λ x low high.
          elim (cases_lt 0 x) [
            | inl later ↦ omega (arith, fits x later high)
            | inr now ↦ let here : 0 ≡ x = omega (arith, now) in
                subst (λ y. due_after set c carried cycles y ≤ y - 0) here (omega (arith, due_after-now set c row cycles carried sound feasible own))
          ];
      to_come = λ a x after low high.
          omega (
            arith,
            work_from-both (map (since c) carried) planned a x,
            carried-not_from_later c row a x carried own after,
            offline_jobs-fit set cycles [] a x sound feasible low,
          );
    }

-- so each legal pattern has a schedule with them
served-from_fits : (set : TaskSet) (c row cycles : ℕ) (carried : List Job) → is_sound set ≡ true → IsFeasible set (cycle_of set) → AreCarried c row carried → FitsFor set c carried cycles → CanChangeFor set c carried (row + 1) cycles
served-from_fits set c row cycles carried sound feasible own fits = λ pattern legal.
    let jobs = jobs_after set c carried cycles in
    let extra = pattern_jobs set.sporadics (row + 1) pattern in
    let safe = jobs_after-safe set c row cycles carried sound feasible own fits in
    let most = λ (x : ℕ). patterns_need_no_more set.sporadics [] 0 (row + 1) x pattern (separated-from_sound set sound) legal in
    served_beside set cycles (row + 1) 0 (cycles * cycle_of set) jobs extra sound (jobs_after-own set c row cycles carried sound own) (AreExtra-pattern set [] 0 (row + 1) (row + 1) pattern sound (omega arith) legal) (omega arith)
    (λ x low high. omega (arith, safe.due x low high, (most x).0))
    (λ a x low middle high. omega (arith, safe.to_come a x low middle high, (most x).1 a))

-- a change can be served exactly where it fits: the densest pattern needs all of the demand
pub changes_are_exact : ChangesAreExact
changes_are_exact set c row cycles carried sound feasible own = (
  λ can. λ x low high.
      let end = cycles * cycle_of set in
      let pattern = densest_pattern 0 set.sporadics [] 0 end in
      let extra = pattern_jobs set.sporadics (row + 1) pattern in
      let densest = the_densest_pattern_needs_all set.sporadics [] 0 (row + 1) x end (separated-from_sound set sound) high in
      let closed = closed_beside set cycles (row + 1) 0 x (jobs_after set c carried cycles) extra sound (jobs_after-own set c row cycles carried sound own).planned (jobs_after-wait set c cycles carried) (AreExtra-pattern set [] 0 (row + 1) (row + 1) pattern sound (omega arith) densest.0) high (can pattern densest.0) in
      omega (arith, closed, densest.1),
  served-from_fits set c row cycles carried sound feasible own,
)
