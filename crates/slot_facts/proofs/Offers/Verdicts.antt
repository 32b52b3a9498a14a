-- What the outcome of the cycle test means, over slot schedules.
use Rattle.std.proofs.Common.{◌≡◌, ℕ, ◌-◌, ◌*◌, ◌≤◌, true, cond, ◌&&◌, [], ◌++◌, Some, ap, subst, arith}
use Rattle.std.specs.Prelude.{Contains, slice_get, nat_le}
use Rattle.std.proofs.lemmas.Bool.{and_parts, leb-true}
use Rattle.std.proofs.lemmas.Bool.Decides.{nat_tests}
use Rattle.slot_core.specs.declared.jobs.Job.{Job}
use Rattle.slot_core.specs.declared.tasks.TaskSet.{TaskSet}
use Rattle.slot_core.specs.Offline.Keys.{row_of}
use Rattle.slot_core.specs.Sets.Cycles.{cycle_of}
use Rattle.slot_core.specs.Sets.Ranges.{is_sound}
use Rattle.slot_core.specs.Offline.OfflineJobs.{cycle_jobs, offline_jobs}
use Rattle.slot_core.specs.Feasibility.Sporadics.{IsLegalPattern, densest_pattern}
use Rattle.slot_core.specs.Claims.Schedules.{HasSchedule}
use Rattle.slot_core.specs.Feasibility.Feasible.{demand}
use Rattle.slot_core.specs.Claims.Futures.{pattern_jobs, densest_from}
use Rattle.slot_facts.specs.Verdicts.{TheVerdictMeansSchedules, FeasibleSetsCanBeServedForEver, TheDensestPatternShowsTheFailure}
use Rattle.slot_facts.proofs.Lists.Members.{Contains-from_Has, Has-from_slice_get, AllByRecursion-from_Has}
use Rattle.slot_facts.proofs.Lists.Sums.{sum_by-le-where}
use Rattle.slot_facts.proofs.Lists.ApartKeys.{AreApart-from_members}
use Rattle.slot_facts.proofs.Offline.Jobs.{offline_from_cycles, cycle-positive}
use Rattle.slot_facts.proofs.Offline.Windows.{IsOfCycle-from_offline}
use Rattle.slot_facts.proofs.Offline.DistinctKeys.{offline_jobs-apart}
use Rattle.slot_facts.proofs.Demand.Feasible.{counterexample-fails}
use Rattle.slot_facts.proofs.Scheduling.Fits.{slots_lie_before_derived_deadlines, slots_lie_after_derived_starts, work_in_window}
use Rattle.slot_facts.proofs.Scheduling.Extras.{AreExtra-pattern, separated-from_sound, pattern_jobs-start, legal-earlier}
use Rattle.slot_facts.proofs.Scheduling.Beside.{AreOwn, served_beside, due_beside, work_from-both, ArePlanned-both, SuccessorsWait-both, PredecessorsWait-both}
use Rattle.slot_facts.proofs.Scheduling.NextCycle.{three_cycles}
use Rattle.slot_facts.proofs.Patterns.NeedNoMore.{patterns_need_no_more}
use Rattle.slot_facts.proofs.Patterns.Densest.{the_densest_pattern_needs_all}
use Rattle.slot_facts.proofs.Bounds.SafeStart.{offline_jobs-safe}

-- the offline jobs of any number of cycles
pub own-offline : (set : TaskSet) (cycles : ℕ) → is_sound set ≡ true → AreOwn set cycles 1 (offline_jobs set (cycle_of set) cycles)
own-offline set cycles sound =
    let jobs = offline_jobs set (cycle_of set) cycles in
    let of_cycle = λ (job : Job) (at : Contains jobs job). (IsOfCycle-from_offline set cycles job sound at).2 in
    record {
      planned = λ job at offline. subst (Contains jobs) (ap (λ n. record job { left = n }) (of_cycle job at).whole) at;
      apart = AreApart-from_members jobs (offline_jobs-apart set (cycle_of set) cycles);
      rows = λ job at.
          let x = offline_from_cycles set (cycle_of set) cycles job (Contains-from_Has jobs job at) in
          omega (arith, ap (λ (j : Job). row_of j.key) x.instance_of.derived);
      some = λ job at.
          let own = of_cycle job (Contains-from_Has jobs job at) in
          omega (arith, own.some, own.whole);
    }

-- a feasible set can be served for any number of cycles
pub feasible_sets_can_be_served_for_ever : FeasibleSetsCanBeServedForEver
feasible_sets_can_be_served_for_ever set cycles sound feasible = λ pattern arrivals.
    let jobs = offline_jobs set (cycle_of set) cycles in
    let extra = pattern_jobs set.sporadics 1 pattern in
    let safe = offline_jobs-safe set cycles [] sound feasible in
    let most = λ (x : ℕ). patterns_need_no_more set.sporadics [] 0 1 x pattern (separated-from_sound set sound) arrivals in
    served_beside set cycles 1 0 (cycles * cycle_of set) jobs extra sound (own-offline set cycles sound) (AreExtra-pattern set [] 0 1 1 pattern sound (omega arith) arrivals) (omega arith)
    (λ x low high. omega (arith, safe.due x low high, (most x).0))
    (λ a x low middle high. omega (arith, safe.to_come a x low middle high, (most x).1 a))

-- jobs that start at a or later, and are due by b
starts_there : (a b est dl left : ℕ) → a ≤ est → cond (nat_le dl b) left 0 ≤ cond (nat_le a est && nat_le dl b) left 0
starts_there a b est dl left late = grind (arith, nat_tests)

-- where the densest pattern from a leaves a schedule of three cycles, the demand of a window from a fits
window_fits : (set : TaskSet) (a b : ℕ) → is_sound set ≡ true → b ≤ 2 * cycle_of set → HasSchedule set (offline_jobs set (cycle_of set) 3 ++ pattern_jobs set.sporadics 1 (densest_pattern 0 set.sporadics [] a (3 * cycle_of set))) 0 (3 * cycle_of set) → demand set (cycle_of set) a b ≤ b - a
window_fits set a b sound high (slots, schedule) =
    let end = 3 * cycle_of set in
    let pattern = densest_pattern 0 set.sporadics [] a end in
    let jobs = offline_jobs set (cycle_of set) 3 in
    let extra = pattern_jobs set.sporadics 1 pattern in
    let both = jobs ++ extra in
    let densest = the_densest_pattern_needs_all set.sporadics [] a 1 b end (separated-from_sound set sound) (omega arith) in
    let extras = AreExtra-pattern set [] a 1 1 pattern sound (omega arith) densest.0 in
    let own = own-offline set 3 sound in
    let planned = ArePlanned-both set 3 1 jobs extra extras own.planned in
    let after = SuccessorsWait-both set 3 1 jobs extra extras (λ before after at listed first. listed) in
    let before = PredecessorsWait-both set 3 1 jobs extra extras (λ before after at listed first. listed) in
    let test = λ (j : Job). nat_le a j.est && nat_le j.dl b in
    let parts = λ (job : Job) (passes : test job ≡ true). and_parts (nat_le a job.est) (nat_le job.dl b) passes in
    let due = λ (n : ℕ) (job : Job) (listed : slice_get both n ≡ Some job) (passes : test job ≡ true).
    due_beside set 3 1 b jobs extra sound own.planned extras (omega arith) job (Contains-from_Has both job (Has-from_slice_get both n job listed)) (leb-true job.dl b (parts job passes).1) in
    let fits = work_in_window set both 0 end a b slots test schedule due
    (λ u n job at listed passes. (
      omega (arith, leb-true a job.est (parts job passes).0, slots_lie_after_derived_starts set 3 both 0 end u n slots job sound planned before schedule at listed (λ _. due n job listed passes)),
      omega (arith, leb-true job.dl b (parts job passes).1, slots_lie_before_derived_deadlines set 3 both 0 end u n slots job sound planned after schedule at listed (λ _. due n job listed passes)),
    ))
    (omega arith) in
    let all = sum_by-le-where (λ (j : Job). cond (nat_le j.dl b) j.left 0) (λ (j : Job). cond (nat_le a j.est && nat_le j.dl b) j.left 0) (λ (j : Job). a ≤ j.est) extra (AllByRecursion-from_Has (λ (j : Job). a ≤ j.est) extra (λ job at. pattern_jobs-start set.sporadics [] a 1 pattern job densest.0 at)) (λ job late. starts_there a b job.est job.dl job.left late) in
    omega (arith, fits, work_from-both jobs extra a b, all, densest.1, three_cycles set a b sound)

-- the densest pattern from a time on is legal from 0 on
densest_from-legal : (set : TaskSet) (r : ℕ) → is_sound set ≡ true → IsLegalPattern set.sporadics [] 0 (densest_from set r)
densest_from-legal set r sound =
    legal-earlier set.sporadics [] r 0 (densest_from set r) (omega arith) (the_densest_pattern_needs_all set.sporadics [] r 1 0 (3 * cycle_of set) (separated-from_sound set sound) (omega arith)).0

-- the verdict means schedules
pub the_verdict_means_schedules : TheVerdictMeansSchedules
the_verdict_means_schedules set sound = (
  feasible_sets_can_be_served_for_ever set 3 sound,
  λ can. λ a b start low high.
      window_fits set a b sound high (can (densest_from set a) (densest_from-legal set a sound)),
)

-- and the densest pattern from the failing window shows the failure
pub the_densest_pattern_shows_the_failure : TheDensestPatternShowsTheFailure
the_densest_pattern_shows_the_failure set window sound found =
    let (start, low, high, needs, short) = counterexample-fails (cycle_jobs set (cycle_of set) 0) set.sporadics (cycle_of set) window (cycle-positive set sound) found in
    record {
      legal = densest_from-legal set window.from sound;
      none = λ schedule. absurd (omega (arith, window_fits set window.from window.until sound high schedule, needs, short));
    }
