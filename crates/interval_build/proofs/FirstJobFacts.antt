-- What the jobs of the first cycle of a feasible set keep.
use Rattle.std.proofs.Common.{◌≡◌, ℕ, ◌+◌, ◌<◌, ◌≤◌, true, cond, List, [], length, subst, arith}
use Rattle.std.specs.Prelude.{All, Contains, IsPermutation, sum_by, nat_le, ◌&&◌}
use Rattle.std.specs.List.{range_with_len}
use Rattle.std.proofs.lemmas.Bool.Decides.{nat_tests}
use Rattle.std.proofs.lemmas.List.Elements.{All-from_recursion}
use Rattle.std.proofs.lemmas.List.Sorted.{sum_by-IsPermutation}
use Rattle.slot_core.specs.declared.TheConstants.{SLOT_LIMIT}
use Rattle.slot_core.specs.declared.jobs.Job.{Job}
use Rattle.slot_core.specs.declared.tasks.TaskSet.{TaskSet}
use Rattle.slot_core.specs.Sets.Cycles.{cycle_of}
use Rattle.slot_core.specs.Sets.Ranges.{is_sound}
use Rattle.slot_core.specs.Offline.OfflineJobs.{cycle_jobs}
use Rattle.slot_core.specs.Runs.Points.{plan_points}
use Rattle.slot_core.specs.Feasibility.Feasible.{IsFeasible}
use Rattle.slot_core.specs.Keeping.Plans.{PlanParts, IsPlan}
use Rattle.slot_facts.proofs.Lists.Members.{Contains-from_Has, Has-filter, Has-range_with_len, AllByRecursion-from_Has}
use Rattle.slot_facts.proofs.Lists.RangeFilters.{length-filter_range}
use Rattle.slot_facts.proofs.Offline.LaterCycles.{cycle_jobs-later}
use Rattle.slot_facts.proofs.Offline.Jobs.{cycle-positive, cycle-at_most}
use Rattle.slot_facts.proofs.Plans.CyclePoints.{is_cycle_point}
use Rattle.slot_facts.proofs.Plans.Points.{point-from_planned, Has-deadline}
use Rattle.interval_build.specs.FirstJobs.{AreFirstJobs}
use Rattle.interval_build.proofs.PlanSpans.{first_points, in_cycle-from_first}

-- the jobs of a plan are those of the first cycle of its set
pub AreFirstJobs-from_plan : (plan : PlanParts) → IsPlan plan → AreFirstJobs plan.tasks plan.jobs
AreFirstJobs-from_plan plan is_plan =
    record {
      sound = is_plan.sound;
      feasible = subst (IsFeasible plan.tasks) is_plan.cycle is_plan.feasible;
      listed = subst (λ n. IsPermutation (cycle_jobs plan.tasks n 0) plan.jobs) is_plan.cycle is_plan.jobs;
      ordered = is_plan.ordered;
    }

-- each job starts before its deadline, which is in the cycle
pub all_started : (set : TaskSet) (jobs : List Job) → AreFirstJobs set jobs → All (λ (j : Job). j.est < j.dl) jobs
all_started set jobs these =
    All-from_recursion (λ (j : Job). j.est < j.dl) jobs (AllByRecursion-from_Has (λ (j : Job). j.est < j.dl) jobs (λ j listed. (in_cycle-from_first set jobs these j listed).0))

pub all_due : (set : TaskSet) (jobs : List Job) → AreFirstJobs set jobs → All (λ (j : Job). j.dl ≤ cycle_of set) jobs
all_due set jobs these =
    All-from_recursion (λ (j : Job). j.dl ≤ cycle_of set) jobs (AllByRecursion-from_Has (λ (j : Job). j.dl ≤ cycle_of set) jobs (λ j listed. (in_cycle-from_first set jobs these j listed).1))

-- it is due at one of the points
pub all_at_points : (set : TaskSet) (jobs : List Job) → AreFirstJobs set jobs → All (λ (j : Job). Contains (first_points set jobs) j.dl) jobs
all_at_points set jobs these =
    let cycle = cycle_of set in
    let P : Job → Type 0 = λ (j : Job). Contains (first_points set jobs) j.dl in
    All-from_recursion
    P
    jobs
    (AllByRecursion-from_Has P jobs (λ j listed.
    let within = in_cycle-from_first set jobs these j listed in
    let passes = point-from_planned cycle (plan_points cycle jobs) [] j.dl (Has-deadline cycle jobs j listed) in
    Contains-from_Has (first_points set jobs) j.dl (Has-filter (is_cycle_point (cycle_of set) jobs) (range_with_len 1 cycle) j.dl (Has-range_with_len 1 cycle j.dl (omega (arith, within.0)) (omega (arith, within.1))) passes)))

-- there are at most as many points as slots
pub few_points : (set : TaskSet) (jobs : List Job) → AreFirstJobs set jobs → length (first_points set jobs) ≤ SLOT_LIMIT
few_points set jobs these =
    omega (arith, length-filter_range (is_cycle_point (cycle_of set) jobs) 1 (cycle_of set), cycle-at_most set these.sound)

-- the slots of the jobs of a cycle are at most those of the cycle
counts_whole : (cycle est dl left declared : ℕ) → left ≡ declared → dl ≤ cycle → left ≤ cond (nat_le 0 (est + 0) && nat_le (dl + 0) cycle) declared 0
counts_whole cycle est dl left declared e h = grind (arith, nat_tests)

cycle_small : (set : TaskSet) (n : ℕ) → is_sound set ≡ true → IsFeasible set (cycle_of set) → sum_by (λ (j : Job). j.left) (cycle_jobs set (cycle_of set) n) ≤ cycle_of set
cycle_small set n sound feasible =
    let cycle = cycle_of set in
    let positive = cycle-positive set sound in
    let within = cycle_jobs-later set n (λ (j : Job). j.left) (λ (j : Job). cond (nat_le 0 (j.est + 0) && nat_le (j.dl + 0) cycle) j.declared 0) sound feasible (λ job other m. counts_whole cycle job.est job.dl other.left job.declared m.left m.within) in
    omega (arith, within, feasible 0 cycle positive positive (omega arith))

pub first_small : (set : TaskSet) (jobs : List Job) → AreFirstJobs set jobs → sum_by (λ (j : Job). j.left) jobs ≤ SLOT_LIMIT
first_small set jobs these =
    let left = λ (j : Job). j.left in
    omega (arith, sum_by-IsPermutation left (cycle_jobs set (cycle_of set) 0) jobs these.listed, cycle_small set 0 these.sound these.feasible, cycle-at_most set these.sound)
