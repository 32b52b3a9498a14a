-- The spans of a plan are as its calls ask, and fill its cycle.
use Rattle.std.proofs.Common.{◌≡◌, ℕ, ◌≤◌, pos, ◌≤ℤ◌, ◌&&◌, cond, ltb, leb, List, [], ◌∷◌, length, refl, sym, ap, ◌∙◌, subst, arith}
use Rattle.std.specs.Prelude.{nat_le, nat_lt}
use Rattle.std.proofs.lemmas.Bool.Decides.{nat_tests}
use Rattle.std.proofs.lemmas.Int.{ints}
use Rattle.std.proofs.lemmas.List.Sums.{sum_by-le-sum_by}
use Rattle.slot_core.specs.declared.TheConstants.{SLOT_LIMIT}
use Rattle.slot_core.specs.declared.jobs.Job.{Job}
use Rattle.slot_core.specs.declared.tasks.TaskSet.{TaskSet}
use Rattle.slot_core.specs.Sets.Cycles.{cycle_of}
use Rattle.slot_core.specs.Offline.OfflineJobs.{cycle_jobs}
use Rattle.slot_core.specs.Runs.Demand.{work_between, work_from}
use Rattle.slot_core.specs.Keeping.Plans.{PlanParts, plan_spans, IsPlan}
use Rattle.slot_core.specs.Runs.Rising.{AreRising, last_point}
use Rattle.slot_core.specs.Runs.Spans.{slack, spans_between}
use Rattle.slot_facts.proofs.Bounds.SafeStart.{offline_jobs-fit}
use Rattle.slot_facts.proofs.Lists.SameItems.{same-from_permutation}
use Rattle.slot_facts.proofs.Offline.Jobs.{cycle-positive, cycle-at_most}
use Rattle.slot_facts.proofs.Plans.SpanSums.{work_between-same}
use Rattle.spare_capacity.specs.PlanSpans.{AreProper, ArePlanSpans}
use Rattle.spare_capacity.specs.Recurrence.{filled, first_spare, last_end, FollowOn}
use Rattle.spare_capacity.proofs.Filled.{filled-filled, FollowOn-filled}
use Rattle.interval_build.specs.FirstJobs.{AreFirstJobs}
use Rattle.interval_build.specs.Rows.{rows_between}
use Rattle.interval_build.proofs.Filled.{AreDueAt-from_All, filled-rows_between, last_point-above, FollowOn-rows_between}
use Rattle.interval_build.proofs.FirstJobFacts.{AreFirstJobs-from_plan, all_at_points, first_small}
use Rattle.interval_build.proofs.Least.{IsLeast-least}
use Rattle.interval_build.proofs.PlanSpans.{first_points, first_points-rise, last_of_first_points, plan_spans-first}

-- a job that is due after 0 starts at 0 or later
counts_from_0 : (left est dl x : ℕ) → cond (ltb 0 dl && leb dl x) left 0 ≤ cond (leb 0 est && leb dl x) left 0
counts_from_0 left est dl x = grind (arith, nat_tests)

-- the work due by a time of the first cycle fits the slots before it
slack_from_0 : (set : TaskSet) (jobs : List Job) (x : ℕ) → AreFirstJobs set jobs → pos 0 ≤ℤ slack jobs 0 x
slack_from_0 set jobs x these =
    let first = cycle_jobs set (cycle_of set) 0 in
    let same : work_between first 0 x ≡ work_between jobs 0 x = work_between-same first jobs (same-from_permutation first jobs these.listed) 0 x in
    let due : work_between first 0 x ≤ work_from first 0 x = sum_by-le-sum_by (λ (j : Job). cond (nat_lt 0 j.dl && nat_le j.dl x) j.left 0) (λ (j : Job). cond (nat_le 0 j.est && nat_le j.dl x) j.left 0) first (λ j. counts_from_0 j.left j.est j.dl x) in
    omega (arith, ints, offline_jobs-fit set 1 [] 0 x these.sound these.feasible (omega arith))

-- where no stretch from the start has more work than slots, the first capacity is at least 0
pub first_spare-between : (jobs : List Job) (end start : ℕ) (points : List ℕ) → AreRising start points → last_point start points ≤ end → ((x : ℕ) → start ≤ x → x ≤ end → pos 0 ≤ℤ slack jobs start x) → pos 0 ≤ℤ first_spare (spans_between jobs end start points)
first_spare-between jobs end start [] rising within room = omega (arith, ints)
first_spare-between jobs end start (e ∷ points) rising within room =
    let least = IsLeast-least (slack jobs start) e end (omega (arith, last_point-above e points rising.1)) in
    let (x, low, high, is) = least.reached in
    subst (λ z. pos 0 ≤ℤ z) (sym is) (room x (omega (arith, rising.0)) high)

-- each span between rising points has its end above its start
pub AreProper-between : (jobs : List Job) (end start : ℕ) (points : List ℕ) → AreRising start points → AreProper (spans_between jobs end start points)
AreProper-between jobs end start [] rising = tt
AreProper-between jobs end start (e ∷ points) rising =
    (rising.0, AreProper-between jobs end e points rising.1)

-- the last span ends at the last point
pub last_end-between : (jobs : List Job) (end start : ℕ) (points : List ℕ) → last_end start (spans_between jobs end start points) ≡ last_point start points
last_end-between jobs end start [] = refl
last_end-between jobs end start (e ∷ points) = last_end-between jobs end e points

-- where the last point is above 0 there is a span
some_points : (points : List ℕ) (jobs : List Job) (last cycle : ℕ) → 1 ≤ cycle → last_point 0 points ≡ cycle → 1 ≤ length (spans_between jobs last 0 points)
some_points [] jobs last cycle some at = absurd (omega arith)
some_points (e ∷ points) jobs last cycle some at = omega arith

-- the spans between the points of the jobs in their cycle
ArePlanSpans-between : (set : TaskSet) (jobs : List Job) → AreFirstJobs set jobs → ArePlanSpans (spans_between jobs (cycle_of set) 0 (first_points set jobs))
ArePlanSpans-between set jobs these =
    let cycle = cycle_of set in
    let points = first_points set jobs in
    let rising = first_points-rise set jobs in
    let last : last_point 0 points ≡ cycle = last_of_first_points set jobs these in
    let most : cycle ≤ SLOT_LIMIT = cycle-at_most set these.sound in
    let rows = rows_between jobs 0 points in
    let small = first_small set jobs these in
    let is : filled rows ≡ spans_between jobs cycle 0 points = filled-rows_between jobs 0 points rising (AreDueAt-from_All jobs 0 points (all_at_points set jobs these)) ∙ ap (λ n. spans_between jobs n 0 points) last in
    record {
      some = some_points points jobs cycle cycle (cycle-positive set these.sound) last;
      consecutive = subst (FollowOn 0) is (FollowOn-filled 0 rows (FollowOn-rows_between jobs 0 points rising (omega arith) (omega arith)));
      proper = AreProper-between jobs cycle 0 points rising;
      filled = sym (ap filled (sym is) ∙ filled-filled rows ∙ is);
      first = first_spare-between jobs cycle 0 points rising (omega (arith, last)) (λ x low high. slack_from_0 set jobs x these);
    }

-- so the spans of a plan are plan spans
pub ArePlanSpans-plan_spans : (set : TaskSet) (jobs : List Job) → AreFirstJobs set jobs → ArePlanSpans (plan_spans set (cycle_of set))
ArePlanSpans-plan_spans set jobs these =
    subst ArePlanSpans (plan_spans-first set jobs these) (ArePlanSpans-between set jobs these)

-- and the last of them ends with the cycle
pub last_end-plan_spans : (set : TaskSet) (jobs : List Job) → AreFirstJobs set jobs → last_end 0 (plan_spans set (cycle_of set)) ≡ cycle_of set
last_end-plan_spans set jobs these =
    ap (last_end 0) (sym (plan_spans-first set jobs these)) ∙ (last_end-between jobs (cycle_of set) 0 (first_points set jobs) ∙ last_of_first_points set jobs these)

-- this holds of each plan
pub ArePlanSpans-from_plan : (plan : PlanParts) → IsPlan plan → ArePlanSpans plan.spans × (last_end 0 plan.spans ≡ plan.cycle)
ArePlanSpans-from_plan plan is_plan =
    let these = AreFirstJobs-from_plan plan is_plan in
    let spans : plan.spans ≡ plan_spans plan.tasks (cycle_of plan.tasks) = is_plan.spans ∙ ap (plan_spans plan.tasks) is_plan.cycle in (
      subst ArePlanSpans (sym spans) (ArePlanSpans-plan_spans plan.tasks plan.jobs these),
      ap (last_end 0) spans ∙ (last_end-plan_spans plan.tasks plan.jobs these ∙ sym is_plan.cycle),
    )
