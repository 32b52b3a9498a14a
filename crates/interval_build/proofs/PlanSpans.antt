-- The spans of the first cycle, from its jobs in any order and its points.
use Rattle.std.proofs.Common.{◌≡◌, ℕ, ◌+◌, ◌*◌, ◌/◌, ◌<◌, ◌≤◌, List, [], ◌++◌, filter, refl, sym, ap, ◌∙◌, arith}
use Rattle.std.specs.Prelude.{nat_le}
use Rattle.std.specs.List.{range_with_len}
use Rattle.std.proofs.Math.Nat.{zero-div}
use Rattle.std.proofs.lemmas.List.Elements.{filter_agree}
use Rattle.std.proofs.lemmas.List.Sorted.{IsPermutation-sym, Contains-permutation}
use Rattle.slot_core.specs.declared.jobs.Job.{Job}
use Rattle.slot_core.specs.declared.jobs.Span.{Span}
use Rattle.slot_core.specs.declared.tasks.TaskSet.{TaskSet}
use Rattle.slot_core.specs.Sets.Cycles.{cycle_of}
use Rattle.slot_core.specs.Offline.OfflineJobs.{cycle_jobs, offline_jobs}
use Rattle.slot_core.specs.Runs.Points.{plan_points}
use Rattle.slot_core.specs.Runs.Scenes.{horizon}
use Rattle.slot_core.specs.Runs.Spans.{spans_between}
use Rattle.slot_core.specs.Keeping.Plans.{plan_spans}
use Rattle.slot_facts.proofs.Lists.Members.{Has, Has-from_Contains, Contains-from_Has, Has-filter_passes, Has-range_with_len_bounds}
use Rattle.slot_facts.proofs.Histories.Unended.{remaining-start}
use Rattle.slot_facts.proofs.Offline.Jobs.{cycle-positive}
use Rattle.interval_build.specs.FirstJobs.{AreFirstJobs}
use Rattle.slot_facts.proofs.Plans.CyclePoints.{is_cycle_point, points_by}
use Rattle.slot_facts.proofs.Plans.Points.{AreInCycle, planned-bounds, point-from_planned, Has-cycle}
use Rattle.slot_facts.proofs.Plans.PointsInAnyOrder.{is_point-among}
use Rattle.slot_facts.proofs.Offline.LaterJobs.{FitsInCycle-from_first}
use Rattle.slot_facts.proofs.Lists.RangeFilters.{filter-parts}
use Rattle.interval_build.proofs.RisingPoints.{AreRising-filter, last_point-filter}
use Rattle.slot_facts.proofs.Plans.SpanSums.{spans_between-permutation}
use Rattle.slot_core.specs.Runs.Rising.{AreRising, last_point}
use Rattle.slot_facts.proofs.Plans.FirstSpans.{first_spans}
use Rattle.slot_facts.proofs.Plans.SetPoints.{points_of-start}
use Rattle.interval_build.proofs.OneCycle.{spans_of_one_cycle}

-- the points of the first cycle, from these jobs
abbrev pub first_points : TaskSet → List Job → List ℕ
first_points set jobs = points_by (cycle_of set) jobs (cycle_of set)

-- the jobs lie in the cycle, so that the points do too
pub in_cycle-from_first : (set : TaskSet) (jobs : List Job) → AreFirstJobs set jobs → AreInCycle (cycle_of set) jobs
in_cycle-from_first set jobs these j listed =
    let first = cycle_jobs set (cycle_of set) 0 in
    let at = Contains-permutation jobs first j (IsPermutation-sym first jobs these.listed) (Contains-from_Has jobs j listed) in
    let fits = FitsInCycle-from_first set j these.sound these.feasible at in
    (omega (arith, fits.some, fits.room), fits.within)

planned-within : (set : TaskSet) (jobs : List Job) → AreFirstJobs set jobs → (q : ℕ) → Has (plan_points (cycle_of set) jobs) q → q ≤ cycle_of set
planned-within set jobs these q h =
    (planned-bounds (cycle_of set) jobs q (cycle-positive set these.sound) (in_cycle-from_first set jobs these) h).1

-- each list of the jobs of the first cycle has the same points
same_points : (set : TaskSet) (jobs : List Job) → AreFirstJobs set jobs → (p : ℕ) → is_cycle_point (cycle_of set) jobs p ≡ is_cycle_point (cycle_of set) (cycle_jobs set (cycle_of set) 0) p
same_points set jobs these =
    let first = cycle_jobs set (cycle_of set) 0 in
    is_point-among
    (cycle_of set)
    jobs
    first
    (λ j h. Has-from_Contains first j (Contains-permutation jobs first j (IsPermutation-sym first jobs these.listed) (Contains-from_Has jobs j h)))
    (λ j h. Has-from_Contains jobs j (Contains-permutation first jobs j these.listed (Contains-from_Has first j h)))

-- the last point is the cycle's end, and the points rise to there
pub last_of_first_points : (set : TaskSet) (jobs : List Job) → AreFirstJobs set jobs → last_point 0 (first_points set jobs) ≡ cycle_of set
last_of_first_points set jobs these =
    let cycle = cycle_of set in
    last_point-filter
    (is_cycle_point (cycle_of set) jobs)
    0
    cycle
    (cycle-positive set these.sound)
    (point-from_planned cycle (plan_points cycle jobs) [] cycle (Has-cycle cycle jobs))

pub first_points-rise : (set : TaskSet) (jobs : List Job) → AreRising 0 (first_points set jobs)
first_points-rise set jobs = AreRising-filter (is_cycle_point (cycle_of set) jobs) 0 1 (cycle_of set) (omega arith)

-- the plan's spans are those between the points of three cycles, from these jobs, that end in the first
plan_spans-is : (set : TaskSet) (jobs : List Job) (n : ℕ) → AreFirstJobs set jobs → n ≡ 3 * cycle_of set → filter (λ (s : Span). nat_le s.end (cycle_of set)) (spans_between (offline_jobs set (cycle_of set) 3) n 0 (filter (is_cycle_point (cycle_of set) jobs) (range_with_len 1 n))) ≡ plan_spans set (cycle_of set)
plan_spans-is set jobs n these e =
    let none : 0 / cycle_of set ≡ 0 = zero-div (cycle_of set) in
    let reach : n ≡ horizon (cycle_of set) 0 = rw none (omega arith) in
    let points = filter_agree (is_cycle_point (cycle_of set) jobs) (is_cycle_point (cycle_of set) (cycle_jobs set (cycle_of set) 0)) (same_points set jobs these) (range_with_len 1 n) ∙ sym (points_of-start set n e) in
    let all = sym (remaining-start set these.sound) in
    λ i. filter (λ (s : Span). nat_le s.end (cycle_of set)) (spans_between (all i) (reach i) 0 (points i))

-- those that end in the first cycle are the spans between its points
first_of_three : (set : TaskSet) (jobs all : List Job) (n : ℕ) → n ≡ 3 * cycle_of set → filter (λ (s : Span). nat_le s.end (cycle_of set)) (spans_between all n 0 (filter (is_cycle_point (cycle_of set) jobs) (range_with_len 1 n))) ≡ spans_between all n 0 (first_points set jobs)
first_of_three set jobs all n e =
    let cycle = cycle_of set in
    let points = first_points set jobs in
    let rest = filter (is_cycle_point (cycle_of set) jobs) (range_with_len (1 + cycle) (2 * cycle)) in
    let split : filter (is_cycle_point (cycle_of set) jobs) (range_with_len 1 n) ≡ points ++ rest = filter-parts (is_cycle_point (cycle_of set) jobs) 1 (1 + cycle) cycle (2 * cycle) n refl (omega arith) in
    let early = λ (x : ℕ) (h : Has points x).
    let bounds = Has-range_with_len_bounds 1 cycle x (Has-filter_passes (is_cycle_point (cycle_of set) jobs) (range_with_len 1 cycle) x h).0 in
    let le : x ≤ cycle = omega (arith, bounds.1) in
    le in
    let later = λ (y : ℕ) (h : Has rest y).
    let bounds = Has-range_with_len_bounds (1 + cycle) (2 * cycle) y (Has-filter_passes (is_cycle_point (cycle_of set) jobs) (range_with_len (1 + cycle) (2 * cycle)) y h).0 in
    let lt : cycle < y = omega (arith, bounds.0) in
    lt in
    ap (λ points. filter (λ (s : Span). nat_le s.end cycle) (spans_between all n 0 points)) split ∙ first_spans all n 0 cycle points rest early later

-- the spans between the points of these jobs in their cycle, as far as it goes, are the plan's
pub plan_spans-first : (set : TaskSet) (jobs : List Job) → AreFirstJobs set jobs → spans_between jobs (cycle_of set) 0 (first_points set jobs) ≡ plan_spans set (cycle_of set)
plan_spans-first set jobs these =
    let cycle = cycle_of set in
    let first = cycle_jobs set cycle 0 in
    let all = offline_jobs set cycle 3 in
    let points = first_points set jobs in
    let last : last_point 0 points ≤ cycle = omega (arith, last_of_first_points set jobs these) in
    let order = sym (spans_between-permutation first jobs these.listed cycle 0 points) in
    let reach = spans_of_one_cycle set 0 points these.sound these.feasible (first_points-rise set jobs) last in
    order ∙ (reach ∙ (sym (first_of_three set jobs all (3 * cycle) refl) ∙ plan_spans-is set jobs (3 * cycle) these refl))
