-- The plan's jobs and span ends of a cycle are the jobs and the points of that cycle.
use Rattle.std.proofs.Common.{◌≡◌, ℕ, zero, suc, ◌+◌, ◌*◌, ◌/◌, ◌%◌, ◌≤◌, ◌^◌, ◌==◌, List, ◌++◌, length, map, take, sym, ap, ap₂, ◌∙◌, subst, arith}
use Rattle.std.specs.Prelude.{sum_by, All}
use Rattle.std.specs.List.{range_with_len, AllByRecursion}
use Rattle.std.proofs.lemmas.Bool.{cond-true, eq-eqb}
use Rattle.std.proofs.lemmas.List.Elements.{All-from_recursion, filter_agree, recursion_from_All}
use Rattle.std.proofs.lemmas.List.{take_all}
use Rattle.std.proofs.lemmas.List.Sorted.{IsPermutation-sym}
use Rattle.std.proofs.lemmas.List.Sums.{sum_by-append, sum_by-take-le}
use Rattle.slot_core.specs.declared.TheConstants.{SLOT_LIMIT}
use Rattle.slot_core.specs.declared.jobs.Job.{Job}
use Rattle.slot_core.specs.declared.jobs.Span.{Span}
use Rattle.slot_core.specs.declared.tasks.TaskSet.{TaskSet}
use Rattle.slot_core.specs.Sets.Cycles.{cycle_of}
use Rattle.slot_core.specs.Keeping.Plans.{plan_spans, AreInDeadlineOrder, IsPlan, PlanParts}
use Rattle.slot_core.specs.Offline.OfflineJobs.{cycle_jobs, later_job}
use Rattle.slot_core.specs.Runs.Matches.{IsSameScene}
use Rattle.slot_core.specs.Runs.Scenes.{Scene}
use Rattle.slot_core.specs.Runs.Spans.{spans_between}
use Rattle.slot_facts.proofs.Lists.Maps.{map-map}
use Rattle.slot_facts.proofs.Lists.Members.{AllByRecursion-append, AllByRecursion-weaker}
use Rattle.slot_facts.proofs.Lists.Permuted.{Has-permuted}
use Rattle.slot_facts.proofs.Lists.SameItems.{same-append}
use Rattle.slot_facts.proofs.Lists.Sums.{sum_by-map}
use Rattle.slot_facts.proofs.Offline.LaterJobs.{FitsInCycle, all_fit, later-due_after, later-due_by}
use Rattle.slot_facts.proofs.Plans.CyclePoints.{is_cycle_point}
use Rattle.slot_facts.proofs.Plans.DeadlineOrder.{AreInDeadlineOrder-append, AreInDeadlineOrder-later}
use Rattle.slot_facts.proofs.Plans.LaterPoints.{points_of_cycle}
use Rattle.slot_facts.proofs.Plans.PointsInAnyOrder.{is_point-among}
use Rattle.slot_facts.proofs.Plans.SetPoints.{planned, planned-within}
use Rattle.interval_build.specs.FirstJobs.{AreFirstJobs}
use Rattle.interval_build.proofs.FirstJobFacts.{first_small, AreFirstJobs-from_plan}
use Rattle.interval_build.proofs.PlanSpans.{first_points, plan_spans-first}
use Rattle.scene_steps.specs.Steps.{points_in_cycle, with_cycle, with_next_cycle}
use Rattle.scene_steps.proofs.Same.SameScenes.{same_scene-refl}
use Rattle.scene_steps.proofs.Slots.NewParts.{cycle_jobs-same, ends-between}
use Rattle.scene_steps.proofs.Starts.FirstJobs.{first_cycles}
use Rattle.trace_verify.proofs.OrderEdits.{AreInDeadlineOrder-take, all_take}

-- the jobs of a plan lie in its cycle
plan_jobs-fit : (plan : PlanParts) → IsPlan plan → AllByRecursion (FitsInCycle plan.cycle) plan.jobs
plan_jobs-fit plan is_plan =
    let first = AreFirstJobs-from_plan plan is_plan in
    subst (λ c. AllByRecursion (FitsInCycle c) plan.jobs) (sym is_plan.cycle) (all_fit plan.tasks plan.jobs first.sound first.feasible first.listed)

-- the first of its jobs of a cycle stand in order behind jobs that are due by the start of the cycle
pub pushed-ordered : (plan : PlanParts) (n i : ℕ) (jobs : List Job) → IsPlan plan → AreInDeadlineOrder jobs → All (λ (j : Job). j.dl ≤ n * plan.cycle) jobs → AreInDeadlineOrder (jobs ++ map (later_job plan.tasks plan.cycle n) (take i plan.jobs))
pushed-ordered plan n i jobs is_plan ordered earlier =
    let front = take i plan.jobs in
    let fit = all_take (FitsInCycle plan.cycle) i plan.jobs (plan_jobs-fit plan is_plan) in
    AreInDeadlineOrder-append
    (n * plan.cycle)
    jobs
    (map (later_job plan.tasks plan.cycle n) front)
    (recursion_from_All (λ (j : Job). j.dl ≤ n * plan.cycle) jobs earlier)
    (later-due_after plan.tasks plan.cycle n front fit)
    ordered
    (AreInDeadlineOrder-later plan.tasks plan.cycle n front (AreInDeadlineOrder-take i plan.jobs is_plan.ordered))

-- and have few slots
pub pushed-few : (plan : PlanParts) (n i : ℕ) → IsPlan plan → sum_by (λ (j : Job). j.left) (map (later_job plan.tasks plan.cycle n) (take i plan.jobs)) ≤ SLOT_LIMIT
pushed-few plan n i is_plan =
    let left = λ (j : Job). j.left in
    let same : sum_by left (map (later_job plan.tasks plan.cycle n) (take i plan.jobs)) ≡ sum_by left (take i plan.jobs) = sum_by-map left (later_job plan.tasks plan.cycle n) (take i plan.jobs) in
    omega (arith, same, sum_by-take-le left plan.jobs i, first_small plan.tasks plan.jobs (AreFirstJobs-from_plan plan is_plan))

-- so do those of the first cycles
first_cycles-left : (plan : PlanParts) (n : ℕ) → IsPlan plan → sum_by (λ (j : Job). j.left) (first_cycles plan n) ≤ n * SLOT_LIMIT
first_cycles-left plan zero is_plan = omega arith
first_cycles-left plan (suc n) is_plan =
    let left = λ (j : Job). j.left in
    let whole = take_all (length plan.jobs) plan.jobs (omega arith) in
    omega (arith, sum_by-append left (first_cycles plan n) (map (later_job plan.tasks plan.cycle n) plan.jobs), ap (λ js. sum_by left (map (later_job plan.tasks plan.cycle n) js)) whole, pushed-few plan n (length plan.jobs) is_plan, first_cycles-left plan n is_plan)

pub first_cycles-few : (plan : PlanParts) (n : ℕ) (jobs : List Job) → IsPlan plan → n ≤ 2 → jobs ≡ first_cycles plan n → sum_by (λ (j : Job). j.left) jobs ≤ 2 ^ 38
first_cycles-few plan n jobs is_plan low are =
    omega (arith, ap (sum_by (λ (j : Job). j.left)) are, first_cycles-left plan n is_plan)

-- the jobs of the first n cycles are due by their end
first_cycles-by : (plan : PlanParts) (n : ℕ) → IsPlan plan → AllByRecursion (λ (j : Job). j.dl ≤ n * plan.cycle) (first_cycles plan n)
first_cycles-by plan zero is_plan = tt
first_cycles-by plan (suc n) is_plan =
    let more = map (later_job plan.tasks plan.cycle n) plan.jobs in
    let by : AllByRecursion (λ (j : Job). j.dl ≤ suc n * plan.cycle) (first_cycles plan n) = AllByRecursion-weaker (λ (j : Job). j.dl ≤ n * plan.cycle) (λ (j : Job). j.dl ≤ suc n * plan.cycle) (first_cycles plan n) (λ j early. omega (arith, early)) (first_cycles-by plan n is_plan) in
    let last : AllByRecursion (λ (j : Job). j.dl ≤ suc n * plan.cycle) more = AllByRecursion-weaker (λ (j : Job). j.dl ≤ (n + 1) * plan.cycle) (λ (j : Job). j.dl ≤ suc n * plan.cycle) more (λ j early. omega (arith, early)) (later-due_by plan.tasks plan.cycle n plan.jobs (plan_jobs-fit plan is_plan)) in
    AllByRecursion-append (λ (j : Job). j.dl ≤ suc n * plan.cycle) (first_cycles plan n) more by last

pub first_cycles-due : (plan : PlanParts) (n : ℕ) (jobs : List Job) → IsPlan plan → jobs ≡ first_cycles plan n → All (λ (j : Job). j.dl ≤ n * plan.cycle) jobs
first_cycles-due plan n jobs is_plan are =
    subst (All (λ (j : Job). j.dl ≤ n * plan.cycle)) (sym are) (All-from_recursion (λ (j : Job). j.dl ≤ n * plan.cycle) (first_cycles plan n) (first_cycles-by plan n is_plan))

-- the points of a cycle are those of the first, which the spans of the first end at
ends-later : (set : TaskSet) (jobs : List Job) (n : ℕ) → AreFirstJobs set jobs → map (λ (s : Span). s.end + n * cycle_of set) (plan_spans set (cycle_of set)) ≡ points_in_cycle set (cycle_of set) n
ends-later set jobs n these =
    let cycle = cycle_of set in
    let first = cycle_jobs set cycle 0 in
    let spans = spans_between jobs cycle 0 (first_points set jobs) in
    let later = λ (e : ℕ). e + n * cycle in
    let points = filter_agree (is_cycle_point cycle jobs) (is_cycle_point cycle first)
    (is_point-among cycle jobs first
    (λ j h. Has-permuted jobs first j (IsPermutation-sym first jobs these.listed) h)
    (λ j h. Has-permuted first jobs j these.listed h))
    (range_with_len 1 cycle) in
    let start : n * cycle + 1 ≡ 1 + n * cycle = omega arith in
    let all = points_of_cycle cycle (planned set) n (n * cycle + 1) (λ q at. (planned-within set these.sound these.feasible q at).1) start in
    ap (map (λ (s : Span). s.end + n * cycle)) (sym (plan_spans-first set jobs these))
    ∙ sym (map-map later (λ (s : Span). s.end) spans)
    ∙ ap (map later) (ends-between jobs cycle 0 (first_points set jobs) ∙ points)
    ∙ sym all

-- the ends of a plan's spans, so many cycles later, are the points of that cycle
pub plan_points-later : (plan : PlanParts) (n : ℕ) → IsPlan plan → map (λ (s : Span). s.end + n * plan.cycle) plan.spans ≡ points_in_cycle plan.tasks plan.cycle n
plan_points-later plan n is_plan =
    let same = ends-later plan.tasks plan.jobs n (AreFirstJobs-from_plan plan is_plan) in
    ap (map (λ (s : Span). s.end + n * plan.cycle)) is_plan.spans
    ∙ subst (λ c. map (λ (s : Span). s.end + n * c) (plan_spans plan.tasks c) ≡ points_in_cycle plan.tasks c n) (sym is_plan.cycle) same

-- a scene with the plan's jobs and span ends of a cycle is one with that cycle
pub with_cycle-made : (plan : PlanParts) (n : ℕ) (before other after : Scene) → IsPlan plan → IsSameScene before other → after ≡ record before { jobs = before.jobs ++ map (later_job plan.tasks plan.cycle n) plan.jobs; points = before.points ++ map (λ (s : Span). s.end + n * plan.cycle) plan.spans } → IsSameScene after (with_cycle plan.tasks plan.cycle n other)
with_cycle-made plan n before other after is_plan same made =
    subst
    (λ (s : Scene). IsSameScene s (with_cycle plan.tasks plan.cycle n other))
    (sym made)
    (record {
      time = same.time;
      jobs = same-append before.jobs other.jobs (map (later_job plan.tasks plan.cycle n) plan.jobs) (cycle_jobs plan.tasks plan.cycle n) same.jobs (cycle_jobs-same plan n is_plan);
      nexts = same.nexts;
      soft = same.soft;
      points = ap₂ (λ xs ys. xs ++ ys) same.points (plan_points-later plan n is_plan);
    })

-- at the start of a cycle that is the scene with the next cycle
pub with_next_cycle-made : (plan : PlanParts) (scene after : Scene) (at cycle : ℕ) → IsPlan plan → scene.time ≡ at → cycle ≡ plan.cycle → at % cycle ≡ 0 → after ≡ record scene { jobs = scene.jobs ++ map (later_job plan.tasks plan.cycle (at / cycle + 2)) plan.jobs; points = scene.points ++ map (λ (s : Span). s.end + (at / cycle + 2) * plan.cycle) plan.spans } → IsSameScene after (with_next_cycle plan.tasks plan.cycle scene)
with_next_cycle-made plan scene after at cycle is_plan time whole starts made =
    let number : at / cycle + 2 ≡ scene.time / plan.cycle + 2 = λ i. sym time i / whole i + 2 in
    let rest : scene.time % plan.cycle ≡ 0 = (λ i. time i % sym whole i) ∙ starts in
    let n : ℕ = scene.time / plan.cycle + 2 in
    let own = subst (λ k. after ≡ record scene { jobs = scene.jobs ++ map (later_job plan.tasks plan.cycle k) plan.jobs; points = scene.points ++ map (λ (s : Span). s.end + k * plan.cycle) plan.spans }) number made in
    let turned = cond-true (scene.time % plan.cycle == 0) (with_cycle plan.tasks plan.cycle n scene) scene (eq-eqb (scene.time % plan.cycle) 0 rest) in
    subst (IsSameScene after) (sym turned) (with_cycle-made plan n scene scene after is_plan (same_scene-refl scene) own)
