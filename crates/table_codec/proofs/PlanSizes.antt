-- The numbers of a plan have room in the fields of any layout.
use Rattle.std.proofs.lemmas.List.Sums.{sum_by-cons}
use Rattle.std.proofs.Common.{◌≡◌, ℕ, ℤ, pos, neg_ℤ, ◌≤ℤ◌, ◌<ℤ◌, ◌^◌, ◌<◌, ◌≤◌, FitsSigned, List, [], ◌∷◌, length, ap, sym, ◌∙◌, subst, arith, rules}
use Rattle.std.specs.Prelude.{All, Contains, sum_by}
use Rattle.std.specs.List.{AllByRecursion}
use Rattle.std.proofs.lemmas.Int.{ints}
use Rattle.std.proofs.lemmas.List.Elements.{All-from_recursion}
use Rattle.std.proofs.lemmas.List.Sorted.{IsPermutation-sym, Contains-permutation}
use Rattle.std.proofs.lemmas.Option.{slice_get_within}
use Rattle.slot_core.specs.declared.TheConstants.{SLOT_LIMIT}
use Rattle.slot_core.specs.declared.jobs.Job.{Job}
use Rattle.slot_core.specs.declared.jobs.Span.{Span}
use Rattle.slot_core.specs.declared.tasks.TaskSet.{TaskSet}
use Rattle.slot_core.specs.Sets.Cycles.{cycle_of}
use Rattle.slot_core.specs.Offline.OfflineJobs.{cycle_jobs}
use Rattle.slot_core.specs.Keeping.Plans.{PlanParts, plan_spans, IsPlan}
use Rattle.slot_core.specs.Runs.Rising.{AreRising, last_point}
use Rattle.slot_core.specs.Runs.Spans.{slack, span_at, spans_between}
use Rattle.slot_facts.proofs.Lists.Members.{Has, Contains-from_Has, AllByRecursion-from_Has}
use Rattle.slot_facts.proofs.Sets.Ranges.{SetRanges-from_sound, GraphRanges-from_test}
use Rattle.slot_facts.proofs.Offline.Jobs.{offline_from_cycle, cycle-at_most, graph_in_range-from_sound}
use Rattle.slot_facts.proofs.Offline.LaterJobs.{FitsInCycle-from_first}
use Rattle.slot_facts.proofs.Plans.FirstSpans.{length-spans}
use Rattle.interval_build.specs.FirstJobs.{AreFirstJobs}
use Rattle.interval_build.proofs.Due.{work_between-le}
use Rattle.interval_build.proofs.Filled.{last_point-above}
use Rattle.interval_build.proofs.FirstJobFacts.{AreFirstJobs-from_plan, few_points, first_small}
use Rattle.interval_build.proofs.Least.{IsLeast-least}
use Rattle.interval_build.proofs.PlanSpans.{first_points, first_points-rise, last_of_first_points, plan_spans-first}
use Rattle.cycle_plan.specs.NearJobs.{instance_of}
use Rattle.cycle_plan.proofs.NearJobFacts.{IsNear-from_first}
use Rattle.table_codec.specs.declared.layout.Layout.{Layout}
use Rattle.table_codec.specs.declared.layout.SpareWidth.{SpareWidth}
use Rattle.table_codec.specs.declared.layout.SpareWidth.TheVariants.{Four as FourSpare, Eight}
use Rattle.table_codec.specs.Grammar.{spare_width}
use Rattle.table_codec.specs.Sizes.{FitsKey, FitsJob, FitsSpan}
use Rattle.table_codec.proofs.FieldLaws.{Fits-small}
use Rattle.table_codec.proofs.StoredLaws.{IsStoredJob}

-- the jobs that have slots left are no more than those slots
length-le-left : (jobs : List Job) → AllByRecursion (λ (j : Job). 1 ≤ j.left) jobs → length jobs ≤ sum_by (λ (j : Job). j.left) jobs
length-le-left [] some = omega arith
length-le-left (job ∷ jobs) some = omega (arith, some.0, length-le-left jobs some.1, sum_by-cons (λ (j : Job). j.left) job jobs)

-- a job of the list is one of the first cycle
in_first : (set : TaskSet) (jobs : List Job) (job : Job) → AreFirstJobs set jobs → Has jobs job → Contains (cycle_jobs set (cycle_of set) 0) job
in_first set jobs job these listed =
    let first = cycle_jobs set (cycle_of set) 0 in
    Contains-permutation jobs first job (IsPermutation-sym first jobs these.listed) (Contains-from_Has jobs job listed)

left-some : (set : TaskSet) (jobs : List Job) (job : Job) → AreFirstJobs set jobs → Has jobs job → 1 ≤ job.left
left-some set jobs job these listed =
    let fits = FitsInCycle-from_first set job these.sound these.feasible (in_first set jobs job these listed) in
    omega (arith, fits.some, fits.whole)

-- a plan has few jobs
pub few_jobs : (plan : PlanParts) → IsPlan plan → length plan.jobs ≤ SLOT_LIMIT
few_jobs plan is_plan =
    let these = AreFirstJobs-from_plan plan is_plan in
    let some = AllByRecursion-from_Has (λ (j : Job). 1 ≤ j.left) plan.jobs (λ job listed. left-some plan.tasks plan.jobs job these listed) in
    omega (arith, length-le-left plan.jobs some, first_small plan.tasks plan.jobs these)

-- the numbers of a job of the first cycle have room
FitsJob-from_first : (layout : Layout) (set : TaskSet) (jobs : List Job) (job : Job) → AreFirstJobs set jobs → Has jobs job → FitsJob layout job
FitsJob-from_first layout set jobs job these listed =
    let at = in_first set jobs job these listed in
    let fits = FitsInCycle-from_first set job these.sound these.feasible at in
    let near = IsNear-from_first set jobs job these listed in
    let o = offline_from_cycle set (cycle_of set) 0 job at in
    let graph = graph_in_range-from_sound set o.g o.graph these.sound o.instance_of.graph_at in
    let few_graphs = (SetRanges-from_sound set these.sound).count in
    let few_tasks = (GraphRanges-from_test o.graph graph).count in
    let g : o.g < 2 ^ 16 = omega (arith, slice_get_within set.graphs o.g o.graph o.instance_of.graph_at, few_graphs) in
    let t : o.t < 2 ^ 16 = omega (arith, slice_get_within o.graph.tasks o.t o.task o.instance_of.task_at, few_tasks) in
    let instance = ap (λ (j : Job). instance_of j.key) o.instance_of.derived in
    let k : o.k < 2 ^ 16 = omega (arith, instance, near.2) in
    let most = cycle-at_most set these.sound in
    record {
      key = subst (λ (j : Job). FitsKey layout j.key) (sym o.instance_of.derived) (g, t, Fits-small layout o.k k);
      est = Fits-small layout job.est (omega (arith, near.0));
      dl = Fits-small layout job.dl (omega (arith, near.1));
      declared = Fits-small layout job.declared (omega (arith, fits.room, fits.within, most));
    }

-- so do those of each job of a plan
pub all_fitting_jobs : (layout : Layout) (plan : PlanParts) → IsPlan plan → All (FitsJob layout) plan.jobs
all_fitting_jobs layout plan is_plan =
    All-from_recursion (FitsJob layout) plan.jobs (AllByRecursion-from_Has (FitsJob layout) plan.jobs (λ job listed. FitsJob-from_first layout plan.tasks plan.jobs job (AreFirstJobs-from_plan plan is_plan) listed))

-- it is stored as it is, with all its slots left
pub all_stored_jobs : (layout : Layout) (plan : PlanParts) → IsPlan plan → AllByRecursion (IsStoredJob layout) plan.jobs
all_stored_jobs layout plan is_plan =
    let set = plan.tasks in
    let these = AreFirstJobs-from_plan plan is_plan in
    AllByRecursion-from_Has (IsStoredJob layout) plan.jobs (λ job listed. record {
      fits = FitsJob-from_first layout set plan.jobs job these listed;
      fresh = (FitsInCycle-from_first set job these.sound these.feasible (in_first set plan.jobs job these listed)).whole;
    })

-- a small capacity has room
fits-from_bounds : (w : SpareWidth) (z : ℤ) → neg_ℤ (pos (2 ^ 31)) ≤ℤ z → z <ℤ pos (2 ^ 31) → FitsSigned (spare_width w) z
fits-from_bounds FourSpare z low high = search rules
fits-from_bounds Eight z low high =
    let lower : neg_ℤ (pos (2 ^ 63)) ≤ℤ z = omega (arith, ints, low) in
    let higher : z <ℤ pos (2 ^ 63) = omega (arith, ints, high) in
    search rules

-- the numbers of a span of a short cycle with little work have room: its capacity is the slack up
-- to some time
FitsSpan-at : (layout : Layout) (jobs : List Job) (last s e : ℕ) → s ≤ e → e ≤ last → last ≤ SLOT_LIMIT → sum_by (λ (j : Job). j.left) jobs ≤ SLOT_LIMIT → FitsSpan layout (span_at jobs last s e)
FitsSpan-at layout jobs last s e rise within most small =
    let least = IsLeast-least (slack jobs s) e last within in
    let x = least.reached.0 in
    record {
      start = Fits-small layout s (omega arith);
      end = Fits-small layout e (omega arith);
      work = Fits-small layout (span_at jobs last s e).work (omega (arith, work_between-le jobs s e));
      spare = fits-from_bounds layout.spare (span_at jobs last s e).spare (omega (arith, ints, least.reached.3, work_between-le jobs s x)) (omega (arith, ints, least.bound e (omega arith) within));
    }

-- so have those of the spans between rising points
fitting_spans : (layout : Layout) (jobs : List Job) (last s : ℕ) (points : List ℕ) → AreRising s points → last_point s points ≤ last → last ≤ SLOT_LIMIT → sum_by (λ (j : Job). j.left) jobs ≤ SLOT_LIMIT → AllByRecursion (FitsSpan layout) (spans_between jobs last s points)
fitting_spans layout jobs last s [] rising within most small = tt
fitting_spans layout jobs last s (e ∷ points) rising within most small =
    let end : e ≤ last = omega (arith, last_point-above e points rising.1) in (
      FitsSpan-at layout jobs last s e (omega (arith, rising.0)) end most small,
      fitting_spans layout jobs last e points rising.1 within most small,
    )

-- the spans of a plan are those between its points
plan_spans-are : (plan : PlanParts) → IsPlan plan → plan.spans ≡ spans_between plan.jobs (cycle_of plan.tasks) 0 (first_points plan.tasks plan.jobs)
plan_spans-are plan is_plan =
    is_plan.spans ∙ ap (plan_spans plan.tasks) is_plan.cycle ∙ sym (plan_spans-first plan.tasks plan.jobs (AreFirstJobs-from_plan plan is_plan))

-- a plan has few spans, and their numbers have room
pub few_spans : (plan : PlanParts) → IsPlan plan → length plan.spans ≤ SLOT_LIMIT
few_spans plan is_plan =
    let points = first_points plan.tasks plan.jobs in
    omega (arith, ap (λ (ss : List Span). length ss) (plan_spans-are plan is_plan), length-spans plan.jobs (cycle_of plan.tasks) 0 points, few_points plan.tasks plan.jobs (AreFirstJobs-from_plan plan is_plan))

pub all_fitting_spans : (layout : Layout) (plan : PlanParts) → IsPlan plan → All (FitsSpan layout) plan.spans
all_fitting_spans layout plan is_plan =
    let set = plan.tasks in
    let these = AreFirstJobs-from_plan plan is_plan in
    let points = first_points set plan.jobs in
    let each = fitting_spans layout plan.jobs (cycle_of set) 0 points (first_points-rise set plan.jobs) (omega (arith, last_of_first_points set plan.jobs these)) (cycle-at_most set these.sound) (first_small set plan.jobs these) in
    subst (All (FitsSpan layout)) (sym (plan_spans-are plan is_plan)) (All-from_recursion (FitsSpan layout) (spans_between plan.jobs (cycle_of set) 0 points) each)
