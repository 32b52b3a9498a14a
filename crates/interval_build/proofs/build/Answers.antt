-- The jobs of the first cycle are as `spans_until` asks, with the points of that cycle.
use Rattle.std.proofs.Common.{◌≡◌, ℕ, ◌≤◌, List, [], length, sym, ap, ◌∙◌, subst, filter, arith}
use Rattle.std.specs.Prelude.{All, Contains, IfOk}
use Rattle.std.specs.List.{range_with_len}
use Rattle.std.proofs.lemmas.Result.{IfOk-weaker}
use Rattle.slot_core.specs.declared.jobs.Job.{Job}
use Rattle.slot_core.specs.declared.jobs.Span.{Span}
use Rattle.slot_core.specs.declared.tasks.TaskSet.{TaskSet}
use Rattle.slot_core.specs.Sets.Cycles.{cycle_of}
use Rattle.slot_core.specs.Keeping.Plans.{plan_spans}
use Rattle.slot_core.specs.Runs.Points.{is_point, plan_points}
use Rattle.slot_core.specs.Runs.Rising.{AreRising, last_point}
use Rattle.slot_core.specs.Runs.Spans.{spans_between}
use Rattle.slot_facts.proofs.Offline.Jobs.{cycle-positive, cycle-at_most}
use Rattle.spare_capacity.specs.PlanSpans.{ArePlanSpans}
use Rattle.spare_capacity.specs.Recurrence.{last_end}
use Rattle.interval_build.specs.FirstJobs.{AreFirstJobs}
use Rattle.interval_build.proofs.FirstJobFacts.{all_started, all_due, all_at_points, few_points, first_small}
use Rattle.interval_build.proofs.PlanSpans.{first_points, first_points-rise, last_of_first_points, plan_spans-first}
use Rattle.interval_build.proofs.SpansOfCycle.{ArePlanSpans-plan_spans, last_end-plan_spans}
use Rattle.interval_build.proofs.build.Goals as goal

-- what is computed for the cycle of a set
points_are : (set : TaskSet) (jobs : List Job) (cycle : ℕ) (points : List ℕ) → cycle ≡ cycle_of set → points ≡ filter (is_point cycle (plan_points cycle jobs) []) (range_with_len 1 cycle) → points ≡ first_points set jobs
points_are set jobs cycle points whole at =
    at ∙ ap (λ n. filter (is_point n (plan_points n jobs) []) (range_with_len 1 n)) whole

-- and its spans are the plan's
spans_are : (set : TaskSet) (jobs : List Job) (cycle : ℕ) (points : List ℕ) → AreFirstJobs set jobs → cycle ≡ cycle_of set → points ≡ first_points set jobs → spans_between jobs (last_point 0 points) 0 points ≡ plan_spans set cycle
spans_are set jobs cycle points these whole at =
    ap (λ xs. spans_between jobs (last_point 0 xs) 0 xs) at ∙ (ap (λ n. spans_between jobs n 0 (first_points set jobs)) (last_of_first_points set jobs these) ∙ (plan_spans-first set jobs these ∙ ap (plan_spans set) (sym whole)))

pub cycle_points-requires-clause-some : goal.cycle_points-requires-clause-some
cycle_points-requires-clause-some c =
    omega (arith, c.requires.whole, cycle-positive c.requires.tasks c.requires.listed.sound)

pub cycle_points-requires-clause-started : goal.cycle_points-requires-clause-started
cycle_points-requires-clause-started c = all_started c.requires.tasks c.args.jobs.now c.requires.listed

pub cycle_points-requires-clause-due : goal.cycle_points-requires-clause-due
cycle_points-requires-clause-due c =
    let due : ℕ → Type 0 = λ n. All (λ (j : Job). j.dl ≤ n) c.args.jobs.now in
    subst due (sym c.requires.whole) (all_due c.requires.tasks c.args.jobs.now c.requires.listed)

pub spans_until-requires : goal.spans_until-requires
spans_until-requires c =
    let set = c.requires.tasks in
    let jobs = c.args.jobs.now in
    let these = c.requires.listed in
    let points = points_are set jobs c.args.cycle c.deref.result.now c.requires.whole (c.deref.ensures.value ∙ c.in_ok-points.ensures) in
    let due : List ℕ → Type 0 = λ xs. All (λ (j : Job). Contains xs j.dl) jobs in
    record {
      rising = subst (AreRising 0) (sym points) (first_points-rise set jobs);
      near = omega (arith, ap (last_point 0) points, last_of_first_points set jobs these, cycle-at_most set these.sound);
      few = omega (arith, ap length points, few_points set jobs these);
      ordered = these.ordered;
      due = subst due (sym points) (all_at_points set jobs these);
      small = omega (arith, first_small set jobs these);
    }

pub returns-clause-spans : goal.returns-clause-spans
returns-clause-spans c = λ set whole these.
    let jobs = c.args.jobs.now in
    let points = points_are set jobs c.args.cycle c.deref.result.now whole (c.deref.ensures.value ∙ c.in_ok-points.ensures) in
    let spans = spans_are set jobs c.args.cycle c.deref.result.now these whole points in
    subst (λ xs. IfOk c.spans_until.result (λ made. made.items ≡ xs)) spans c.spans_until.ensures

-- the spans that are made are those of the plan
made_spans : (set : TaskSet) (jobs : List Job) (cycle : ℕ) (P : List Span → Type 0) (made : List Span) (points : List ℕ) → AreFirstJobs set jobs → cycle ≡ cycle_of set → points ≡ filter (is_point cycle (plan_points cycle jobs) []) (range_with_len 1 cycle) → P (plan_spans set (cycle_of set)) → made ≡ spans_between jobs (last_point 0 points) 0 points → P made
made_spans set jobs cycle P made points these whole at holds is =
    let spans = spans_are set jobs cycle points these whole (points_are set jobs cycle points whole at) in
    subst P (sym (is ∙ (spans ∙ ap (plan_spans set) whole))) holds

pub returns-clause-proper : goal.returns-clause-proper
returns-clause-proper c =
    let jobs = c.args.jobs.now in
    IfOk-weaker c.spans_until.result _ _ (λ made is. made_spans c.requires.tasks jobs c.args.cycle ArePlanSpans made.items c.deref.result.now c.requires.listed c.requires.whole (c.deref.ensures.value ∙ c.in_ok-points.ensures) (ArePlanSpans-plan_spans c.requires.tasks jobs c.requires.listed) is) c.spans_until.ensures

pub returns-clause-whole : goal.returns-clause-whole
returns-clause-whole c =
    let jobs = c.args.jobs.now in
    let ends : List Span → Type 0 = λ spans. last_end 0 spans ≡ c.args.cycle in
    IfOk-weaker c.spans_until.result _ _ (λ made is. made_spans c.requires.tasks jobs c.args.cycle ends made.items c.deref.result.now c.requires.listed c.requires.whole (c.deref.ensures.value ∙ c.in_ok-points.ensures) (last_end-plan_spans c.requires.tasks jobs c.requires.listed ∙ sym c.requires.whole) is) c.spans_until.ensures
