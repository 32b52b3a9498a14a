-- The spans of a plan are plan spans, and fill its cycle.
use Rattle.std.proofs.Common.{◌≡◌, subst}
use Rattle.slot_core.specs.Keeping.Plans.{PlanParts}
use Rattle.spare_capacity.specs.PlanSpans.{ArePlanSpans}
use Rattle.spare_capacity.specs.Recurrence.{last_end}
use Rattle.interval_build.proofs.SpansOfCycle.{ArePlanSpans-from_plan}
use Rattle.cycle_plan.proofs.plan.Plan.spans.Goals as goal

pub returns-clause-proper : goal.returns-clause-proper
returns-clause-proper c =
    let plan : PlanParts = record { tasks = c.self.inside.tasks; cycle = c.self.inside.cycle; jobs = c.self.inside.jobs.items; spans = c.self.inside.spans.items } in
    subst (λ (p : PlanParts). ArePlanSpans p.spans) c.self.view_is (ArePlanSpans-from_plan plan c.self.invariant.is_plan).0

pub returns-clause-whole : goal.returns-clause-whole
returns-clause-whole c =
    let plan : PlanParts = record { tasks = c.self.inside.tasks; cycle = c.self.inside.cycle; jobs = c.self.inside.jobs.items; spans = c.self.inside.spans.items } in
    subst (λ (p : PlanParts). last_end 0 p.spans ≡ p.cycle) c.self.view_is (ArePlanSpans-from_plan plan c.self.invariant.is_plan).1
