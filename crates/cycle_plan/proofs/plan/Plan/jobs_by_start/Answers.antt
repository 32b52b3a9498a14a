use Rattle.std.proofs.Common.{sym, subst}
use Rattle.std.specs.Prelude.{All}
use Rattle.std.proofs.lemmas.List.Sorted.{All-permutation}
use Rattle.slot_core.specs.Keeping.Plans.{PlanParts}
use Rattle.cycle_plan.specs.NearJobs.{IsNear}
use Rattle.cycle_plan.specs.StartOrder.{StartsRise}
use Rattle.cycle_plan.proofs.NearJobFacts.{all_near}
use Rattle.interval_build.proofs.FirstJobFacts.{AreFirstJobs-from_plan}
use Rattle.cycle_plan.proofs.StartsInOrder.{StartsRise-sorted}
use Rattle.cycle_plan.proofs.plan.Plan.jobs_by_start.Goals as goal

pub returns-clause-starts : goal.returns-clause-starts
returns-clause-starts c =
    subst StartsRise (sym c.as_slice.ensures.value) (StartsRise-sorted c.self.inside.by_start.items c.self.invariant.ordered)

-- the order of the jobs does not matter
pub returns-clause-near : goal.returns-clause-near
returns-clause-near c =
    let plan : PlanParts = record { tasks = c.self.inside.tasks; cycle = c.self.inside.cycle; jobs = c.self.inside.jobs.items; spans = c.self.inside.spans.items } in
    let near = all_near plan.tasks plan.jobs (AreFirstJobs-from_plan plan c.self.invariant.is_plan) in
    subst (All IsNear) (sym c.as_slice.ensures.value) (All-permutation IsNear plan.jobs c.self.inside.by_start.items c.self.invariant.listed near)
