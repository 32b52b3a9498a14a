use Rattle.std.proofs.Common.{sym, subst, ◌∙◌}
use Rattle.std.specs.Prelude.{IsPermutation}
use Rattle.slot_core.specs.Feasibility.Feasible.{counterexample}
use Rattle.cycle_plan.proofs.PlanFacts.{AreFirstJobs-from_fits, listed-in_order, none-from_fits}
use Rattle.cycle_plan.proofs.plan.feasible_jobs.Goals as goal

pub verdict-requires-clause-listed : goal.verdict-requires-clause-listed
verdict-requires-clause-listed c =
    listed-in_order c.args.tasks.now c.args.cycle c.in_ok-jobs.jobs.items c.deref.result.now c.in_ok-by_start.by_start.items c.deref-2.result.now c.requires.cycle c.in_ok-jobs.ensures.listed c.deref.ensures.value c.in_ok-by_start.ensures.listed c.deref-2.ensures.value

pub returns-in-Fits-clause-by_start : goal.returns-in-Fits-clause-by_start
returns-in-Fits-clause-by_start c =
    subst (λ xs. IsPermutation xs c.in_ok-by_start.by_start.items) c.deref.ensures.value c.in_ok-by_start.ensures.listed

pub returns-in-Fits-clause-listed : goal.returns-in-Fits-clause-listed
returns-in-Fits-clause-listed c =
    AreFirstJobs-from_fits c.args.tasks.now c.in_ok-jobs.jobs.items c.args.cycle c.in_ok-verdict.field-0 c.requires.sound c.requires.cycle c.in_ok-verdict.ensures c.in-Fits.is c.in_ok-jobs.ensures.listed c.in_ok-jobs.ensures.ordered

pub returns-in-Fits-clause-none : goal.returns-in-Fits-clause-none
returns-in-Fits-clause-none c =
    none-from_fits (counterexample c.args.tasks.now c.args.cycle) (sym c.in-Fits.is ∙ c.in_ok-verdict.ensures)
