-- What is written of a plan is written whole.
use Rattle.plan_reports.specs.Texts.{plan_text}
use Rattle.command_line.proofs.PartWritings.{parts-of_whole}
use Rattle.slot_cli.proofs.work.write.Goals as goal

pub returns-in-OfPlan : goal.returns-in-OfPlan
returns-in-OfPlan g c =
    rw c.in-OfPlan.is (parts-of_whole _ _ _ (plan_text c.in-OfPlan.output c.args.slots c.args.plan c.args.arrivals.now) _ _ _ c.write_plan.ensures)

pub returns-in-OfRun : goal.returns-in-OfRun
returns-in-OfRun g c = rw c.in-OfRun.is c.write_run.ensures

pub returns-in-Change : goal.returns-in-Change
returns-in-Change g c = rw c.in-Change.is c.change_plan.ensures
