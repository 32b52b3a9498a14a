-- The second executive starts with this plan.
use Rattle.std.proofs.Common.{subst}
use Rattle.slot_core.specs.Keeping.Plans.{PlanParts}
use Rattle.plan_change.specs.Carrying.{offers_from}
use Rattle.plan_change.specs.Changed.{CanStartWith}
use Rattle.plan_change.specs.SoftWork.{IsMovedWithSoft}
use Rattle.plan_change.proofs.change.change_plan_with_soft.Goals as goal

pub returns-clause-refused : goal.returns-clause-refused
returns-clause-refused g c = λ r is.
    subst (λ (p : PlanParts). ¬ (CanStartWith p.tasks (offers_from c.args.keep c.args.from.now p.cycle c.args.first))) c.in_ok-into.ensures.plan c.in-Err.ensures.refused

pub returns-in-Ok-clause-moved : goal.returns-in-Ok-clause-moved
returns-in-Ok-clause-moved g c =
    subst (λ (p : PlanParts). IsMovedWithSoft c.args.keep c.args.from.now p.cycle p.tasks.soft_limit c.in-Ok.moved) c.in_ok-into.ensures.plan c.in-Ok.ensures.moved
