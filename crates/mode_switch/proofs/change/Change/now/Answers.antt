-- The invariant says it of the parts that are seen.
use Rattle.std.proofs.Common.{ℕ, ◌+◌, subst}
use Rattle.slot_core.specs.Keeping.Plans.{AreInDeadlineOrder}
use Rattle.change_laws.specs.Carried.{AreCarried, jobs_after}
use Rattle.change_laws.specs.Grants.{CanChange}
use Rattle.mode_switch.specs.Keeping.{history_of_change}
use Rattle.mode_switch.specs.Parts.{ChangeParts}
use Rattle.mode_switch.specs.Runs.{IsServedAfter}
use Rattle.mode_switch.proofs.ChangeFacts.{served}
use Rattle.mode_switch.proofs.change.Change.now.Goals as goal

pub returns-clause-carried : goal.returns-clause-carried
returns-clause-carried c =
    subst
    (λ (p : ChangeParts). (row : ℕ) × AreCarried p.at row p.carried × CanChange p.plan.tasks p.at p.carried (row + 1))
    c.self.view_is
    (c.self.invariant.row, c.self.invariant.carried, c.self.invariant.served)

pub returns-clause-ordered : goal.returns-clause-ordered
returns-clause-ordered c =
    subst (λ (p : ChangeParts). AreInDeadlineOrder p.carried) c.self.view_is c.self.invariant.ordered

pub returns-clause-served : goal.returns-clause-served
returns-clause-served c =
    subst
    (λ (p : ChangeParts). (cycles : ℕ) → IsServedAfter p.plan.tasks (jobs_after p.plan.tasks p.at p.carried cycles) (history_of_change p))
    c.self.view_is
    (λ cycles. served _ _ _ _ c.self.invariant cycles c.self.inside.passed)
