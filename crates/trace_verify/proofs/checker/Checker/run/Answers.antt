use Rattle.std.proofs.Common.{sym, subst}
use Rattle.slot_core.specs.Keeping.Kept.{AreApart}
use Rattle.slot_core.specs.Keeping.Plans.{AreInDeadlineOrder}
use Rattle.trace_verify.specs.Checked.{Checked}
use Rattle.trace_verify.proofs.OrderEdits.{AreInDeadlineOrder-after_run}
use Rattle.trace_verify.proofs.checker.Checker.run.Goals as goal

pub run-requires-clause-apart : goal.run-requires-clause-apart
run-requires-clause-apart c =
    subst (λ (k : Checked). AreApart k.scene.jobs) (sym c.self.view_is) c.requires.apart

pub invariant_of-self : goal.invariant_of-self
invariant_of-self c =
    subst AreInDeadlineOrder (sym c.run.ensures) (AreInDeadlineOrder-after_run c.in-Key.key c.self.inside.jobs c.self.invariant)
