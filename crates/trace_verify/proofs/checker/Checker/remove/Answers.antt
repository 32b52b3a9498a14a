use Rattle.std.proofs.Common.{not, sym, subst}
use Rattle.slot_core.specs.declared.jobs.Job.{Job}
use Rattle.slot_core.specs.Keeping.Kept.{AreApart}
use Rattle.slot_core.specs.Keeping.Plans.{AreInDeadlineOrder}
use Rattle.slot_core.specs.Offline.Keys.{same_key}
use Rattle.trace_verify.specs.Checked.{Checked}
use Rattle.trace_verify.proofs.OrderEdits.{AreInDeadlineOrder-filter}
use Rattle.trace_verify.proofs.checker.Checker.remove.Goals as goal

pub remove-requires : goal.remove-requires
remove-requires c =
    subst (λ (k : Checked). AreApart k.scene.jobs) (sym c.self.view_is) c.requires

pub invariant_of-self : goal.invariant_of-self
invariant_of-self c =
    subst AreInDeadlineOrder (sym c.remove.ensures) (AreInDeadlineOrder-filter (λ (j : Job). not (same_key j.key c.args.key)) c.self.inside.jobs c.self.invariant)
