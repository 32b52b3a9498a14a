use Rattle.std.proofs.Common.{length, ap, arith}
use Rattle.trace_verify.specs.Checked.{Checked}
use Rattle.trace_verify.proofs.CheckerSlots.{points-few}
use Rattle.trace_verify.proofs.checker.Checker.shown.Goals as goal

pub shown-requires-clause-few : goal.shown-requires-clause-few
shown-requires-clause-few c =
    let scene = c.args.self.now.scene in
    omega (arith, ap length c.items.ensures, ap (λ (k : Checked). length k.scene.points) c.self.view_is, points-few c.args.cycle scene.time scene.points c.requires.cycle c.requires.checked.rising c.requires.checked.last)
