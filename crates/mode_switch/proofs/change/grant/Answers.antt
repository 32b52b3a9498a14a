-- Before the first slot the parts are kept.
use Rattle.std.proofs.Common.{refl, arith}
use Rattle.mode_switch.proofs.ChangeSteps.{KeepsChange-first}
use Rattle.mode_switch.proofs.change.grant.Goals as goal

pub invariant_of-result : goal.invariant_of-result
invariant_of-result c =
    let (row, carried, can) = c.requires.served in
    KeepsChange-first _ row c.in_ok-own.own refl c.in_ok-own.ensures.plan carried c.requires.ordered can (omega arith) c.in_ok-own.ensures.jobs c.in_ok-own.ensures.capacity
