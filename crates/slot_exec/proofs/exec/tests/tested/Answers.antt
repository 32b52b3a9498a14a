use Rattle.std.proofs.Common.{arith}
use Rattle.slot_exec.proofs.FirmOffers.{offer-first, offer-near, offer-reach}
use Rattle.slot_exec.proofs.exec.tests.tested.Goals as goal

pub test-requires-clause-first : goal.test-requires-clause-first
test-requires-clause-first g c = offer-first c.exec.inside.reserve c.exec.invariant

pub test-requires-clause-within : goal.test-requires-clause-within
test-requires-clause-within g c =
    let reach = offer-reach c.exec.inside.reserve c.exec.invariant c.cycle-cycle.result c.cycle-cycle.ensures.cycle in
    omega (arith, reach, c.time.ensures)

pub test-requires-clause-near : goal.test-requires-clause-near
test-requires-clause-near g c = offer-near c.exec.inside.reserve c.exec.invariant
