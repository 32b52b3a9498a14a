use Rattle.std.proofs.Common.{arith}
use Rattle.std.proofs.Math.Nat.{mul-le-mul}
use Rattle.slot_core.specs.declared.TheConstants.{SLOT_LIMIT}
use Rattle.slot_facts.proofs.Demand.Arrivals.{arrivals_due-le}
use Rattle.slot_facts.proofs.Sets.Ranges.{SporadicRanges-from_test, bounds}
use Rattle.plan_answers.proofs.load.sporadic_load.Goals as goal

pub overflow_mul-result : goal.overflow_mul-result
overflow_mul-result c =
    let s = c.args.sporadic.now in
    let wcet = bounds 1 SLOT_LIMIT s.wcet (SporadicRanges-from_test s c.requires.in_range).wcet in
    rw (c.from.ensures, c.arrivals_by.ensures) (omega (arith, mul-le-mul wcet.1 (arrivals_due-le s 0 c.args.cycle), c.requires.cycle))
