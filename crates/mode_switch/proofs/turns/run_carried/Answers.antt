-- The first of those that remain has run a slot.
use Rattle.mode_switch.proofs.CarriedLeft.{ended-at, left-at, ran-at}
use Rattle.mode_switch.proofs.turns.run_carried.Goals as goal

pub overflow_sub-left : goal.overflow_sub-left
overflow_sub-left c =
    left-at 0 c.args.carried.now c.args.ended c.args.ran _ c.requires.some c.requires.left

pub returns-then-left-gt1 : goal.returns-then-left-gt1
returns-then-left-gt1 c = ran-at c.args.carried.now c.args.ended c.args.ran _ c.requires.some c.if-left-gt1.true

pub returns-else-left-gt1 : goal.returns-else-left-gt1
returns-else-left-gt1 c = ended-at c.args.carried.now c.args.ended c.args.ran _ c.requires.some c.if-left-gt1.false
