-- The product is small.
use Rattle.std.proofs.Common.{arith}
use Rattle.supply_find.proofs.SpareTables.{apart-from, arrivals-small}
use Rattle.supply_find.proofs.spare.arrivals_of.Goals as goal

pub overflow_sub-result : goal.overflow_sub-result
overflow_sub-result c = (apart-from c.args.task.now c.requires.in_range).some

pub overflow_add-result : goal.overflow_add-result
overflow_add-result c =
    omega (arith, (apart-from c.args.task.now c.requires.in_range).apart, c.requires.slots)

pub overflow_mul-result : goal.overflow_mul-result
overflow_mul-result c =
    omega (arith, arrivals-small c.args.task.now c.args.slots (apart-from c.args.task.now c.requires.in_range) c.requires.slots)

pub nonzero_div-result : goal.nonzero_div-result
nonzero_div-result c =
    omega (arith, (apart-from c.args.task.now c.requires.in_range).some)

pub returns-clause-small : goal.returns-clause-small
returns-clause-small c =
    arrivals-small c.args.task.now c.args.slots (apart-from c.args.task.now c.requires.in_range) c.requires.slots
