use Rattle.std.proofs.Common.{arith}
use Rattle.supply_find.proofs.Tables.{count-fits, split-at}
use Rattle.supply_find.proofs.supply.count_from.Goals as goal

pub raise-requires : goal.raise-requires
raise-requires c =
    record { small = count-fits c.args.jobs.now c.loop-left.due.items c.loop-left.left _ _ (omega (arith, c.loop-left.invariant.within, c.requires.front)) c.requires.few c.loop-left.invariant.counted }

pub returns-else-jobs-left-clause-split : goal.returns-else-jobs-left-clause-split
returns-else-jobs-left-clause-split c =
    split-at c.args.jobs.now c.loop-left.left c.args.from c.from.result _ c.requires.ordered c.loop-left-test.true (omega (arith, c.loop-left.invariant.within, c.requires.front)) c.from.ensures c.if-jobs-left.false c.loop-left.invariant.later
