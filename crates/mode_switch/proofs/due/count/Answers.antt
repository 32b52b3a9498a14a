-- The number at that place is raised.
use Rattle.std.proofs.Common.{arith}
use Rattle.std.proofs.lemmas.List.{get_or_default}
use Rattle.mode_switch.proofs.DueSums.{sum_to-set}
use Rattle.mode_switch.proofs.due.count.Goals as goal

pub returns-then-place-len-clause-sums : goal.returns-then-place-len-clause-sums
returns-then-place-len-clause-sums c = λ x short.
    let due = c.args.due.now.items in
    let read = get_or_default due c.args.time c.index_mut.result.now 0 (omega arith) in
    sum_to-set due c.args.time _ c.args.slots x (omega arith) (omega (arith, read, c.index_mut.ensures.value, c.from.ensures)) short
