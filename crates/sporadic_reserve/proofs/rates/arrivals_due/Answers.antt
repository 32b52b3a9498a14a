use Rattle.std.proofs.Common.{sym, arith}
use Rattle.sporadic_reserve.specs.Rates.{task_of}
use Rattle.sporadic_reserve.proofs.Counts.{none_due, some_due}
use Rattle.sporadic_reserve.proofs.rates.arrivals_due.Goals as goal

pub returns-then-x-first-clause-due : goal.returns-then-x-first-clause-due
returns-then-x-first-clause-due c =
    sym (none_due (task_of c.args.rate) c.args.rate.next c.args.r c.args.x (omega arith))

pub returns-clause-due : goal.returns-clause-due
returns-clause-due c =
    let count = some_due (task_of c.args.rate) c.args.rate.next c.args.r c.args.x c.requires.rate.apart (omega arith) in
    let first = c.first_due-first.ensures.due in
    cc (count, first)
