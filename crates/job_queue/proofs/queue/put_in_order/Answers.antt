use Rattle.std.proofs.Common.{sym, subst}
use Rattle.job_queue.specs.Queues.{IsEarliestLast}
use Rattle.job_queue.proofs.Comes.{IsEarliestLast-insert}
use Rattle.job_queue.proofs.queue.put_in_order.Goals as goal

pub returns-clause-order : goal.returns-clause-order
returns-clause-order g c =
    let jobs = c.args.come.now.items in
    let place = c.place_in_order-place.result in
    let within = rw c.jobs.ensures at c.place_in_order-place.ensures.within in
    let behind = rw c.jobs.ensures at c.place_in_order-place.ensures.behind in
    let before = rw c.jobs.ensures at c.place_in_order-place.ensures.before in
    subst IsEarliestLast (sym c.insert.ensures.items) (IsEarliestLast-insert jobs place c.args.job.now within c.requires.order behind before)
