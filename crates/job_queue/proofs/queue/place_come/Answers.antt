use Rattle.job_queue.proofs.ReadyPlaces.{IsReadyPlace-unmarked}
use Rattle.job_queue.proofs.queue.place_come.Goals as goal

pub returns-else-may_have-clause-place : goal.returns-else-may_have-clause-place
returns-else-may_have-clause-place g c =
    IsReadyPlace-unmarked c.args.now c.args.key c.args.come.now.items (c.may_have.ensures c.if-may_have.false)
