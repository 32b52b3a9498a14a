use Rattle.std.proofs.lemmas.Bool.{ltb-true}
use Rattle.job_queue.proofs.ReadyJobs.{ready-all_later}
use Rattle.job_queue.proofs.queue.start_later.Goals as goal

pub returns-in-Some : goal.returns-in-Some
returns-in-Some c = λ later.
    ready-all_later c.args.now c.args.listed.now.items c.in-Some.next.now c.requires c.in-Some.ensures.lookup (ltb-true c.args.now c.in-Some.next.now.est later)
