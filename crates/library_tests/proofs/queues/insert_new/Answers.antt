use Rattle.std.proofs.Common.{◌≡◌, None, sym, ◌∙◌, rules}
use Rattle.job_queue.proofs.Runs.{count_by-not_found}
use Rattle.library_tests.proofs.queues.insert_new.Goals as goal

pub insert-requires-clause-fresh : goal.insert-requires-clause-fresh
insert-requires-clause-fresh g c =
    let none : c.find.result ≡ None = search rules in
    count_by-not_found c.args.job.key c.args.queue.now.jobs (sym c.find.ensures.job ∙ none)
