use Rattle.std.proofs.Common.{sym, ap, ◌∙◌}
use Rattle.std.specs.Prelude.{is_some}
use Rattle.job_queue.proofs.Runs.{count_by-found}
use Rattle.library_tests.proofs.queues.run_present.Goals as goal

pub ran-requires : goal.ran-requires
ran-requires g c =
    let found = ap is_some (sym c.find.ensures.job) ∙ sym c.is_some.ensures ∙ c.if-is_some.true in
    record { present = count_by-found c.args.key c.args.queue.now.jobs found }
