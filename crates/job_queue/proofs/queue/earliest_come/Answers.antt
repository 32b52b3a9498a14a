use Rattle.std.proofs.Common.{sym, ap, ◌∙◌, fold}
use Rattle.std.specs.Option.{option_copied}
use Rattle.slot_core.specs.Runs.Choice.{earlier_of}
use Rattle.job_queue.proofs.Comes.{best_of_come}
use Rattle.job_queue.proofs.queue.earliest_come.Goals as goal

pub returns-then-job-now-clause-job : goal.returns-then-job-now-clause-job
returns-then-job-now-clause-job g c =
    let best = option_copied c.args.best in
    c.earlier_of.ensures ∙ sym (ap (fold earlier_of best) c.loop-behind.invariant.later ∙ best_of_come c.args.now best c.args.come.now c.loop-behind.behind c.from_end-job.result.now c.requires c.loop-behind-test.true c.from_end-job.ensures c.if-job-now.true)
