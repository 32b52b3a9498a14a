use Rattle.std.proofs.Common.{fold, sym, ap, ◌∙◌}
use Rattle.std.specs.Option.{option_copied}
use Rattle.job_queue.specs.Starts.{sooner}
use Rattle.job_queue.proofs.Starts.{within-come}
use Rattle.job_queue.proofs.queue.first_come_start.Goals as goal

pub returns-then-not-goes_before-clause-start : goal.returns-then-not-goes_before-clause-start
returns-then-not-goes_before-clause-start g c =
    let none = within-come c.args.now c.args.until (option_copied c.args.other) c.args.come.now c.loop-behind.behind c.from_end-job.result.now c.requires c.loop-behind-test.true c.from_end-job.ensures (sym c.goes_before.ensures ∙ c.if-not-goes_before.true) in
    sym (ap (fold sooner c.loop-behind.first) none) ∙ c.loop-behind.invariant.passed
