use Rattle.std.proofs.Common.{ap, sym, ◌∙◌}
use Rattle.std.specs.Option.{option_copied}
use Rattle.trace_verify.proofs.JobEdits.{first_late-empty, first_late-none, first_late-some}
use Rattle.trace_verify.proofs.jobs.first_late.Goals as goal

pub returns-in_err-job : goal.returns-in_err-job
returns-in_err-job c =
    c.from_residual.ensures ∙ first_late-empty c.args.time c.args.jobs.now (sym c.first.ensures.value ∙ ap option_copied c.in_err-job.was)

pub returns-then-job-time : goal.returns-then-job-time
returns-then-job-time c =
    first_late-some c.args.time c.args.jobs.now c.in_ok-job.job.now c.requires (sym c.first.ensures.value ∙ ap option_copied c.in_ok-job.was) c.if-job-time.true

pub returns-else-job-time : goal.returns-else-job-time
returns-else-job-time c =
    first_late-none c.args.time c.args.jobs.now c.in_ok-job.job.now c.requires (sym c.first.ensures.value ∙ ap option_copied c.in_ok-job.was) c.if-job-time.false
