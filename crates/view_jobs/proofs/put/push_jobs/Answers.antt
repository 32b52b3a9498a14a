-- The row of one more job is appended.
use Rattle.std.proofs.Common.{◌++◌, List, Some, take, ap, ◌∙◌}
use Rattle.view_jobs.specs.declared.jobs.Listed.{Listed}
use Rattle.view_jobs.specs.Tallies.{tally_in}
use Rattle.view_jobs.proofs.JobTexts.{job-next, jobs_rows}
use Rattle.view_jobs.proofs.put.push_jobs.Goals as goal

pub loop-job-preserved : goal.loop-job-preserved
loop-job-preserved c text is =
    let jobs : List Listed = c.args.jobs.now in
    let i = c.loop-job.job-index in
    let told = tally_in c.args.tallies.now in
    let pushed = c.in_ok-push_job.ensures (text ++ jobs_rows c.args.tasks.now told (take i jobs)) (c.loop-job.invariant text is) in
    pushed ∙ ap (λ t. Some t) (job-next c.args.tasks.now told text jobs i _ c.tally_in-tally.result c.loop-job-test.true c.tally_in-tally.ensures)
