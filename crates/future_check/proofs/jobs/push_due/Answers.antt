-- One more job is appended where it is due.
use Rattle.future_check.proofs.ShownJobs.{due-kept, due-pushed}
use Rattle.future_check.proofs.jobs.push_due.Goals as goal
use Rattle.future_check.proofs.jobs.push_due.Goals.{then-job-until+in_ok-push, else-job-until}

pub loop-place-preserved : goal.loop-place-preserved
loop-place-preserved g c =
    let l = c.loop-place in
    let jobs = c.args.exec.now.scene.jobs in
    elim c.if-job-until.branch [
      | then-job-until+in_ok-push w ↦ rw w.jobs-is (due-pushed c.args.until l.place jobs c.job-job.result c.args.jobs.now.items l.jobs.items w.push.new.self.items c.job-job.ensures.job w.if-job-until.true l.invariant w.in_ok-push.ensures.items)
      | else-job-until w ↦ rw w.jobs-is (due-kept c.args.until l.place jobs c.job-job.result c.args.jobs.now.items l.jobs.items c.job-job.ensures.job w.if-job-until.false l.invariant)
    ]
