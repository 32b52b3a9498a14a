use Rattle.margin_find.proofs.Joined.{AreJoining-appended}
use Rattle.margin_find.proofs.own.joined.Goals as goal

pub loop-job-preserved : goal.loop-job-preserved
loop-job-preserved c =
    AreJoining-appended c.args.kept.now c.args.own.now c.loop-job.jobs.items c.loop-job.rest.now _ _ _ _ c.loop-job.job-index c.count_by.result _ c.loop-job.invariant c.loop-job-test.true c.count_by.ensures.count c.split_at.ensures.front c.split_at.ensures.back c.in_ok-extend_from_slice.ensures.items c.in_ok-push.ensures.items
