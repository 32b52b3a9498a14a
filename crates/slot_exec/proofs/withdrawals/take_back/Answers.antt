use Rattle.std.proofs.Common.{sym}
use Rattle.scene_steps.proofs.Ends.Withdrawals.{AreDueInSpans-withdrawn}
use Rattle.slot_exec.proofs.withdrawals.take_back.Goals as goal

pub give_back-requires : goal.give_back-requires
give_back-requires g c =
    AreDueInSpans-withdrawn c.args.firm c.args.queue.now.jobs (g.T.SpareTable.spans c.args.table.now) c.in-Some.job c.requires.due (sym c.in-Some.ensures.job)
