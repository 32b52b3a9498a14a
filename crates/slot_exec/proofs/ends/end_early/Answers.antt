use Rattle.std.proofs.Common.{sym, ◌∙◌}
use Rattle.scene_steps.proofs.Ends.EndedSpans.{AreDueInSpans-ending}
use Rattle.slot_exec.proofs.ends.end_early.Goals as goal

pub give_back-requires : goal.give_back-requires
give_back-requires g c =
    AreDueInSpans-ending c.time.result c.args.key c.args.queue.now.jobs (g.T.SpareTable.spans c.args.table.now) c.in-Some.job c.requires (sym c.started_job.ensures.job ∙ c.in-Some.is)
