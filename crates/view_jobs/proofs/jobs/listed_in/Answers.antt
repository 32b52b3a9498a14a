-- The raw window fits.
use Rattle.std.proofs.Common.{◌<◌, ◌^◌, sym, subst}
use Rattle.slot_core.specs.declared.tasks.TaskSet.{TaskSet}
use Rattle.slot_core.specs.Offline.Windows.{raw_deadline}
use Rattle.view_jobs.proofs.RawWindows.{raw_deadline-fits}
use Rattle.view_jobs.proofs.jobs.listed_in.Goals as goal

pub listed_of-requires : goal.listed_of-requires
listed_of-requires c =
    subst
    (λ (set : TaskSet). raw_deadline set c.job_in_cycle.result < 2 ^ 64)
    (sym c.tasks.ensures.tasks)
    (raw_deadline-fits c.args.plan.now c.args.i c.args.cycles c.job_in_cycle.result c.tasks.ensures.plan c.requires.place c.requires.few c.job_in_cycle.ensures)
