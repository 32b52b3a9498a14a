use Rattle.supply_find.proofs.Tables.{raise-fits}
use Rattle.supply_find.proofs.due.due_table.Goals as goal

pub raise-requires : goal.raise-requires
raise-requires c =
    record { small = raise-fits c.args.jobs.now c.loop-job.due.items c.loop-job.job-index c.args.cycle _ c.loop-job-test.true c.requires.few c.requires.cycle c.loop-job.invariant.len c.loop-job.invariant.due }
