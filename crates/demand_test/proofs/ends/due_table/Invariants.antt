use Rattle.std.proofs.Common.{take}
use Rattle.demand_test.specs.EndTables.{IsEndTable}
use Rattle.demand_test.proofs.ends.due_table.Given as goal

abbrev pub invariant-loop-job : goal.invariant-loop-job
invariant-loop-job l =
    IsEndTable (take l.job-index l.jobs) (take l.job-index l.jobs) l.cycle l.due.items
