-- The jobs so far are counted.
use Rattle.std.proofs.Common.{take}
use Rattle.demand_test.specs.EndTables.{IsEndTable}
use Rattle.plan_answers.proofs.Starts.{starting}
use Rattle.plan_answers.proofs.tightest.due_from.Given as goal

abbrev pub invariant-loop-job : goal.invariant-loop-job
invariant-loop-job l =
    IsEndTable (starting l.from (take l.job-index l.jobs)) (take l.job-index l.jobs) l.cycle l.due.items
