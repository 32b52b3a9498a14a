use Rattle.std.proofs.Common.{take}
use Rattle.demand_test.specs.EndTables.{ending_by, first_end, ArePassed}
use Rattle.demand_test.proofs.ends.Ends.pass_all.Given as goal

abbrev pub invariant-loop-job : goal.invariant-loop-job
invariant-loop-job l =
    ArePassed l.initial.self l.self (ending_by first_end (take l.job-index l.jobs))
