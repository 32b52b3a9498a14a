use Rattle.std.proofs.Common.{◌*◌}
use Rattle.slot_core.specs.Feasibility.Feasible.{window_demand}
use Rattle.demand_test.specs.EndTables.{AreKnown}
use Rattle.demand_test.proofs.WindowSums.{AreTables}
use Rattle.demand_test.proofs.windows.first_failing.Given as goal

abbrev pub invariant-loop-from : goal.invariant-loop-from
invariant-loop-from l =
    record {
      tables : AreTables l.jobs l.rest l.sporadics l.cycle l.from l.ends l.arrivals;
      known : AreKnown (window_demand l.jobs l.sporadics l.cycle l.from) l.from (2 * l.cycle) l.bounds;
    }
