-- The multiple so far is within the limit, and goes on to what all periods give.
use Rattle.std.proofs.Common.{◌≡◌, true, drop}
use Rattle.slot_core.specs.declared.TheConstants.{SLOT_LIMIT}
use Rattle.slot_core.specs.Sets.Ranges.{is_between}
use Rattle.graph_unroll.specs.Multiples.{periods_of, multiple_along}
use Rattle.graph_unroll.proofs.multiple_of_periods.Given as goal

abbrev pub invariant-loop-graph : goal.invariant-loop-graph
invariant-loop-graph l = record {
  in_range : is_between 1 SLOT_LIMIT l.multiple ≡ true;
  goes_on : multiple_along l.multiple (periods_of (drop l.graph-index l.graphs)) ≡ multiple_along 1 (periods_of l.graphs);
}
