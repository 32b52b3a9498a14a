-- The multiple so far is within the limit, and goes on to what all separations give.
use Rattle.std.proofs.Common.{◌≡◌, true, drop}
use Rattle.slot_core.specs.declared.TheConstants.{SLOT_LIMIT}
use Rattle.slot_core.specs.Sets.Ranges.{is_between}
use Rattle.graph_unroll.specs.Multiples.{separations_of, multiple_along}
use Rattle.graph_unroll.proofs.multiple_with_separations.Given as goal

abbrev pub invariant-loop-sporadic : goal.invariant-loop-sporadic
invariant-loop-sporadic l = record {
  in_range : is_between 1 SLOT_LIMIT l.multiple ≡ true;
  goes_on : multiple_along l.multiple (separations_of (drop l.sporadic-index l.sporadics)) ≡ multiple_along l.first (separations_of l.sporadics);
}
