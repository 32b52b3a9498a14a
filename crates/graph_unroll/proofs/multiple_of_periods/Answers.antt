-- One more period keeps the invariant.
use Rattle.std.proofs.Common.{◌+◌, drop, sym, ◌∙◌}
use Rattle.slot_core.specs.declared.tasks.Graph.{Graph}
use Rattle.graph_unroll.specs.Multiples.{periods_of}
use Rattle.graph_unroll.proofs.MultipleLemmas.{along_more, length_in_range, within}
use Rattle.graph_unroll.proofs.multiple_of_periods.Goals as goal

pub common_multiple-requires-clause-length : goal.common_multiple-requires-clause-length
common_multiple-requires-clause-length c =
    length_in_range (λ (g : Graph). g.period) c.args.graphs.now c.loop-graph.graph-index c.graph-item.result c.loop-graph-test.true c.graph-item.is c.requires

pub loop-graph-preserved : goal.loop-graph-preserved
loop-graph-preserved c =
    let at = c.loop-graph.graph-index in
    let graph = c.graph-item.result in
    let graphs = c.args.graphs.now in
    let period = length_in_range (λ (g : Graph). g.period) graphs at graph c.loop-graph-test.true c.graph-item.is c.requires in
    let step = within c.loop-graph.multiple graph.period c.in_ok-multiple.multiple c.loop-graph.invariant.in_range period (sym c.in_ok-multiple.ensures) (periods_of (drop (at + 1) graphs)) in
    let more = along_more (λ (g : Graph). g.period) c.loop-graph.multiple graphs at graph c.loop-graph-test.true c.graph-item.is in
    record { in_range = step.0; goes_on = sym step.1 ∙ sym more ∙ c.loop-graph.invariant.goes_on }
