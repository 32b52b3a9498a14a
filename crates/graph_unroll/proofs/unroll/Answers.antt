-- What soundness says of the lengths and of each graph.
use Rattle.std.proofs.Common.{◌∙◌, ap}
use Rattle.std.specs.List.{list_all}
use Rattle.std.proofs.lemmas.Bool.{and_parts}
use Rattle.slot_core.specs.Sets.Ranges.{graph_in_range}
use Rattle.slot_facts.proofs.Sets.Ranges.{SetRanges-from_sound}
use Rattle.graph_unroll.proofs.RangeLemmas.{lengths_in_range, list_all_get_or}
use Rattle.graph_unroll.proofs.unroll.Goals as goal

pub cycle_of-requires : goal.cycle_of-requires
cycle_of-requires c = lengths_in_range c.args.tasks.now (and_parts _ _ c.requires).0

pub push_graph-requires-clause-graph : goal.push_graph-requires-clause-graph
push_graph-requires-clause-graph c =
    let graphs = c.items-graph-items.result.now in
    let all = (SetRanges-from_sound c.args.tasks.now c.requires).graphs in
    ap graph_in_range c.graph-item.is ∙ list_all_get_or graph_in_range graphs c.loop-index.index c.graph-item.result c.loop-index-test.true (ap (list_all graph_in_range) c.items-graph-items.ensures ∙ all)
