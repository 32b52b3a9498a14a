use Rattle.std.proofs.Common.{ap, ◌∙◌}
use Rattle.std.specs.List.{list_all}
use Rattle.slot_core.specs.Sets.Ranges.{graph_in_range}
use Rattle.slot_facts.proofs.Sets.Ranges.{SetRanges-from_sound}
use Rattle.task_rows.specs.Marks.{graph_marks}
use Rattle.task_rows.proofs.Steps.{flat_map-step, list_all-at}
use Rattle.task_rows.proofs.marks.push_graphs.Goals as goal

pub push_graph-requires : goal.push_graph-requires
push_graph-requires c =
    let graphs = c.items-graph-items.result.now in
    let all = (SetRanges-from_sound c.args.tasks.now c.requires).graphs in
    list_all-at graph_in_range graphs c.loop-graph.graph-index c.graph-item.result c.loop-graph-test.true c.graph-item.is (ap (list_all graph_in_range) c.items-graph-items.ensures ∙ all)

pub loop-graph-preserved : goal.loop-graph-preserved
loop-graph-preserved c =
    flat_map-step (graph_marks c.args.rows.now c.args.edges) c.args.marks.now.items c.loop-graph.marks.items c.push_graph.new.marks.items c.items-graph-items.result.now c.loop-graph.graph-index c.graph-item.result c.loop-graph-test.true c.graph-item.is c.loop-graph.invariant c.in_ok-push_graph.ensures
