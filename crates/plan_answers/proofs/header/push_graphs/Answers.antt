use Rattle.std.proofs.Common.{◌++◌}
use Rattle.std.specs.Prelude.{flat_map}
use Rattle.std.specs.List.{enumerate_from}
use Rattle.plan_answers.specs.Headers.{graph_lines}
use Rattle.plan_answers.proofs.Insides.{items-more}
use Rattle.plan_answers.proofs.header.push_graphs.Goals as goal

pub loop-index-preserved : goal.loop-index-preserved
loop-index-preserved c =
    let all = c.args.text.now.items ++ flat_map graph_lines (enumerate_from 0 c.args.graphs.now) in
    items-more graph_lines c.loop-index.text.items c.push_graph.new.text.items all c.args.graphs.now c.loop-index.index c.index-graphs-index.result c.loop-index-test.true c.index-graphs-index.is c.loop-index.invariant c.in_ok-push_graph.ensures
