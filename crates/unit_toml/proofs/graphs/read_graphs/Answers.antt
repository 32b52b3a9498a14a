use Rattle.toml.specs.View.{table_view}
use Rattle.unit_toml.specs.Reading.{graph_of}
use Rattle.unit_toml.proofs.EachLoop.{each-more}
use Rattle.std.proofs.Common.{arith, rules}
use Rattle.std.proofs.lemmas.Grind.{common_steps}
use Rattle.unit_toml.proofs.graphs.read_graphs.Goals as goal

pub loop-g-preserved : goal.loop-g-preserved
loop-g-preserved c =
    rw c.in_ok-push.ensures.ok (each-more graph_of (λ t. table_view t.now) c.args.tables.now c.loop-g.g c.index-tables-g.result _ _ _ c.loop-g-test.true c.index-tables-g.is c.in_ok-graph.ensures c.loop-g.invariant)

pub returns-in_err-push : goal.returns-in_err-push
returns-in_err-push c = search rules

pub returns-in_err-graph : goal.returns-in_err-graph
returns-in_err-graph c = grind (arith, common_steps)

pub returns : goal.returns
returns c = grind (arith, common_steps)
