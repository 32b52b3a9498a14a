use Rattle.std.proofs.Common.{arith, rules}
use Rattle.std.proofs.lemmas.Grind.{common_steps}
use Rattle.clock_units.specs.Derived.{graph_of}
use Rattle.clock_units.proofs.EachLoop.{each-more}
use Rattle.clock_units.proofs.derived.graphs_of.Goals as goal

pub loop-g-preserved : goal.loop-g-preserved
loop-g-preserved c =
    rw c.in_ok-push.ensures.ok (each-more (graph_of c.args.slot c.args.worth) c.args.physical.now c.loop-g.g c.index-physical-g.result _ _ _ c.loop-g-test.true c.index-physical-g.is c.in_ok-graph.ensures c.loop-g.invariant)

pub returns-in_err-push : goal.returns-in_err-push
returns-in_err-push c = search rules

pub returns-in_err-graph : goal.returns-in_err-graph
returns-in_err-graph c = grind (arith, common_steps)

pub returns : goal.returns
returns c = grind (arith, common_steps)
