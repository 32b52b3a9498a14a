use Rattle.std.proofs.Common.{◌≡◌, drop}
use Rattle.clock_units.specs.Derived.{each, graph_of}
use Rattle.clock_units.proofs.EachLoop.{with_before}
use Rattle.clock_units.proofs.derived.graphs_of.Given as goal

abbrev pub invariant-loop-g : goal.invariant-loop-g
invariant-loop-g l =
    each (graph_of l.slot l.worth) 0 l.physical ≡ with_before l.graphs (each (graph_of l.slot l.worth) l.g (drop l.g l.physical))
