-- No graph has a wrong entry.
use Rattle.std.proofs.Common.{refl, arith}
use Rattle.std.proofs.lemmas.Option.{slice_get_read}
use Rattle.slot_core.specs.Sets.Faults.{after_fault}
use Rattle.slot_facts.proofs.Sets.Faults.{first_fault-None}
use Rattle.source_check.proofs.loops.check_loops.Goals as goal

pub check_graph_loops-requires-clause-named : goal.check_graph_loops-requires-clause-named
check_graph_loops-requires-clause-named c =
    let graphs = c.args.graphs.now in
    let place = c.loop-place.place in
    let graph = c.index-graphs-place.result in
    first_fault-None after_fault 0 graphs place place graph c.requires.named (slice_get_read graphs _ place graph refl c.loop-place-test.true c.index-graphs-place.is) (omega arith)
