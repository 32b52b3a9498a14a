-- Each entry names a task.
use Rattle.slot_facts.proofs.Offline.Jobs.{named-from_after_fault}
use Rattle.source_check.proofs.loops.check_graph_loops.Goals as goal

pub order-requires-clause-named : goal.order-requires-clause-named
order-requires-clause-named c =
    λ t p after. (named-from_after_fault c.args.index c.args.graph.now c.requires.named t p after).1
