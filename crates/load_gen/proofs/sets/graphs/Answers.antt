-- One graph more.
use Rattle.std.proofs.Common.{List, ◌++◌, ◌∷◌, [], sym, ap₂, ◌∙◌, zero-add}
use Rattle.std.proofs.lemmas.List.FromFn.{map-range_with_len_more}
use Rattle.slot_core.specs.declared.tasks.Graph.{Graph}
use Rattle.load_gen.specs.Loads.{load_graph}
use Rattle.load_gen.proofs.sets.graphs.Goals as goal

pub loop-i-preserved : goal.loop-i-preserved
loop-i-preserved c =
    c.in_ok-push.ensures.ok
    ∙ ap₂ (λ (graphs : List Graph) (graph : Graph). graphs ++ graph ∷ []) c.loop-i.invariant c.in_ok-graph.ensures
    ∙ sym (map-range_with_len_more load_graph 0 c.loop-i.i c.loop-i.i (zero-add c.loop-i.i))
