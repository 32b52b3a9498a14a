-- The nodes of a block.
use Rattle.std.specs.Prelude.{ℕ, zero, suc, ◌+◌, List, [], ◌∷◌, ◌++◌, get_or, pos}
use Rattle.slot_core.specs.declared.jobs.Span.{Span}
use Rattle.node_chain.specs.declared.block.Node.{Node}

-- the span of an unused node
abbrev pub blank : Span
blank = record { start = 0; end = 0; work = 0; spare = pos 0 }

-- an unused node at a place, before the one after it
abbrev pub unused_node : ℕ → Node
unused_node place = record { next = place + 1; prev = 0; span = blank }

-- so many unused nodes, from place 0 on
abbrev pub unused : ℕ → List Node
unused zero = []
unused (suc n) = unused n ++ unused_node n ∷ []

-- the node at a place
abbrev pub node_at : List Node → ℕ → Node
node_at nodes place = get_or nodes place (unused_node 0)
