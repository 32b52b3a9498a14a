-- Items in order, and those of a chain: the ids of its spans.
use Rattle.std.specs.Prelude.{◌≡◌, ℕ, ◌≤◌, List, map}
use Rattle.slot_core.specs.declared.jobs.Span.{Span}
use Rattle.node_chain.specs.declared.chain.NodeId.{NodeId}

-- what contracts see of items in order: them, and how many places they have
pub record OrderParts (X : Type 0) : Type 0 where
  pub items : List X
  pub places : ℕ

-- the ids of pairs
abbrev pub ids_of : List (NodeId × Span) → List NodeId
ids_of pairs = map (λ (p : NodeId × Span). p.0) pairs

-- these are the ids of the pairs in their order, with places for so many
pub record KeepsOrder (pairs : List (NodeId × Span)) (room : ℕ) (order : OrderParts NodeId) :
    Type 0 where
  pub ids : order.items ≡ ids_of pairs
  pub fits : room ≤ order.places
