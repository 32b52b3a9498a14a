-- What contracts see of a chain.
use Rattle.std.specs.Prelude.{◌≡◌, ℕ, ◌≤◌, ◌^◌, List, length, map, Option, Some, None, cond, nat_eq, slice_get}
use Rattle.slot_core.specs.declared.jobs.Span.{Span}
use Rattle.node_chain.specs.declared.block.Node.{Node}
use Rattle.node_chain.specs.declared.chain.NodeId.{NodeId}
use Rattle.node_chain.specs.Laps.{Laps}
use Rattle.node_chain.specs.Links.{span_of}

-- its spans in order, each with its id, how many it has room for, and its laps of numbers
pub record Chained : Type 0 where
  pub pairs : List (NodeId × Span)
  pub capacity : ℕ
  pub laps : Laps

-- the id at a place of the list
abbrev pub id_at : List (NodeId × Span) → ℕ → Option NodeId
id_at pairs i = slice_get (map (λ (p : NodeId × Span). p.0) pairs) i

-- the span at a place of the list
abbrev pub span_at : List (NodeId × Span) → ℕ → Option Span
span_at pairs i = slice_get (map (λ (p : NodeId × Span). p.1) pairs) i

-- the id is in the list
abbrev pub IsListed : List (NodeId × Span) → NodeId → Type 0
IsListed pairs id = (i : ℕ) × (id_at pairs i ≡ Some id)

-- a chain: each id once, room for 1 to 2 ^ 20 spans, and no more spans than that
pub record IsChain (pairs : List (NodeId × Span)) (capacity : ℕ) : Type 0 where
  pub distinct :
      (id : NodeId) (i j : ℕ) → id_at pairs i ≡ Some id → id_at pairs j ≡ Some id → i ≡ j
  pub few : length pairs ≤ capacity
  pub some : 1 ≤ capacity
  pub small : capacity ≤ 2 ^ 20

-- the pairs of some places
abbrev pub pairs_of : List Node → List ℕ → List (NodeId × Span)
pairs_of nodes places = map (λ (p : ℕ). (record { 0 = p }, span_of nodes p)) places

-- the id of a place, but for the ends
abbrev pub id_of : ℕ → Option NodeId
id_of place = cond (nat_eq place 0) None (Some (record { 0 = place }))
