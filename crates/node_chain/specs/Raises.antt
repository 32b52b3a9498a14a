-- Spans whose capacities are raised back from a place.
use Rattle.std.specs.Prelude.{ℤ, ℕ, ◌+ℤ◌, ◌-◌, ◌&&◌, Bool, List, ◌++◌, drop, map, nat_le, int_le, take}
use Rattle.std.specs.Int.{w64, int_wrap}
use Rattle.slot_core.specs.declared.jobs.Span.{Span}
use Rattle.node_chain.specs.declared.chain.NodeId.{NodeId}
use Rattle.node_chain.specs.declared.raises.Raise.{Raise}

-- the items, where those from one index up to another are changed by f
abbrev pub map_between : {X : Type 0} → (X → X) → ℕ → ℕ → List X → List X
map_between f low high xs = take low xs ++ map f (take (high - low) (drop low xs)) ++ drop high xs

-- a span with so much added to its capacity: the sum wraps round
abbrev pub lifted_by : ℤ → Span → Span
lifted_by add s = record s { spare = int_wrap w64 (s.spare +ℤ add) }

-- the same beside the id of the span
abbrev pub pair_lifted_by : ℤ → (NodeId × Span) → (NodeId × Span)
pair_lifted_by add p = (p.0, lifted_by add p.1)

-- the capacity of a span by what is kept in it, where so much is added
abbrev pub spare_under : ℤ → Span → ℤ
spare_under add s = (lifted_by add s).spare

-- its capacity once it is raised
abbrev pub spare_after : Raise → Span → ℤ
spare_after raise s = int_wrap w64 (spare_under raise.add s +ℤ raise.more)

-- the span before one is raised too: it starts at the border or later, and had no more capacity
-- than the limit
abbrev pub passes_on : Raise → Span → Bool
passes_on raise s = nat_le raise.border s.start && int_le (spare_under raise.add s) raise.limit
