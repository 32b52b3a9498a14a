use Rattle.std.proofs.Common.{◌≡◌, ℕ, ◌≤◌, Some, slice_get}
use Rattle.node_chain.proofs.order.Order+NodeId.index_of.Given as goal

-- the id is none of those before
abbrev pub invariant-loop-index : goal.invariant-loop-index
invariant-loop-index l = (i : ℕ) → slice_get l.ids i ≡ Some l.id → l.index ≤ i
