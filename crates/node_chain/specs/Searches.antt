-- Spans that are searched through from a place on.
use Rattle.std.specs.Prelude.{ℕ, List, map, sum_by, take}
use Rattle.slot_core.specs.declared.jobs.Span.{Span}
use Rattle.node_chain.specs.declared.chain.NodeId.{NodeId}

-- the spans of a chain without their ids
abbrev pub chain_spans : List (NodeId × Span) → List Span
chain_spans pairs = map (λ (p : NodeId × Span). p.1) pairs

-- the works of so many of the first spans
abbrev pub works_of_first : ℕ → List Span → ℕ
works_of_first i spans = sum_by (λ (s : Span). s.work) (take i spans)
