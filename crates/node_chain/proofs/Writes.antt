-- What the nodes of a block are after a write.
use Rattle.std.proofs.Common.{◌≡◌, ℕ, ◌<◌, List, length, slice_set, refl, sym, ap, inl, inr, ◌∙◌}
use Rattle.std.proofs.lemmas.List.{get_or-set_same, get_or-set_other}
use Rattle.slot_core.specs.declared.jobs.Span.{Span}
use Rattle.node_chain.specs.declared.block.Node.{Node}
use Rattle.node_chain.specs.Nodes.{node_at, unused_node}
use Rattle.node_chain.specs.Links.{next_of, prev_of, span_of, with_next, with_prev, with_span}
use Rattle.node_chain.proofs.Counts.{same_or_not}

module _ (nodes : List Node) (p : ℕ) (lt : p < length nodes) where
  -- the node that is put
  pub put-here : (n : Node) → node_at (slice_set nodes p n) p ≡ n
  put-here n = get_or-set_same nodes p n (unused_node 0) lt

  -- all other nodes stay
  pub put-there : (n : Node) (q : ℕ) → (q ≡ p → ⊥) → node_at (slice_set nodes p n) q ≡ node_at nodes q
  put-there n q off = get_or-set_other nodes p q n (unused_node 0) off

  -- a part of a node that is written as it was is as it was everywhere
  keeps : {A : Type 0} (part : Node → A) (n : Node) → part n ≡ part (node_at nodes p) → (q : ℕ) → part (node_at (slice_set nodes p n) q) ≡ part (node_at nodes q)
  keeps part n same q = elim (same_or_not q p) [
    | inl here ↦ ap (λ k. part (node_at (slice_set nodes p n) k)) here ∙ ap part (put-here n) ∙ same ∙ ap (λ k. part (node_at nodes k)) (sym here)
    | inr off ↦ ap part (put-there n q off)
  ]

  -- the next place of a node is set, and all else stays
  pub next-here : (v : ℕ) → next_of (with_next p v nodes) p ≡ v
  next-here v = ap (λ (n : Node). n.next) (put-here (record (node_at nodes p) { next = v }))

  pub next-there : (v q : ℕ) → (q ≡ p → ⊥) → next_of (with_next p v nodes) q ≡ next_of nodes q
  next-there v q off = ap (λ (n : Node). n.next) (put-there (record (node_at nodes p) { next = v }) q off)

  pub next-prev : (v q : ℕ) → prev_of (with_next p v nodes) q ≡ prev_of nodes q
  next-prev v q = keeps (λ (n : Node). n.prev) (record (node_at nodes p) { next = v }) refl q

  pub next-span : (v q : ℕ) → span_of (with_next p v nodes) q ≡ span_of nodes q
  next-span v q = keeps (λ (n : Node). n.span) (record (node_at nodes p) { next = v }) refl q

  -- the place before a node is set, and all else stays
  pub prev-here : (v : ℕ) → prev_of (with_prev p v nodes) p ≡ v
  prev-here v = ap (λ (n : Node). n.prev) (put-here (record (node_at nodes p) { prev = v }))

  pub prev-there : (v q : ℕ) → (q ≡ p → ⊥) → prev_of (with_prev p v nodes) q ≡ prev_of nodes q
  prev-there v q off = ap (λ (n : Node). n.prev) (put-there (record (node_at nodes p) { prev = v }) q off)

  pub prev-next : (v q : ℕ) → next_of (with_prev p v nodes) q ≡ next_of nodes q
  prev-next v q = keeps (λ (n : Node). n.next) (record (node_at nodes p) { prev = v }) refl q

  pub prev-span : (v q : ℕ) → span_of (with_prev p v nodes) q ≡ span_of nodes q
  prev-span v q = keeps (λ (n : Node). n.span) (record (node_at nodes p) { prev = v }) refl q

  -- the span of a node is set, and all else stays
  pub span-here : (s : Span) → span_of (with_span p s nodes) p ≡ s
  span-here s = ap (λ (n : Node). n.span) (put-here (record (node_at nodes p) { span = s }))

  pub span-there : (s : Span) (q : ℕ) → (q ≡ p → ⊥) → span_of (with_span p s nodes) q ≡ span_of nodes q
  span-there s q off = ap (λ (n : Node). n.span) (put-there (record (node_at nodes p) { span = s }) q off)

  pub span-next : (s : Span) (q : ℕ) → next_of (with_span p s nodes) q ≡ next_of nodes q
  span-next s q = keeps (λ (n : Node). n.next) (record (node_at nodes p) { span = s }) refl q

  pub span-prev : (s : Span) (q : ℕ) → prev_of (with_span p s nodes) q ≡ prev_of nodes q
  span-prev s q = keeps (λ (n : Node). n.prev) (record (node_at nodes p) { span = s }) refl q
