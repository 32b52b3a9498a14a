-- Spans that a search passes, one after another.
use Rattle.std.proofs.Common.{◌≡◌, ℕ, ◌+◌, ◌^◌, ◌≤◌, ◌<◌, List, get_or, length, slice_get, Some, sym, ap, subst, ◌∙◌, arith, inl, inr}
use Rattle.std.proofs.Math.Nat.{eq-or-lt_of_le}
use Rattle.std.proofs.lemmas.List.{length-map, take_all}
use Rattle.std.proofs.lemmas.List.Sums.{sum_by-take-le, sum_by_more}
use Rattle.std.proofs.lemmas.Option.{get_or_from_slice_get, slice_get_within}
use Rattle.std.specs.Prelude.{sum_by}
use Rattle.slot_core.specs.declared.jobs.Span.{Span}
use Rattle.node_chain.specs.declared.block.Node.{Node}
use Rattle.node_chain.specs.declared.chain.NodeId.{NodeId}
use Rattle.node_chain.specs.declared.searches.Search.{Search}
use Rattle.node_chain.specs.Chains.{pairs_of, span_at}
use Rattle.node_chain.specs.Links.{order, span_of, IsLinked}
use Rattle.node_chain.specs.Nodes.{blank}
use Rattle.node_chain.specs.Orders.{ids_of}
use Rattle.node_chain.specs.Searches.{works_of_first}
use Rattle.node_chain.proofs.Counts.{some-same}
use Rattle.node_chain.proofs.Kept.{listed-place, order-inside, pairs-length}
use Rattle.node_chain.proofs.Pairs.{place-span}
use Rattle.node_chain.proofs.WalksBack.{map-at, pair-at}

-- the works of some of the first spans are no more than those of all
pub works_of_first-le : (i n : ℕ) (spans : List Span) → length spans ≤ n → works_of_first i spans ≤ works_of_first n spans
works_of_first-le i n spans all =
    let whole = ap (λ xs. sum_by (λ (s : Span). s.work) xs) (take_all n spans all) in
    omega (arith, sum_by-take-le (λ (s : Span). s.work) spans i, whole)

-- one span more adds its work
pub works_of_first-next : (i : ℕ) (spans : List Span) (s : Span) → slice_get spans i ≡ Some s → works_of_first (i + 1) spans ≡ works_of_first i spans + s.work
works_of_first-next i spans s e =
    sum_by_more (λ (t : Span). t.work) spans i s (slice_get_within spans i s e)
    ∙ ap (λ (t : Span). works_of_first i spans + t.work) (get_or_from_slice_get spans i s s e)

-- where what is asked fits beside the works of all spans, so do those of one span more
pub works_of_first-fits : (asked works i n : ℕ) (spans : List Span) (s : Span) → slice_get spans i ≡ Some s → length spans ≤ n → works ≡ works_of_first i spans
    → asked + works_of_first n spans < 2 ^ 64 → works + s.work < 2 ^ 64
works_of_first-fits asked works i n spans s e all are fits =
    omega (arith, are, fits, works_of_first-next i spans s e, works_of_first-le (i + 1) n spans all)

-- a span with so many works before it is passed
abbrev pub IsPassed : Search → ℕ → Span → Type 0
IsPassed search works s = (search.asked + works ≤ s.start) × (s.end < search.border)

module _ (search : Search) (spans : List Span) where
  -- the spans between two indexes are passed
  abbrev pub ArePassed : ℕ → ℕ → Type 0
  ArePassed from index = (i : ℕ) (s : Span) → from ≤ i → i < index → slice_get spans i ≡ Some s → IsPassed search (works_of_first i spans) s

  -- so are they with one more that is
  pub ArePassed-next : (from k works : ℕ) (s : Span) → slice_get spans k ≡ Some s → works ≡ works_of_first k spans → IsPassed search works s
      → ArePassed from k → ArePassed from (k + 1)
  ArePassed-next from k works s e are passes more i t low below at =
      let le : i ≤ k = omega (arith, below) in
      elim (eq-or-lt_of_le le) [
        | inl same ↦
            subst (λ (r : Span). IsPassed search (works_of_first i spans) r) (some-same s t (sym e ∙ ap (slice_get spans) (sym same) ∙ at))
            (subst (λ n. IsPassed search n s) (are ∙ ap (λ n. works_of_first n spans) (sym same)) passes)
        | inr before ↦ more i t low before at
      ]

-- a chain of these pairs
module _ (nodes : List Node) (free len : ℕ) (linked : IsLinked nodes free len) (pairs : List (NodeId × Span)) (ids : List NodeId)
    (was : pairs_of nodes (order nodes len) ≡ pairs) (are : ids ≡ ids_of pairs) where
  -- there are as many ids as spans
  pub ids-long : length ids ≡ length pairs
  ids-long = ap (λ xs. length xs) are ∙ length-map pairs (λ (p : NodeId × Span). p.0)

  -- as many as the chain says
  pub ids-len : length ids ≡ len
  ids-len = ids-long ∙ ap (λ xs. length xs) (sym was) ∙ pairs-length nodes free len linked

  -- the node of the id at an index
  module _ (k : ℕ) (within : k < length ids) where
    abbrev id : NodeId
    id = get_or ids k (record { 0 = 0 })

    abbrev own : Span
    own = (get_or pairs k (record { 0 = 0 }, blank)).1

    pair : slice_get pairs k ≡ Some (id, own)
    pair = pair-at pairs ids k are (omega (arith, within, ids-long))

    place : slice_get (order nodes len) k ≡ Some id.0
    place = listed-place nodes len pairs was k id (map-at (λ (q : NodeId × Span). q.0) pairs k (id, own) pair)

    -- it lies in the block
    pub node-inside : id.0 < length nodes
    node-inside = order-inside nodes free len linked k id.0 place

    -- it has the span at that index
    pub node-span : span_at pairs k ≡ Some (span_of nodes id.0)
    node-span = ap (λ ps. span_at ps k) (sym was) ∙ place-span nodes (order nodes len) k id.0 place
