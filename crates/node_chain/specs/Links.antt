-- The links between the nodes of a block. Place 0 is both ends of the chain.
use Rattle.std.specs.Prelude.{◌≡◌, ℕ, zero, suc, ◌+◌, ◌-◌, ◌≤◌, ◌^◌, List, [], ◌∷◌, ◌++◌, length, cond, nat_eq, slice_set}
use Rattle.slot_core.specs.declared.jobs.Span.{Span}
use Rattle.node_chain.specs.declared.block.Node.{Node}
use Rattle.node_chain.specs.Nodes.{node_at}

-- the place after a place
abbrev pub next_of : List Node → ℕ → ℕ
next_of nodes p = (node_at nodes p).next

-- the place before a place
abbrev pub prev_of : List Node → ℕ → ℕ
prev_of nodes p = (node_at nodes p).prev

-- the span at a place
abbrev pub span_of : List Node → ℕ → Span
span_of nodes p = (node_at nodes p).span

-- a node comes before another place
abbrev pub with_next : ℕ → ℕ → List Node → List Node
with_next p q nodes = slice_set nodes p (record (node_at nodes p) { next = q })

-- a node comes after another place
abbrev pub with_prev : ℕ → ℕ → List Node → List Node
with_prev p q nodes = slice_set nodes p (record (node_at nodes p) { prev = q })

-- a node has another span
abbrev pub with_span : ℕ → Span → List Node → List Node
with_span p s nodes = slice_set nodes p (record (node_at nodes p) { span = s })

-- a span is put into a place, before another
abbrev pub joined : ℕ → ℕ → Span → List Node → List Node
joined place after s nodes =
    let before = prev_of nodes after in
    let put = slice_set nodes place (record { next = after; prev = before; span = s }) in
    with_prev after place (with_next before place put)

-- the first place is taken out, and comes before an unused one
abbrev pub parted : ℕ → List Node → List Node
parted unused nodes =
    let first = next_of nodes 0 in
    let second = next_of nodes first in
    with_next first unused (with_prev second 0 (with_next 0 second nodes))

-- so many places from one on, each the next of the one before it
abbrev pub run : List Node → ℕ → ℕ → List ℕ
run nodes p zero = []
run nodes p (suc n) = p ∷ run nodes (next_of nodes p) n

-- the places of the chain, from the first on
abbrev pub order : List Node → ℕ → List ℕ
order nodes len = run nodes (next_of nodes 0) len

-- the unused places, from one on
abbrev pub unused_places : List Node → ℕ → ℕ → List ℕ
unused_places nodes free len = run nodes free (length nodes - (len + 1))

-- one place, some places and another place follow each other, by links both ways
abbrev pub AreLinked : List Node → ℕ → List ℕ → ℕ → Type 0
AreLinked nodes p [] q = (next_of nodes p ≡ q) × (prev_of nodes q ≡ p)
AreLinked nodes p (x ∷ xs) q =
    (next_of nodes p ≡ x) × (prev_of nodes x ≡ p) × AreLinked nodes x xs q

-- how often a place is in a list
abbrev pub times : ℕ → List ℕ → ℕ
times p [] = 0
times p (q ∷ qs) = cond (nat_eq p q) 1 0 + times p qs

-- the places of a chain and the unused ones: each at most once, none at the ends or outside
pub record Stands (nodes : List Node) (free : ℕ) (places unused : List ℕ) : Type 0 where
  pub linked : AreLinked nodes 0 places 0
  pub behind : run nodes free (length unused) ≡ unused
  pub once : (p : ℕ) → times p (places ++ unused) ≤ 1
  pub no_end : times 0 (places ++ unused) ≡ 0
  pub inside : (p : ℕ) → length nodes ≤ p → times p (places ++ unused) ≡ 0

-- a chain of so many nodes, with its first unused place
pub record IsLinked (nodes : List Node) (free len : ℕ) : Type 0 where
  pub stands : Stands nodes free (order nodes len) (unused_places nodes free len)
  pub few : len + 1 ≤ length nodes
  pub some : 2 ≤ length nodes
  pub small : length nodes ≤ 2 ^ 20 + 1
