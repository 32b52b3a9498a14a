-- A block of unused nodes is an empty chain.
use Rattle.std.proofs.Common.{◌≡◌, ℕ, zero, suc, ◌+◌, ◌≤◌, ◌<◌, ◌^◌, List, [], ◌∷◌, ◌++◌, length, refl, length-append, sym, ap, subst, inl, inr, ◌∙◌, arith, add-one}
use Rattle.std.proofs.lemmas.List.{get_or_append_left, length-set}
use Rattle.std.proofs.Math.Seq.{get_or-append_seam}
use Rattle.std.proofs.lemmas.Bool.{cases_lt}
use Rattle.node_chain.specs.declared.block.Node.{Node}
use Rattle.node_chain.specs.Nodes.{node_at, unused, unused_node}
use Rattle.node_chain.specs.Links.{next_of, prev_of, with_next, run, times, IsLinked, Stands}
use Rattle.node_chain.proofs.Counts.{times-not, times-head, same_or_not}
use Rattle.node_chain.proofs.Writes.{next-here, next-there, next-prev}
use Rattle.node_chain.proofs.Rings.{IsLinked-of}

-- so many numbers from one on
abbrev pub from : ℕ → ℕ → List ℕ
from a zero = []
from a (suc k) = a ∷ from (suc a) k

length-from : (a k : ℕ) → length (from a k) ≡ k
length-from a zero = refl
length-from a (suc k) = omega (arith, length-from (suc a) k)

-- numbers below the first are not there
below-from : (p a k : ℕ) → p < a → times p (from a k) ≡ 0
below-from p a zero lt = refl
below-from p a (suc k) lt = times-not p a (from (suc a) k) (λ e. omega (arith, e, lt)) ∙ below-from p (suc a) k (omega (arith, lt))

-- numbers past the last are not there
past-from : (p a k : ℕ) → a + k ≤ p → times p (from a k) ≡ 0
past-from p a zero le = refl
past-from p a (suc k) le = times-not p a (from (suc a) k) (λ e. omega (arith, e, le)) ∙ past-from p (suc a) k (omega (arith, le))

-- each number is there once
once-from : (p a k : ℕ) → times p (from a k) ≤ 1
once-from p a zero = omega arith
once-from p a (suc k) = elim (same_or_not p a) [
  | inl same ↦
      let head = times-head a (from (suc a) k) in
      let none : times a (from (suc a) k) ≡ 0 = below-from a (suc a) k (omega arith) in
      subst (λ r. times r (from a (suc k)) ≤ 1) (sym same) (omega (arith, head, none))
  | inr off ↦ omega (arith, times-not p a (from (suc a) k) off, once-from p (suc a) k)
]

-- a run of places that each name the one after them
run-from : (nodes : List Node) (a k : ℕ) → ((p : ℕ) → a ≤ p → p < a + k → next_of nodes p ≡ suc p) → run nodes a k ≡ from a k
run-from nodes a zero next = refl
run-from nodes a (suc k) next =
    ap (λ n. a ∷ run nodes n k) (next a (omega arith) (omega arith))
    ∙ ap (λ l. a ∷ l) (run-from nodes (suc a) k (λ p le lt. next p (omega (arith, le)) (omega (arith, lt))))

-- so many unused nodes
pub length-unused : (n : ℕ) → length (unused n) ≡ n
length-unused zero = refl
length-unused (suc n) = omega (arith, length-append (unused n) (unused_node n ∷ []), length-unused n)

-- each unused node is the one of its place
pub unused-at : (m p : ℕ) → p < m → node_at (unused m) p ≡ unused_node p
unused-at zero p lt = absurd (omega (arith, lt))
unused-at (suc n) p lt =
    let long = length-unused n in
    elim (cases_lt p n) [
      | inl less ↦
          let before : p < length (unused n) = omega (arith, less, long) in
          get_or_append_left (unused n) (unused_node n ∷ []) (unused_node 0) p before ∙ unused-at n p less
      | inr le ↦
          let same : length (unused n) ≡ p = omega (arith, le, lt, long) in let at : n ≡ p = omega (arith, same, long) in
          subst (λ k. node_at (unused n ++ unused_node n ∷ []) k ≡ unused_node n) same
          (get_or-append_seam (unused n) (unused_node n) [] (unused_node 0)) ∙ ap unused_node at
    ]

module _ (n : ℕ) (some : 1 ≤ n) (small : n ≤ 2 ^ 20) where
  abbrev was : List Node
  was = unused (suc n)

  abbrev fresh : List Node
  fresh = with_next 0 0 was

  zero_in : 0 < length was
  zero_in = omega (arith, length-unused (suc n))

  pub fresh-length : length fresh ≡ suc n
  fresh-length = length-set was 0 (record (node_at was 0) { next = 0 }) ∙ length-unused (suc n)

  next : (p : ℕ) → 1 ≤ p → p < 1 + n → next_of fresh p ≡ suc p
  next p le lt =
      next-there was 0 zero_in 0 p (λ e. omega (arith, e, le))
      ∙ ap (λ (k : Node). k.next) (unused-at (suc n) p (omega (arith, lt))) ∙ add-one p

  stands : Stands fresh 1 [] (from 1 n)
  stands =
      let front : prev_of was 0 ≡ 0 = ap (λ (k : Node). k.prev) (unused-at (suc n) 0 (omega arith)) in
      record {
        linked = (next-here was 0 zero_in 0, next-prev was 0 zero_in 0 0 ∙ front);
        behind = ap (run fresh 1) (length-from 1 n) ∙ run-from fresh 1 n next;
        once = λ p. once-from p 1 n;
        no_end = below-from 0 1 n (omega arith);
        inside = λ p le. past-from p 1 n (omega (arith, le, fresh-length));
      }

  pub fresh-linked : IsLinked fresh 1 0
  fresh-linked =
      (IsLinked-of fresh 1 0 [] (from 1 n) stands refl (omega (arith, length-from 1 n, fresh-length))
      (omega (arith, fresh-length, some)) (omega (arith, fresh-length, small))).0
