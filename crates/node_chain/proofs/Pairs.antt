-- The pairs of a chain's places.
use Rattle.std.proofs.Common.{◌≡◌, ℕ, zero, suc, ◌+◌, ◌≤◌, ◌<◌, Bool, true, false, cond, nat_eq, List, [], ◌∷◌, ◌++◌, length, take, drop, slice_get, slice_set, Option, Some, None, refl, sym, ap, subst, ◌∙◌, arith, take_at, drop_at}
use Rattle.std.specs.Prelude.{insert}
use Rattle.std.proofs.lemmas.Bool.{eq-eqb, eqb-true}
use Rattle.std.proofs.lemmas.List.{length-map, map-append}
use Rattle.slot_core.specs.declared.jobs.Span.{Span}
use Rattle.node_chain.specs.declared.block.Node.{Node}
use Rattle.node_chain.specs.declared.chain.NodeId.{NodeId}
use Rattle.node_chain.specs.Links.{next_of, prev_of, span_of, with_span, times, AreLinked}
use Rattle.node_chain.specs.Chains.{id_at, id_of, span_at, pairs_of}
use Rattle.node_chain.proofs.Counts.{some-same, times-head, times-here, times-there, times-listed, not_in}
use Rattle.node_chain.proofs.Writes.{span-here, span-there}

abbrev number : Option NodeId → ℕ
number (Some id) = id.0
number None = 0

-- the id of a place
abbrev pub named : ℕ → NodeId
named p = record { 0 = p }

module _ (nodes : List Node) where
  -- the id at an index is that of the place there
  pub id-place : (xs : List ℕ) (i : ℕ) (id : NodeId) → id_at (pairs_of nodes xs) i ≡ Some id → slice_get xs i ≡ Some id.0
  id-place [] i id e = cc
  id-place (x ∷ xs) zero id e = ap (λ (o : Option NodeId). Some (number o)) e
  id-place (x ∷ xs) (suc i) id e = id-place xs i id e

  -- the span of the place at an index
  pub place-span : (xs : List ℕ) (i x : ℕ) → slice_get xs i ≡ Some x → span_at (pairs_of nodes xs) i ≡ Some (span_of nodes x)
  place-span [] i x e = cc
  place-span (y ∷ ys) zero x e = ap (λ k. Some (span_of nodes k)) (some-same y x e)
  place-span (y ∷ ys) (suc i) x e = place-span ys i x e

  by_test : (p : ℕ) (t : Bool) → nat_eq p 0 ≡ t → (p ≡ 0 → ⊥) → cond t None (Some (named p)) ≡ Some (named p)
  by_test p true e some = absurd (some (eqb-true p 0 e))
  by_test p false e some = refl

  -- a place of the chain has its id, and the ends have none
  pub id_of-place : (p : ℕ) → (p ≡ 0 → ⊥) → id_of p ≡ Some (named p)
  id_of-place p some = by_test p (nat_eq p 0) refl some

  pub id_of-ends : (p : ℕ) → p ≡ 0 → id_of p ≡ None
  id_of-ends p e = ap (λ (t : Bool). cond t None (Some (named p))) (eq-eqb p 0 e)

  not_ends : (p : ℕ) (ps : List ℕ) → times 0 (p ∷ ps) ≡ 0 → p ≡ 0 → ⊥
  not_ends p ps none same = not_in 0 p (p ∷ ps) none (times-here p ps) same

  less : (p : ℕ) (ps : List ℕ) → times 0 (p ∷ ps) ≡ 0 → times 0 ps ≡ 0
  less p ps none = omega (arith, none)

  -- the first of some linked places
  pub first-id : (p : ℕ) (xs : List ℕ) → AreLinked nodes p xs 0 → times 0 xs ≡ 0 → id_of (next_of nodes p) ≡ id_at (pairs_of nodes xs) 0
  first-id p [] l none = id_of-ends (next_of nodes p) l.0
  first-id p (x ∷ xs) l none = ap id_of l.0 ∙ id_of-place x (not_ends x xs none)

  -- the one after a place
  pub next-id : (p : ℕ) (xs : List ℕ) (i q : ℕ) → AreLinked nodes p xs 0 → times 0 xs ≡ 0 → slice_get xs i ≡ Some q
      → id_of (next_of nodes q) ≡ id_at (pairs_of nodes xs) (suc i)
  next-id p [] i q l none e = cc
  next-id p (x ∷ xs) zero q l none e =
      ap (λ k. id_of (next_of nodes k)) (sym (some-same x q e)) ∙ first-id x xs l.2 (less x xs none)
  next-id p (x ∷ xs) (suc i) q l none e = next-id x xs i q l.2 (less x xs none) e

  -- the one before a place
  pub prev-id : (p : ℕ) (xs : List ℕ) (i q r : ℕ) → AreLinked nodes p xs r → times 0 xs ≡ 0 → slice_get xs (suc i) ≡ Some q
      → id_of (prev_of nodes q) ≡ id_at (pairs_of nodes xs) i
  prev-id p [] i q r l none e = cc
  prev-id p (x ∷ []) i q r l none e = cc
  prev-id p (x ∷ y ∷ ys) zero q r l none e =
      ap (λ k. id_of (prev_of nodes k)) (sym (some-same y q e)) ∙ ap id_of l.2.1 ∙ id_of-place x (not_ends x (y ∷ ys) none)
  prev-id p (x ∷ y ∷ ys) (suc i) q r l none e = prev-id x (y ∷ ys) i q r l.2 (less x (y ∷ ys) none) e

  -- the last is before the end
  pub last-id : (p : ℕ) (xs : List ℕ) (q i : ℕ) → AreLinked nodes p xs q → times 0 xs ≡ 0 → suc i ≡ length xs
      → id_of (prev_of nodes q) ≡ id_at (pairs_of nodes xs) i
  last-id p [] q i l none e = absurd (omega (arith, e))
  last-id p (x ∷ []) q zero l none e = ap id_of l.2.1 ∙ id_of-place x (not_ends x [] none)
  last-id p (x ∷ []) q (suc i) l none e = absurd (omega (arith, e))
  last-id p (x ∷ y ∷ ys) q zero l none e = absurd (omega (arith, e))
  last-id p (x ∷ y ∷ ys) q (suc i) l none e = last-id x (y ∷ ys) q i l.2 (less x (y ∷ ys) none) (omega (arith, e))

module _ (old new : List Node) where
  -- places whose spans stay have the same pairs
  pub pairs-kept : (xs : List ℕ) → ((r : ℕ) → 1 ≤ times r xs → span_of new r ≡ span_of old r) → pairs_of new xs ≡ pairs_of old xs
  pairs-kept [] same = refl
  pairs-kept (x ∷ xs) same =
      λ i. (named x, same x (times-here x xs) i) ∷ pairs-kept xs (λ r there. same r (times-there r x xs there)) i

  -- a place among others is a pair among theirs
  pub pairs-insert : (xs ys : List ℕ) (x : ℕ) (s : Span) → span_of new x ≡ s
      → ((r : ℕ) → 1 ≤ times r xs → span_of new r ≡ span_of old r) → ((r : ℕ) → 1 ≤ times r ys → span_of new r ≡ span_of old r)
      → pairs_of new (xs ++ x ∷ ys) ≡ insert (pairs_of old (xs ++ ys)) (length xs) (named x, s)
  pairs-insert xs ys x s here before after =
      let pair : List Node → ℕ → NodeId × Span = λ nodes p. (named p, span_of nodes p) in
      let long : length (pairs_of old xs) ≡ length xs = length-map xs (pair old) in
      let apart : pairs_of old (xs ++ ys) ≡ pairs_of old xs ++ pairs_of old ys = map-append (pair old) xs ys in
      let front : take (length xs) (pairs_of old (xs ++ ys)) ≡ pairs_of old xs =
      ap (take (length xs)) apart ∙ take_at (pairs_of old xs) (pairs_of old ys) (length xs) long in
      let back : drop (length xs) (pairs_of old (xs ++ ys)) ≡ pairs_of old ys =
      ap (drop (length xs)) apart ∙ drop_at (pairs_of old xs) (pairs_of old ys) (length xs) long in
      map-append (pair new) xs (x ∷ ys)
      ∙ (λ i. pairs-kept xs before i ++ (named x, here i) ∷ pairs-kept ys after i)
      ∙ (λ i. sym front i ++ (named x, s) ∷ sym back i)

-- a span is set at a place that is there once
pub pairs-set : (nodes : List Node) (q : ℕ) (s : Span) → q < length nodes → (xs : List ℕ) (i : ℕ) → slice_get xs i ≡ Some q → times q xs ≤ 1
    → pairs_of (with_span q s nodes) xs ≡ slice_set (pairs_of nodes xs) i (named q, s)
pairs-set nodes q s lt [] i e once = cc
pairs-set nodes q s lt (x ∷ xs) zero e once =
    let same : x ≡ q = some-same x q e in
    let head : times q (x ∷ xs) ≡ 1 + times q xs = subst (λ k. times q (k ∷ xs) ≡ 1 + times q xs) (sym same) (times-head q xs) in
    let none : times q xs ≡ 0 = omega (arith, head, once) in
    let here : span_of (with_span q s nodes) x ≡ s = ap (span_of (with_span q s nodes)) same ∙ span-here nodes q lt s in
    λ i. (named (same i), here i) ∷ pairs-kept nodes (with_span q s nodes) xs (λ r there. span-there nodes q lt s r (not_in q r xs none there)) i
pairs-set nodes q s lt (x ∷ xs) (suc i) e once =
    let there = times-listed xs i q e in
    let off : x ≡ q → ⊥ = λ same.
    let head : times q (x ∷ xs) ≡ 1 + times q xs = subst (λ k. times q (k ∷ xs) ≡ 1 + times q xs) (sym same) (times-head q xs) in
    omega (arith, head, once, there) in
    λ j. (named x, span-there nodes q lt s x off j) ∷ pairs-set nodes q s lt xs i e (omega (arith, once)) j
