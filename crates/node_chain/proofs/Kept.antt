-- What a chain is after a change of its nodes.
use Rattle.std.proofs.Common.{◌≡◌, ℕ, zero, suc, ◌+◌, ◌-◌, ◌≤◌, ◌<◌, List, [], ◌∷◌, ◌++◌, length, drop, slice_get, slice_set, Some, refl, sym, ap, subst, ◌∙◌, arith, length-append}
use Rattle.std.specs.Prelude.{insert}
use Rattle.std.proofs.lemmas.List.{length-map, length-set}
use Rattle.slot_core.specs.declared.jobs.Span.{Span}
use Rattle.node_chain.specs.declared.block.Node.{Node}
use Rattle.node_chain.specs.declared.chain.NodeId.{NodeId}
use Rattle.node_chain.specs.Nodes.{node_at}
use Rattle.node_chain.specs.Links.{next_of, prev_of, span_of, with_span, joined, parted, run, order, unused_places, times, IsLinked, Stands}
use Rattle.node_chain.specs.Chains.{id_at, pairs_of, Chained, IsChain, IsListed}
use Rattle.node_chain.specs.Laps.{Laps}
use Rattle.node_chain.proofs.Counts.{some-same, times-append, times-listed, once-index, times-here}
use Rattle.node_chain.proofs.Writes.{span-next, span-prev}
use Rattle.node_chain.proofs.Rings.{linked-kept, run-kept, run-length, Stands-inside, IsLinked-of}
use Rattle.node_chain.proofs.Pairs.{named, id-place, pairs-set}
use Rattle.node_chain.proofs.Inserts.{before-inside as before-within, before-Joins, before-Stands, before-pairs, last-inside as last-within, last-Joins, last-Stands, last-pairs}
use Rattle.node_chain.proofs.Parts.{front-Parts, front-Stands, front-pairs, f_within, g_within}

-- a block that is a chain of these pairs, and as large as it was
pub record Changed (old new : List Node) (free len : ℕ) (ps : List (NodeId × Span)) : Type 0 where
  pub linked : IsLinked new free len
  pub pairs : pairs_of new (order new len) ≡ ps
  pub size : length new ≡ length old

-- a list around one of its places
pub split-at : (xs : List ℕ) (i q : ℕ) → slice_get xs i ≡ Some q
    → (front : List ℕ) × (back : List ℕ) × (xs ≡ front ++ q ∷ back) × (length front ≡ i)
split-at [] i q e = cc
split-at (x ∷ xs) zero q e = ([], xs, ap (λ k. k ∷ xs) (some-same x q e), refl)
split-at (x ∷ xs) (suc i) q e =
    let more = split-at xs i q e in
    (x ∷ more.0, more.1, ap (λ l. x ∷ l) more.2, ap (λ k. suc k) more.3)

module _ (nodes : List Node) (free len : ℕ) (l : IsLinked nodes free len) where
  abbrev xs : List ℕ
  xs = order nodes len

  abbrev pairs : List (NodeId × Span)
  pairs = pairs_of nodes xs

  -- a chain has as many places as its length says
  pub order-length : length xs ≡ len
  order-length = run-length nodes (next_of nodes 0) len

  -- and as many pairs
  pub pairs-length : length pairs ≡ len
  pairs-length =
      let pair : ℕ → NodeId × Span = λ p. (named p, span_of nodes p) in
      length-map xs pair ∙ order-length

  split : (r : ℕ) → times r (xs ++ unused_places nodes free len) ≡ times r xs + times r (unused_places nodes free len)
  split r = times-append r xs (unused_places nodes free len)

  -- each place is in the chain once
  pub order-once : (r : ℕ) → times r xs ≤ 1
  order-once r = omega (arith, l.stands.once r, split r)

  -- the ends are no place of the chain
  pub order-no_end : times 0 xs ≡ 0
  order-no_end = omega (arith, l.stands.no_end, split 0)

  -- the places of the chain lie in the block
  pub order-inside : (i q : ℕ) → slice_get xs i ≡ Some q → q < length nodes
  order-inside i q e = Stands-inside nodes free xs (unused_places nodes free len) l.stands q (omega (arith, times-listed xs i q e, split q))

  -- what callers are told of a chain
  pub is_chain : IsChain pairs (length nodes - 1)
  is_chain = record {
    distinct = λ id i j at_i at_j. once-index xs i j id.0 (order-once id.0) (id-place nodes xs i id at_i) (id-place nodes xs j id at_j);
    few = omega (arith, pairs-length, l.few);
    some = omega (arith, l.some);
    small = omega (arith, l.small);
  }

  -- another span at a place
  pub set-Changed : (i q : ℕ) (s : Span) → slice_get xs i ≡ Some q → Changed nodes (with_span q s nodes) free len (slice_set pairs i (named q, s))
  set-Changed i q s e =
      let new = with_span q s nodes in let q_in = order-inside i q e in
      let size : length new ≡ length nodes = length-set nodes q (record (node_at nodes q) { span = s }) in
      let kept : (p n : ℕ) → run new p n ≡ run nodes p n = λ p n. run-kept nodes new p n (λ r there. span-next nodes q q_in s r) in
      let same_order : order new len ≡ xs = ap (λ k. run new k len) (span-next nodes q q_in s 0) ∙ kept (next_of nodes 0) len in
      let same_unused : unused_places new free len ≡ unused_places nodes free len =
      ap (λ k. run new free (k - (len + 1))) size ∙ kept free (length nodes - (len + 1)) in
      let st : Stands new free xs (unused_places nodes free len) = record {
        linked = linked-kept nodes new 0 xs 0 (λ r there. span-next nodes q q_in s r) (λ r there. span-prev nodes q q_in s r) l.stands.linked;
        behind = kept free (length (unused_places nodes free len)) ∙ l.stands.behind;
        once = l.stands.once;
        no_end = l.stands.no_end;
        inside = λ p le. l.stands.inside p (subst (λ k. k ≤ p) size le);
      } in
      let st' : Stands new free (order new len) (unused_places new free len) =
      subst (λ ys. Stands new free ys (unused_places new free len)) (sym same_order) (subst (λ gs. Stands new free xs gs) (sym same_unused) st) in
      record {
        linked = record { stands = st'; few = omega (arith, l.few, size); some = omega (arith, l.some, size); small = omega (arith, l.small, size) };
        pairs = ap (pairs_of new) same_order ∙ pairs-set nodes q s q_in xs i e (order-once q);
        size = size;
      }

  -- where an unused place is left
  module _ (room : len + 1 < length nodes) where
    abbrev fs : List ℕ
    fs = run nodes (next_of nodes free) (length nodes - (len + 2))

    unused-is : unused_places nodes free len ≡ free ∷ fs
    unused-is = let more : length nodes - (len + 1) ≡ suc (length nodes - (len + 2)) = omega (arith, room) in ap (λ k. run nodes free k) more

    pub room-Stands : Stands nodes free xs (free ∷ fs)
    room-Stands = subst (λ gs. Stands nodes free xs gs) unused-is l.stands

    fs-length : length fs ≡ length nodes - (len + 2)
    fs-length = run-length nodes (next_of nodes free) (length nodes - (len + 2))

    pub free-inside : free < length nodes
    free-inside = Stands-inside nodes free xs (free ∷ fs) room-Stands free (omega (arith, times-append free xs (free ∷ fs), times-here free fs))

    -- the unused place is none of the chain
    pub free-fresh : IsListed pairs (named free) → ⊥
    free-fresh listed =
        let there = times-listed xs listed.0 free (id-place nodes xs listed.0 (named free) listed.1) in
        omega (arith, room-Stands.once free, times-append free xs (free ∷ fs), times-here free fs, there)

    module _ (i q : ℕ) (s : Span) (e : slice_get xs i ≡ Some q) where
      abbrev around : (front : List ℕ) × (back : List ℕ) × (xs ≡ front ++ q ∷ back) × (length front ≡ i)
      around = split-at xs i q e

      abbrev st : Stands nodes free (around.0 ++ q ∷ around.1) (free ∷ fs)
      st = subst (λ ys. Stands nodes free ys (free ∷ fs)) around.2 room-Stands

      -- the place before a place of the chain lies in the block
      pub before-inside : prev_of nodes q < length nodes
      before-inside = before-within nodes free q s around.0 around.1 fs l.some st

      -- a span goes before that at an index
      pub insert-Changed : Changed nodes (joined free q s nodes) (next_of nodes free) (len + 1) (insert pairs i (named free, s))
      insert-Changed =
          let front = around.0 in let back = around.1 in let new = joined free q s nodes in
          let size = (before-Joins nodes free q s front back fs l.some st).size in
          let was : length (front ++ q ∷ back) ≡ len = ap length (sym around.2) ∙ order-length in
          let long : length (front ++ free ∷ q ∷ back) ≡ len + 1 =
          omega (arith, was, length-append front (q ∷ back), length-append front (free ∷ q ∷ back)) in
          let all : length (front ++ free ∷ q ∷ back) + length fs + 1 ≡ length new = omega (arith, long, fs-length, size, room) in
          let kept = IsLinked-of new (next_of nodes free) (len + 1) (front ++ free ∷ q ∷ back) fs
          (before-Stands nodes free q s front back fs l.some st) long all (omega (arith, l.some, size)) (omega (arith, l.small, size)) in
          record {
            linked = kept.0;
            pairs = ap (pairs_of new) kept.1 ∙ before-pairs nodes free q s front back fs l.some st
                ∙ (λ j. insert (pairs_of nodes (sym around.2 j)) (around.3 j) (named free, s));
            size = size;
          }

    -- the last place lies in the block
    pub last-inside : Span → prev_of nodes 0 < length nodes
    last-inside s = last-within nodes free s xs fs l.some room-Stands

    -- a span goes behind the others
    pub push-Changed : (s : Span) → Changed nodes (joined free 0 s nodes) (next_of nodes free) (len + 1) (pairs ++ (named free, s) ∷ [])
    push-Changed s =
        let new = joined free 0 s nodes in
        let size = (last-Joins nodes free s xs fs l.some room-Stands).size in
        let long : length (xs ++ free ∷ []) ≡ len + 1 = omega (arith, order-length, length-append xs (free ∷ [])) in
        let all : length (xs ++ free ∷ []) + length fs + 1 ≡ length new = omega (arith, long, fs-length, size, room) in
        let kept = IsLinked-of new (next_of nodes free) (len + 1) (xs ++ free ∷ []) fs
        (last-Stands nodes free s xs fs l.some room-Stands) long all (omega (arith, l.some, size)) (omega (arith, l.small, size)) in
        record {
          linked = kept.0;
          pairs = ap (pairs_of new) kept.1 ∙ last-pairs nodes free s xs fs l.some room-Stands;
          size = size;
        }

-- the first of a chain of one more is taken out
module _ (nodes : List Node) (free len : ℕ) (l : IsLinked nodes free (suc len)) where
  abbrev f : ℕ
  f = next_of nodes 0

  abbrev rest : List ℕ
  rest = run nodes (next_of nodes f) len

  abbrev gs : List ℕ
  gs = unused_places nodes free (suc len)

  -- the first place lies in the block
  pub first-inside : f < length nodes
  first-inside = f_within nodes f free rest gs l.some l.stands

  -- so does the place after it
  pub second-inside : next_of nodes f < length nodes
  second-inside = g_within nodes f free rest gs l.some l.stands

  -- the first span is taken out
  pub pop-Changed : Changed nodes (parted free nodes) f len (drop 1 (pairs_of nodes (order nodes (suc len))))
  pop-Changed =
      let new = parted free nodes in
      let size = (front-Parts nodes f free rest gs l.some l.stands).size in
      let long : length rest ≡ len = run-length nodes (next_of nodes f) len in
      let unused : length gs ≡ length nodes - (suc len + 1) = run-length nodes free (length nodes - (suc len + 1)) in
      let all : length rest + length (f ∷ gs) + 1 ≡ length new = omega (arith, long, unused, size, l.few) in
      let kept = IsLinked-of new f len rest (f ∷ gs) (front-Stands nodes f free rest gs l.some l.stands) long all (omega (arith, l.some, size)) (omega (arith, l.small, size)) in
      record {
        linked = kept.0;
        pairs = ap (pairs_of new) kept.1 ∙ front-pairs nodes f free rest gs l.some l.stands;
        size = size;
      }

-- the place of a listed id
pub listed-place : (nodes : List Node) (len : ℕ) (ps : List (NodeId × Span)) → pairs_of nodes (order nodes len) ≡ ps
    → (i : ℕ) (id : NodeId) → id_at ps i ≡ Some id → slice_get (order nodes len) i ≡ Some id.0
listed-place nodes len ps was i id e =
    id-place nodes (order nodes len) i id (subst (λ qs. id_at qs i ≡ Some id) (sym was) e)

module _ {laps : Laps} (nodes : List Node) (free len : ℕ) (l : IsLinked nodes free len) (v : Chained)
    (is : record { pairs = pairs_of nodes (order nodes len); capacity = length nodes - 1; laps = laps } ≡ v) where
  -- a chain with room has an unused place
  pub has_room : length v.pairs < v.capacity → len + 1 < length nodes
  has_room room =
      let was = ap (λ (c : Chained). length c.pairs) is in let size = ap (λ (c : Chained). c.capacity) is in
      omega (arith, room, was, size, pairs-length nodes free len l, l.some)

  -- a chain that is not empty has a node more than one fewer
  pub has_some : 0 < length v.pairs → len ≡ suc (len - 1)
  has_some some =
      let was = ap (λ (c : Chained). length c.pairs) is in
      omega (arith, some, was, pairs-length nodes free len l)
