-- A span is put before a place of a chain, or behind all of them.
use Rattle.std.proofs.Common.{◌≡◌, ℕ, ◌+◌, ◌≤◌, ◌<◌, ◌⊎◌, List, [], ◌∷◌, ◌++◌, length, refl, sym, subst, inl, inr, ◌∙◌, arith, append_assoc, append-nil}
use Rattle.std.specs.Prelude.{insert}
use Rattle.std.proofs.lemmas.List.{map-append}
use Rattle.slot_core.specs.declared.jobs.Span.{Span}
use Rattle.node_chain.specs.declared.block.Node.{Node}
use Rattle.node_chain.specs.declared.chain.NodeId.{NodeId}
use Rattle.node_chain.specs.Links.{next_of, prev_of, span_of, joined, times, AreLinked, Stands}
use Rattle.node_chain.specs.Chains.{pairs_of}
use Rattle.node_chain.proofs.Counts.{times-head, times-here, times-append, times-cases, times-after, not_in}
use Rattle.node_chain.proofs.Pairs.{named, pairs-insert, pairs-kept}
use Rattle.node_chain.proofs.Rings.{linked-kept, linked-append, linked-apart, last-in, Stands-inside}
use Rattle.node_chain.proofs.Joins.{Joins, joined-Joins, Joins-front, Joins-Stands, Room, Room-of, unused_no_end, unused_once, front_apart, front_once, front_no_unused}

-- the first unused place x is joined before q, which is the end or a place of the tail
module _ (nodes : List Node) (x q : ℕ) (s : Span) (front tail fs : List ℕ) (some : 2 ≤ length nodes)
    (st : Stands nodes x (front ++ tail) (x ∷ fs)) (up_to : AreLinked nodes 0 front q) (at : (q ≡ 0) ⊎ (1 ≤ times q tail)) where
  abbrev room : Room nodes x front tail fs
  room = Room-of nodes x front tail fs st

  -- the place before q
  abbrev before : ℕ
  before = prev_of nodes q

  abbrev before_there : 1 ≤ times before (0 ∷ front)
  before_there = last-in nodes 0 front q up_to

  abbrev none : (times x front ≡ 0) × (times x tail ≡ 0) × (times x fs ≡ 0)
  none = unused_once nodes x front tail fs room

  abbrev new : List Node
  new = joined x q s nodes

  zero_inside : 0 < length nodes
  zero_inside = omega (arith, some)

  -- a place of the chain or the first unused one lies in the block
  inside : (r : ℕ) → 1 ≤ times r front + times r tail + times r (x ∷ fs) → r < length nodes
  inside r i =
      let sum = times-append r (front ++ tail) (x ∷ fs) in let sums = times-append r front tail in
      Stands-inside nodes x (front ++ tail) (x ∷ fs) st r (omega (arith, sum, sums, i))

  -- the place before q lies in the block
  pub put-inside : before < length nodes
  put-inside = elim (times-cases before 0 front before_there) [
    | inl at_end ↦ subst (λ k. k < length nodes) (sym at_end) zero_inside
    | inr among ↦ inside before (omega (arith, among))
  ]

  q_inside : q < length nodes
  q_inside = elim at [
    | inl at_end ↦ subst (λ k. k < length nodes) (sym at_end) zero_inside
    | inr among ↦ inside q (omega (arith, among))
  ]

  q_other : x ≡ q → ⊥
  q_other same = elim at [
    | inl at_end ↦ unused_no_end nodes x front tail fs room (same ∙ at_end)
    | inr among ↦ not_in x q tail none.1 among (sym same)
  ]

  front_no_q : times q front ≡ 0
  front_no_q = elim at [
    | inl at_end ↦
        let no_end : times 0 front ≡ 0 = omega (arith, room.no_end) in
        subst (λ k. times k front ≡ 0) (sym at_end) no_end
    | inr among ↦ omega (arith, room.once q, among)
  ]

  -- the join changes what it says and nothing else
  pub put-Joins : Joins nodes new x q before s
  put-Joins =
      joined-Joins nodes x q before s refl (inside x (omega (arith, times-here x fs))) q_inside put-inside q_other
      (λ same. not_in x before (0 ∷ front) (front_no_unused nodes x front tail fs room) before_there (sym same))

  -- x is linked behind the front
  pub put-front : AreLinked new 0 (front ++ x ∷ []) q
  put-front =
      Joins-front nodes new x q before s put-Joins refl 0 front up_to
      (front_once nodes x front tail fs room) (front_no_unused nodes x front tail fs room) front_no_q

  -- places of the tail name the same next place as before
  pub put-nexts : (r : ℕ) → 1 ≤ times r tail → next_of new r ≡ next_of nodes r
  put-nexts r i =
      put-Joins.nexts r (not_in x r tail none.1 i) (front_apart nodes x front tail fs room before r before_there (omega (arith, i)))

  -- the chain with x before the tail
  pub put-Stands : AreLinked new 0 (front ++ x ∷ tail) 0 → Stands new (next_of nodes x) (front ++ x ∷ tail) fs
  put-Stands linked = Joins-Stands nodes x q before s front tail fs new put-Joins st before_there linked

  -- the spans of the front and of the tail stay
  pub put-spans_front : (r : ℕ) → 1 ≤ times r front → span_of new r ≡ span_of nodes r
  put-spans_front r i = put-Joins.spans r (not_in x r front none.0 i)

  pub put-spans_tail : (r : ℕ) → 1 ≤ times r tail → span_of new r ≡ span_of nodes r
  put-spans_tail r i = put-Joins.spans r (not_in x r tail none.1 i)

-- before a place of the chain
module _ (nodes : List Node) (x q : ℕ) (s : Span) (front back fs : List ℕ) (some : 2 ≤ length nodes)
    (st : Stands nodes x (front ++ q ∷ back) (x ∷ fs)) where
  abbrev links : AreLinked nodes 0 front q × AreLinked nodes q back 0
  links = linked-apart nodes 0 front q back 0 st.linked

  abbrev there : (q ≡ 0) ⊎ (1 ≤ times q (q ∷ back))
  there = inr (times-here q back)

  abbrev with_it : List Node
  with_it = joined x q s nodes

  abbrev fits : Room nodes x front (q ∷ back) fs
  fits = Room-of nodes x front (q ∷ back) fs st

  -- the place before q lies in the block
  pub before-inside : prev_of nodes q < length nodes
  before-inside = put-inside nodes x q s front (q ∷ back) fs some st links.0 there

  -- the join before q
  pub before-Joins : Joins nodes with_it x q (prev_of nodes q) s
  before-Joins = put-Joins nodes x q s front (q ∷ back) fs some st links.0 there

  -- places after q name the same place before them as they did
  prevs : (r : ℕ) → 1 ≤ times r (back ++ 0 ∷ []) → prev_of with_it r ≡ prev_of nodes r
  prevs r i =
      let none = unused_once nodes x front (q ∷ back) fs fits in let head = times-head q back in
      let no_x : times x back ≡ 0 = omega (arith, none.1) in
      let no_q : times q back ≡ 0 = omega (arith, fits.once q, head) in
      let q_end : q ≡ 0 → ⊥ = λ same.
      let here : 1 ≤ times 0 (q ∷ back) = subst (λ k. 1 ≤ times k (q ∷ back)) same (times-here q back) in
      omega (arith, fits.no_end, here) in
      elim (times-after r 0 back i) [
        | inl among ↦ before-Joins.prevs r (not_in x r back no_x among) (not_in q r back no_q among)
        | inr at_end ↦ before-Joins.prevs r
            (λ same. unused_no_end nodes x front (q ∷ back) fs fits (sym same ∙ at_end)) (λ same. q_end (sym same ∙ at_end))
      ]

  linked : AreLinked with_it 0 (front ++ x ∷ q ∷ back) 0
  linked =
      let up_to = put-front nodes x q s front (q ∷ back) fs some st links.0 there in
      let on = linked-kept nodes with_it q back 0 (put-nexts nodes x q s front (q ∷ back) fs some st links.0 there) prevs links.1 in
      subst (λ l. AreLinked with_it 0 l 0) (append_assoc front (x ∷ []) (q ∷ back))
      (linked-append with_it 0 (front ++ x ∷ []) q back 0 up_to on)

  -- the chain with x before q
  pub before-Stands : Stands with_it (next_of nodes x) (front ++ x ∷ q ∷ back) fs
  before-Stands = put-Stands nodes x q s front (q ∷ back) fs some st links.0 there linked

  -- the pair of x goes before that of q
  pub before-pairs : pairs_of with_it (front ++ x ∷ q ∷ back) ≡ insert (pairs_of nodes (front ++ q ∷ back)) (length front) (named x, s)
  before-pairs =
      pairs-insert nodes with_it front (q ∷ back) x s before-Joins.span
      (put-spans_front nodes x q s front (q ∷ back) fs some st links.0 there) (put-spans_tail nodes x q s front (q ∷ back) fs some st links.0 there)

-- behind all places of the chain
module _ (nodes : List Node) (x : ℕ) (s : Span) (places fs : List ℕ) (some : 2 ≤ length nodes) (st : Stands nodes x places (x ∷ fs)) where
  abbrev all_front : Stands nodes x (places ++ []) (x ∷ fs)
  all_front = subst (λ l. Stands nodes x l (x ∷ fs)) (sym (append-nil places)) st

  abbrev with_last : List Node
  with_last = joined x 0 s nodes

  -- the last place lies in the block
  pub last-inside : prev_of nodes 0 < length nodes
  last-inside = put-inside nodes x 0 s places [] fs some all_front st.linked (inl refl)

  -- the join before the end
  pub last-Joins : Joins nodes with_last x 0 (prev_of nodes 0) s
  last-Joins = put-Joins nodes x 0 s places [] fs some all_front st.linked (inl refl)

  -- the chain with x behind its places
  pub last-Stands : Stands with_last (next_of nodes x) (places ++ x ∷ []) fs
  last-Stands =
      put-Stands nodes x 0 s places [] fs some all_front st.linked (inl refl)
      (put-front nodes x 0 s places [] fs some all_front st.linked (inl refl))

  -- the pair of x goes behind the others
  pub last-pairs : pairs_of with_last (places ++ x ∷ []) ≡ pairs_of nodes places ++ (named x, s) ∷ []
  last-pairs =
      let pair : ℕ → NodeId × Span = λ p. (named p, span_of with_last p) in
      let same = put-spans_front nodes x 0 s places [] fs some all_front st.linked (inl refl) in
      map-append pair places (x ∷ [])
      ∙ (λ i. pairs-kept nodes with_last places same i ++ (named x, last-Joins.span i) ∷ [])
