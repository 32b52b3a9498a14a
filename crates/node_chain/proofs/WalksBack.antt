-- Walks back over spans that are raised.
use Rattle.std.proofs.Common.{◌≡◌, ℕ, zero, suc, ◌-◌, ◌≤◌, ◌<◌, ℤ, ◌≤ℤ◌, List, [], ◌∷◌, ◌++◌, append-nil, length, map, take, drop, get_or, slice_get, slice_set, true, Some, sym, ap, subst, ◌∙◌, arith, take-append-drop, inl, inr}
use Rattle.std.proofs.Math.Nat.{eq-or-lt_of_le}
use Rattle.std.proofs.lemmas.Int.{ints, clamps}
use Rattle.std.proofs.lemmas.List.{drop_all, take_all}
use Rattle.std.proofs.lemmas.Option.{get_or_from_slice_get, slice_get-get_or, slice_get-map}
use Rattle.std.specs.Int.{int_max}
use Rattle.std.specs.Option.{option_map}
use Rattle.slot_core.specs.declared.jobs.Span.{Span}
use Rattle.node_chain.specs.declared.block.Node.{Node}
use Rattle.node_chain.specs.declared.chain.NodeId.{NodeId}
use Rattle.node_chain.specs.declared.raises.Raise.{Raise}
use Rattle.node_chain.specs.Chains.{span_at}
use Rattle.node_chain.specs.Links.{order, span_of, with_span}
use Rattle.node_chain.specs.Nodes.{blank}
use Rattle.node_chain.specs.Orders.{ids_of}
use Rattle.node_chain.specs.Raises.{lifted_by, map_between, pair_lifted_by, passes_on, spare_after}
use Rattle.node_chain.proofs.Counts.{some-same}
use Rattle.node_chain.proofs.Kept.{Changed, listed-place, order-inside, set-Changed}
use Rattle.node_chain.proofs.Pairs.{place-span}

-- what is read of an item
pub map-at : {X Y : Type 0} (g : X → Y) (xs : List X) (k : ℕ) (x : X) → slice_get xs k ≡ Some x → slice_get (map g xs) k ≡ Some (g x)
map-at g xs k x e = slice_get-map g xs k ∙ ap (option_map g) e

-- the pair at an index, by its id
pub pair-at : (pairs : List (NodeId × Span)) (ids : List NodeId) (k : ℕ) → ids ≡ ids_of pairs → k < length pairs
    → slice_get pairs k ≡ Some (get_or ids k (record { 0 = 0 }), (get_or pairs k (record { 0 = 0 }, blank)).1)
pair-at pairs ids k are within =
    let p = get_or pairs k (record { 0 = 0 }, blank) in
    let here : slice_get pairs k ≡ Some p = slice_get-get_or pairs k (record { 0 = 0 }, blank) within in
    let there : slice_get ids k ≡ Some p.0 = ap (λ ns. slice_get ns k) are ∙ map-at (λ (q : NodeId × Span). q.0) pairs k p here in
    here ∙ ap (λ (n : NodeId). Some (n, p.1)) (sym (get_or_from_slice_get ids k p.0 (record { 0 = 0 }) there))

module _ {X : Type 0} (f : X → X) where
  -- no items are changed between an index and itself
  pub between-none : (n : ℕ) (xs : List X) → map_between f n n xs ≡ xs
  between-none n xs =
      let none : n - n ≡ 0 = omega arith in
      ap (λ k. take n xs ++ map f (take k (drop n xs)) ++ drop n xs) none
      ∙ ap (λ ys. ys ++ drop n xs) (append-nil (take n xs)) ∙ take-append-drop n xs

  between-past : (low high : ℕ) (x : X) (xs : List X) → map_between f (suc low) (suc high) (x ∷ xs) ≡ x ∷ map_between f low high xs
  between-past low high x xs =
      let same : suc high - suc low ≡ high - low = omega arith in
      ap (λ k. x ∷ take low xs ++ map f (take k (drop low xs)) ++ drop high xs) same

  between-first : (high : ℕ) (x : X) (xs : List X) → map_between f 0 (suc high) (x ∷ xs) ≡ f x ∷ map_between f 0 high xs
  between-first high x xs =
      let same : suc high - 0 ≡ suc (high - 0) = omega arith in
      ap (λ k. map f (take k (x ∷ xs)) ++ drop high xs) same

  between-empty : (low high : ℕ) → map_between f low high [] ≡ []
  between-empty low high =
      let front : take low [] ≡ [] = take_all {A = X} low [] (omega arith) in
      let back : (n : ℕ) → drop {A = X} n [] ≡ [] = λ n. drop_all n [] (omega arith) in
      (λ i. front i ++ map f (take (high - low) (back low i)) ++ back high i) ∙ ap (λ ys. map f ys ++ []) (take_all (high - low) [] (omega arith))

  -- the item before those that are changed is as it was
  pub between-before : (k high : ℕ) (xs : List X) (x : X) → k < high → slice_get xs k ≡ Some x → slice_get (map_between f (suc k) high xs) k ≡ Some x
  between-before k high [] x below e = cc
  between-before k zero (y ∷ ys) x below e = absurd (omega (arith, below))
  between-before zero (suc high) (y ∷ ys) x below e = e
  between-before (suc k) (suc high) (y ∷ ys) x below e =
      ap (λ zs. slice_get zs (suc k)) (between-past (suc k) high y ys) ∙ between-before k high ys x (omega (arith, below)) e

  -- and is changed next
  pub between-next : (k high : ℕ) (xs : List X) (x : X) → k < high → slice_get xs k ≡ Some x
      → slice_set (map_between f (suc k) high xs) k (f x) ≡ map_between f k high xs
  between-next k high [] x below e = cc
  between-next k zero (y ∷ ys) x below e = absurd (omega (arith, below))
  between-next zero (suc high) (y ∷ ys) x below e =
      ap (λ zs. slice_set zs 0 (f x)) (between-past 0 high y ys)
      ∙ ap (λ z. f z ∷ map_between f 0 high ys) (sym (some-same y x e)) ∙ sym (between-first high y ys)
  between-next (suc k) (suc high) (y ∷ ys) x below e =
      ap (λ zs. slice_set zs (suc k) (f x)) (between-past (suc k) high y ys)
      ∙ ap (λ zs. y ∷ zs) (between-next k high ys x (omega (arith, below)) e) ∙ sym (between-past k high y ys)

  -- what a change keeps of each item
  pub between-kept : {Y : Type 0} (g : X → Y) → ((x : X) → g (f x) ≡ g x) → (low high : ℕ) (xs : List X) → low ≤ high → map g (map_between f low high xs) ≡ map g xs
  between-kept g same low high [] le = ap (map g) (between-empty low high)
  between-kept g same zero zero (x ∷ xs) le = ap (map g) (between-none 0 (x ∷ xs))
  between-kept g same zero (suc high) (x ∷ xs) le =
      ap (map g) (between-first high x xs) ∙ (λ i. same x i ∷ between-kept g same zero high xs (omega arith) i)
  between-kept g same (suc low) zero (x ∷ xs) le = absurd (omega (arith, le))
  between-kept g same (suc low) (suc high) (x ∷ xs) le =
      ap (map g) (between-past low high x xs) ∙ ap (λ ys. g x ∷ ys) (between-kept g same low high xs (omega (arith, le)))

max-new : (old new high : ℤ) → high ≡ int_max old new → new ≤ℤ high
max-new old new high is = omega (arith, ints, clamps, is)

max-old : (old new high x : ℤ) → high ≡ int_max old new → x ≤ℤ old → x ≤ℤ high
max-old old new high x is le = omega (arith, ints, clamps, is, le)

module _ (raise : Raise) (spans : List Span) where
  -- the spans between two indexes pass on
  abbrev pub PassOn : ℕ → ℕ → Type 0
  PassOn low from = (i : ℕ) (s : Span) → low ≤ i → i < from → slice_get spans i ≡ Some s → passes_on raise s ≡ true

  -- no span between two indexes has more capacity than this afterwards
  abbrev pub AreUpTo : ℤ → ℕ → ℕ → Type 0
  AreUpTo high low from = (i : ℕ) (s : Span) → low ≤ i → i < from → slice_get spans i ≡ Some s → spare_after raise s ≤ℤ high

  -- so do they with one more that does
  pub PassOn-next : (k from : ℕ) (s : Span) → slice_get spans k ≡ Some s → passes_on raise s ≡ true → PassOn (suc k) from → PassOn k from
  PassOn-next k from s e passes more i t low below at = elim (eq-or-lt_of_le low) [
    | inl same ↦ ap (passes_on raise) (some-same t s (sym at ∙ ap (slice_get spans) (sym same) ∙ e)) ∙ passes
    | inr above ↦ more i t above below at
  ]

  -- the bound with one more is the greater of the two
  pub AreUpTo-next : (old high : ℤ) (k from : ℕ) (s : Span) → slice_get spans k ≡ Some s → high ≡ int_max old (spare_after raise s)
      → AreUpTo old (suc k) from → AreUpTo high k from
  AreUpTo-next old high k from s e is more i t low below at = elim (eq-or-lt_of_le low) [
    | inl same ↦ subst (λ (r : Span). spare_after raise r ≤ℤ high) (some-same s t (sym e ∙ ap (slice_get spans) same ∙ at)) (max-new old (spare_after raise s) high is)
    | inr above ↦ max-old old (spare_after raise s) high (spare_after raise t) is (more i t above below at)
  ]

-- a chain where the spans from one index up to another are raised, and the one before them is next
module _ (old nodes : List Node) (free len : ℕ) (more : ℤ) (k index high : ℕ) (pairs : List (NodeId × Span)) (ids : List NodeId)
    (next : index ≡ suc k) (within : index ≤ high) (few : high ≤ length pairs) (are : ids ≡ ids_of pairs)
    (was : Changed old nodes free len (map_between (pair_lifted_by more) index high pairs)) where
  abbrev id : NodeId
  id = get_or ids k (record { 0 = 0 })

  abbrev own : Span
  own = (get_or pairs k (record { 0 = 0 }, blank)).1

  abbrev now : List (NodeId × Span)
  now = map_between (pair_lifted_by more) index high pairs

  -- the pair of the next one
  pub next-pair : slice_get pairs k ≡ Some (id, own)
  next-pair = pair-at pairs ids k are (omega (arith, next, within, few))

  here : slice_get now k ≡ Some (id, own)
  here =
      ap (λ n. slice_get (map_between (pair_lifted_by more) n high pairs) k) next
      ∙ between-before (pair_lifted_by more) k high pairs (id, own) (omega (arith, next, within)) next-pair

  place : slice_get (order nodes len) k ≡ Some id.0
  place = listed-place nodes len now was.pairs k id (map-at (λ (q : NodeId × Span). q.0) now k (id, own) here)

  -- its span
  pub next-own : span_at pairs k ≡ Some own
  next-own = map-at (λ (q : NodeId × Span). q.1) pairs k (id, own) next-pair

  -- its node lies in the block
  pub next-inside : id.0 < length nodes
  next-inside = order-inside nodes free len was.linked k id.0 place

  -- its node has its span
  pub next-span : span_of nodes id.0 ≡ own
  next-span =
      some-same (span_of nodes id.0) own (sym (place-span nodes (order nodes len) k id.0 place) ∙ ap (λ ps. span_at ps k) was.pairs
      ∙ map-at (λ (q : NodeId × Span). q.1) now k (id, own) here)

  -- it is raised
  pub next-Changed : (s : Span) → s ≡ lifted_by more own → Changed old (with_span id.0 s nodes) free len (map_between (pair_lifted_by more) k high pairs)
  next-Changed s raised =
      let done = set-Changed nodes free len was.linked k id.0 s place in
      record {
        linked = done.linked;
        pairs = done.pairs ∙ (λ i. slice_set (was.pairs i) k (id, raised i))
            ∙ ap (λ n. slice_set (map_between (pair_lifted_by more) n high pairs) k (id, lifted_by more own)) next
            ∙ between-next (pair_lifted_by more) k high pairs (id, own) (omega (arith, next, within)) next-pair;
        size = done.size ∙ was.size;
      }
