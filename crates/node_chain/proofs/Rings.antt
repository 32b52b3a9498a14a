-- Places that are linked both ways, and runs of places.
use Rattle.std.proofs.Common.{◌≡◌, ℕ, zero, suc, ◌+◌, ◌-◌, ◌≤◌, ◌<◌, ◌^◌, List, [], ◌∷◌, ◌++◌, length, refl, sym, ap, subst, inl, inr, ◌∙◌, arith}
use Rattle.std.proofs.lemmas.Bool.{cases_lt}
use Rattle.node_chain.specs.declared.block.Node.{Node}
use Rattle.node_chain.specs.Links.{next_of, prev_of, run, order, unused_places, times, AreLinked, IsLinked, Stands}
use Rattle.node_chain.proofs.Counts.{times-here, times-there}

-- links stay where the places of a list keep theirs
module _ (old new : List Node) where
  pub linked-kept : (p : ℕ) (xs : List ℕ) (q : ℕ)
      → ((r : ℕ) → 1 ≤ times r (p ∷ xs) → next_of new r ≡ next_of old r)
      → ((r : ℕ) → 1 ≤ times r (xs ++ q ∷ []) → prev_of new r ≡ prev_of old r)
      → AreLinked old p xs q → AreLinked new p xs q
  linked-kept p [] q nexts prevs l = (nexts p (times-here p []) ∙ l.0, prevs q (times-here q []) ∙ l.1)
  linked-kept p (x ∷ xs) q nexts prevs l =
      let more = linked-kept x xs q (λ r i. nexts r (times-there r p (x ∷ xs) i)) (λ r i. prevs r (times-there r x (xs ++ q ∷ []) i)) l.2 in
      (nexts p (times-here p (x ∷ xs)) ∙ l.0, prevs x (times-here x (xs ++ q ∷ [])) ∙ l.1, more)

  -- a run of places stays where they keep their links
  pub run-kept : (p n : ℕ) → ((r : ℕ) → 1 ≤ times r (run old p n) → next_of new r ≡ next_of old r) → run new p n ≡ run old p n
  run-kept p zero nexts = refl
  run-kept p (suc n) nexts =
      let rest = run old (next_of old p) n in
      ap (λ k. p ∷ run new k n) (nexts p (times-here p rest))
      ∙ ap (λ l. p ∷ l) (run-kept (next_of old p) n (λ r i. nexts r (times-there r p rest i)))

module _ (nodes : List Node) where
  -- two linked lists with a common place are one
  pub linked-append : (p : ℕ) (xs : List ℕ) (q : ℕ) (ys : List ℕ) (r : ℕ)
      → AreLinked nodes p xs q → AreLinked nodes q ys r → AreLinked nodes p (xs ++ q ∷ ys) r
  linked-append p [] q ys r l m = (l.0, l.1, m)
  linked-append p (x ∷ xs) q ys r l m = (l.0, l.1, linked-append x xs q ys r l.2 m)

  -- a linked list falls apart at a place
  pub linked-apart : (p : ℕ) (xs : List ℕ) (q : ℕ) (ys : List ℕ) (r : ℕ)
      → AreLinked nodes p (xs ++ q ∷ ys) r → AreLinked nodes p xs q × AreLinked nodes q ys r
  linked-apart p [] q ys r l = ((l.0, l.1), l.2)
  linked-apart p (x ∷ xs) q ys r l =
      let more = linked-apart x xs q ys r l.2 in
      ((l.0, l.1, more.0), more.1)

  -- linked places are the run behind where they begin
  pub linked-run : (p : ℕ) (xs : List ℕ) (q : ℕ) → AreLinked nodes p xs q → run nodes (next_of nodes p) (length xs) ≡ xs
  linked-run p [] q l = refl
  linked-run p (x ∷ xs) q l =
      ap (λ k. k ∷ run nodes (next_of nodes k) (length xs)) l.0 ∙ ap (λ t. x ∷ t) (linked-run x xs q l.2)

  -- the place before the end of a list is in it, or where it begins
  pub last-in : (p : ℕ) (xs : List ℕ) (q : ℕ) → AreLinked nodes p xs q → 1 ≤ times (prev_of nodes q) (p ∷ xs)
  last-in p [] q l = subst (λ k. 1 ≤ times k (p ∷ [])) (sym l.1) (times-here p [])
  last-in p (x ∷ xs) q l = times-there (prev_of nodes q) p (x ∷ xs) (last-in x xs q l.2)

  -- a run has as many places as it says
  pub run-length : (p n : ℕ) → length (run nodes p n) ≡ n
  run-length p zero = refl
  run-length p (suc n) = omega (arith, run-length (next_of nodes p) n)

-- a place of a chain lies inside the block
pub Stands-inside : (nodes : List Node) (free : ℕ) (xs fs : List ℕ) → Stands nodes free xs fs → (p : ℕ) → 1 ≤ times p (xs ++ fs) → p < length nodes
Stands-inside nodes free xs fs s p i = elim (cases_lt p (length nodes)) [
  | inl lt ↦ lt
  | inr le ↦ let none = s.inside p le in absurd (omega (arith, none, i))
]

-- a chain of some places, with the bounds of its block
pub IsLinked-of : (nodes : List Node) (free len : ℕ) (xs fs : List ℕ) → Stands nodes free xs fs
    → length xs ≡ len → length xs + length fs + 1 ≡ length nodes → 2 ≤ length nodes → length nodes ≤ 2 ^ 20 + 1
    → IsLinked nodes free len × (order nodes len ≡ xs)
IsLinked-of nodes free len xs fs s long all some small =
    let is_order : order nodes len ≡ xs = ap (λ k. order nodes k) (sym long) ∙ linked-run nodes 0 xs 0 s.linked in
    let left : length nodes - (len + 1) ≡ length fs = omega (arith, long, all) in
    let is_unused : unused_places nodes free len ≡ fs = ap (λ k. run nodes free k) left ∙ s.behind in
    let stands : Stands nodes free (order nodes len) (unused_places nodes free len) =
    subst (λ ys. Stands nodes free ys (unused_places nodes free len)) (sym is_order) (subst (λ gs. Stands nodes free xs gs) (sym is_unused) s) in
    (record { stands = stands; few = omega (arith, long, all); some = some; small = small }, is_order)
