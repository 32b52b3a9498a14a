-- Loops that append to a text or to a list.
use Rattle.std.proofs.Common.{◌≡◌, ◌+◌, ◌<◌, ◌≤◌, ℕ, suc, subst, List, [], ◌∷◌, ◌++◌, length, get_or, map, take, ap, sym, ◌∙◌, append-nil, arith, refl}
use Rattle.std.specs.Prelude.{flat_map}
use Rattle.std.specs.List.{range_with_len}
use Rattle.std.proofs.lemmas.Grind.{flat_map-append}
use Rattle.std.proofs.lemmas.List.{take_more, map-append}
use Rattle.graph_unroll.proofs.RangeLemmas.{range_with_len-push}
use Rattle.clock_units.specs.declared.sets.PhysicalGraph.{PhysicalGraph}
use Rattle.slot_lengths.specs.Lengths.{length_at, lengths_in}

range-step : (n : ℕ) → range_with_len 1 (n + 1) ≡ range_with_len 1 n ++ (1 + n) ∷ []
range-step n = let e : n + 1 ≡ suc n = omega arith in rw e (range_with_len-push 1 n)

-- what one more number of a range gives
pub range-more : {X : Type 0} (f : ℕ → List X) (so_far now : List X) (n p : ℕ) → 1 + n ≡ p → so_far ≡ flat_map f (range_with_len 1 n) → now ≡ so_far ++ f p → now ≡ flat_map f (range_with_len 1 (n + 1))
range-more f so_far now n p at before more =
    let one : flat_map f ((1 + n) ∷ []) ≡ f p = append-nil (f (1 + n)) ∙ ap f at in
    let all : flat_map f (range_with_len 1 (n + 1)) ≡ flat_map f (range_with_len 1 n) ++ f p = ap (flat_map f) (range-step n) ∙ flat_map-append f (range_with_len 1 n) ((1 + n) ∷ []) ∙ ap (λ l. flat_map f (range_with_len 1 n) ++ l) one in
    more ∙ ap (λ l. l ++ f p) before ∙ sym all

-- the line of one more item
pub lines-more : {X : Type 0} (f : X → List ℕ) (so_far now : List ℕ) (xs : List X) (i : ℕ) (x : X) → i < length xs → x ≡ get_or xs i x → so_far ≡ flat_map f (take i xs) → now ≡ so_far ++ f x → now ≡ flat_map f (take (i + 1) xs)
lines-more f so_far now xs i x low at before more =
    let one : flat_map f (get_or xs i x ∷ []) ≡ f x = append-nil (f (get_or xs i x)) ∙ ap f (sym at) in
    let all : flat_map f (take (i + 1) xs) ≡ flat_map f (take i xs) ++ f x = ap (flat_map f) (take_more xs i x low) ∙ flat_map-append f (take i xs) (get_or xs i x ∷ []) ∙ ap (λ l. flat_map f (take i xs) ++ l) one in
    more ∙ ap (λ l. l ++ f x) before ∙ sym all

-- the image of one more item
pub images-more : {X Y : Type 0} (f : X → Y) (so_far now : List Y) (xs : List X) (i : ℕ) (x : X) → i < length xs → x ≡ get_or xs i x → so_far ≡ map f (take i xs) → now ≡ so_far ++ f x ∷ [] → now ≡ map f (take (i + 1) xs)
images-more f so_far now xs i x low at before more =
    let all : map f (take (i + 1) xs) ≡ map f (take i xs) ++ f (get_or xs i x) ∷ [] = ap (map f) (take_more xs i x low) ∙ map-append f (take i xs) (get_or xs i x ∷ []) in
    let last : f (get_or xs i x) ∷ [] ≡ f x ∷ [] = ap (λ y. f y ∷ []) (sym at) in
    more ∙ ap (λ l. l ++ f x ∷ []) before ∙ sym (all ∙ ap (λ l. map f (take i xs) ++ l) last)

-- the lengths, taken one by one
pub lengths-of : (most from to : ℕ) (graphs : List PhysicalGraph) → flat_map (length_at from to graphs) (range_with_len 1 most) ≡ lengths_in most from to graphs
unfolding lengths_in
lengths-of most from to graphs = refl

-- the lengths, where all are taken
pub lengths-all : (from to : ℕ) (graphs : List PhysicalGraph) (taken : List ℕ) (n most : ℕ) → most ≤ n → n ≤ most → taken ≡ flat_map (length_at from to graphs) (range_with_len 1 n) → taken ≡ lengths_in most from to graphs
lengths-all from to graphs taken n most low high is =
    let e : n ≡ most = omega arith in
    subst (λ k. taken ≡ lengths_in k from to graphs) e (is ∙ lengths-of n from to graphs)
