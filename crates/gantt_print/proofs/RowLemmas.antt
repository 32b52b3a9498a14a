-- Lists that are changed item by item, or grow by one.
use Rattle.std.proofs.Common.{◌≡◌, ℕ, ◌+◌, ◌<◌, List, [], ◌∷◌, ◌++◌, length, map, take, drop, set, get_or, refl, sym, ap, ap₂, ◌∙◌, zero-add, add-one, append_assoc}
use Rattle.std.specs.List.{enumerate_from, range_with_len}
use Rattle.std.proofs.lemmas.List.FromFn.{map-range_with_len_more}
use Rattle.slot_facts.proofs.Lists.Changed.{get_or-changed, set-changed}

-- one more item is changed
pub changed-more : {X : Type 0} (f : X → X) (xs now : List X) (i : ℕ) (x y : X) → i < length xs → now ≡ map f (take i xs) ++ drop i xs → x ≡ get_or now i x → y ≡ f x → set now i y ≡ map f (take (i + 1) xs) ++ drop (i + 1) xs
changed-more f xs now i x y low is read gives =
    let same : x ≡ get_or xs i x = read ∙ ap (λ ys. get_or ys i x) is ∙ get_or-changed f xs i x in
    ap₂ (λ ys z. set ys i z) is (gives ∙ ap f same) ∙ set-changed f xs i x low ∙ ap (λ n. map f (take n xs) ++ drop n xs) (sym (add-one i))

-- one more item at the end, that of the next number
pub appended-more : {X : Type 0} (f : ℕ → X) (before old new : List X) (n : ℕ) (x : X) → old ≡ before ++ map f (range_with_len 0 n) → new ≡ old ++ x ∷ [] → x ≡ f n → new ≡ before ++ map f (range_with_len 0 (n + 1))
appended-more f before old new n x is pushed at =
    pushed
    ∙ ap₂ (λ ys y. ys ++ y ∷ []) is at
    ∙ append_assoc before (map f (range_with_len 0 n)) (f n ∷ [])
    ∙ ap (λ ys. before ++ ys) (sym (map-range_with_len_more f 0 n n (zero-add n)))

-- what is made of the places of a list alone
pub map-places : {X Y : Type 0} (f : ℕ → Y) (xs : List X) (n : ℕ) → map f (range_with_len n (length xs)) ≡ map (λ (t : ℕ × X). f t.0) (enumerate_from n xs)
map-places f [] n = refl
map-places f (x ∷ xs) n = ap (λ ys. f n ∷ ys) (map-places f xs (n + 1))
