-- Lists that are made item by item.
use Rattle.std.proofs.Common.{◌≡◌, ℕ, ◌+◌, ◌<◌, Bool, true, List, [], ◌∷◌, ◌++◌, append_assoc, get_or, length, map, take, sym, ap, ◌∙◌}
use Rattle.std.specs.Prelude.{filter, flat_map}
use Rattle.std.specs.List.{list_all, range_with_len}
use Rattle.std.proofs.lemmas.Bool.{true_from_ne_false, false≢true}
use Rattle.std.proofs.lemmas.List.{flat_map_more, map_more, take_more}
use Rattle.std.proofs.lemmas.List.Elements.{filter-append}
use Rattle.std.proofs.lemmas.List.Folds.{list_all_at}
use Rattle.slot_facts.proofs.Lists.RangeFilters.{range-more}

-- a list and one item more
take-more : {X : Type 0} (xs : List X) (i : ℕ) (x : X) → i < length xs → x ≡ get_or xs i x → take (i + 1) xs ≡ take i xs ++ x ∷ []
take-more xs i x inside is = take_more xs i x inside ∙ ap (λ y. take i xs ++ y ∷ []) (sym is)

-- what f makes of the items so far and of one more
pub flat_map-step : {X Y : Type 0} (f : X → List Y) (before old new : List Y) (xs : List X) (i : ℕ) (x : X) → i < length xs → x ≡ get_or xs i x → old ≡ before ++ flat_map f (take i xs) → new ≡ old ++ f x → new ≡ before ++ flat_map f (take (i + 1) xs)
flat_map-step f before old new xs i x inside is so_far grown =
    grown
    ∙ ap (λ ys. ys ++ f x) so_far
    ∙ flat_map_more f before (take i xs) x
    ∙ ap (λ ys. before ++ flat_map f ys) (sym (take-more xs i x inside is))

-- one item of each
pub map-step : {X Y : Type 0} (f : X → Y) (before old new : List Y) (xs : List X) (i : ℕ) (x : X) → i < length xs → x ≡ get_or xs i x → old ≡ before ++ map f (take i xs) → new ≡ old ++ f x ∷ [] → new ≡ before ++ map f (take (i + 1) xs)
map-step f before old new xs i x inside is so_far grown =
    grown
    ∙ ap (λ ys. ys ++ f x ∷ []) so_far
    ∙ append_assoc before (map f (take i xs)) (f x ∷ [])
    ∙ ap (λ ys. before ++ ys) (sym (map_more f xs i x inside ∙ ap (λ y. map f (take i xs) ++ f y ∷ []) (sym is)))

-- those that pass a test
pub filter-step : {X : Type 0} (p : X → Bool) (before old new : List X) (xs : List X) (i : ℕ) (x : X) → i < length xs → x ≡ get_or xs i x → old ≡ before ++ filter p (take i xs) → new ≡ old ++ filter p (x ∷ []) → new ≡ before ++ filter p (take (i + 1) xs)
filter-step p before old new xs i x inside is so_far grown =
    grown
    ∙ ap (λ ys. ys ++ filter p (x ∷ [])) so_far
    ∙ append_assoc before (filter p (take i xs)) (filter p (x ∷ []))
    ∙ ap (λ ys. before ++ ys) (sym (ap (filter p) (take-more xs i x inside is) ∙ filter-append p (take i xs) (x ∷ [])))

-- what f makes of the numbers so far and of one more
pub range-step : {Y : Type 0} (f : ℕ → List Y) (before old new : List Y) (n : ℕ) → old ≡ before ++ flat_map f (range_with_len 0 n) → new ≡ old ++ f n → new ≡ before ++ flat_map f (range_with_len 0 (n + 1))
range-step f before old new n so_far grown =
    grown
    ∙ ap (λ ys. ys ++ f n) so_far
    ∙ flat_map_more f before (range_with_len 0 n) n
    ∙ ap (λ ys. before ++ flat_map f ys) (sym (range-more n))

-- a test that holds along a list holds at each item
pub list_all-at : {X : Type 0} (p : X → Bool) (xs : List X) (i : ℕ) (x : X) → i < length xs → x ≡ get_or xs i x → list_all p xs ≡ true → p x ≡ true
list_all-at p xs i x inside is all =
    ap p is
    ∙ true_from_ne_false (p (get_or xs i x)) (λ no. false≢true (sym (list_all_at p xs i x inside no) ∙ all))
