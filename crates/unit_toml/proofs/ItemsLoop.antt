-- A loop that takes the items of an array one by one.
use Rattle.std.proofs.Common.{◌≡◌, ◌<◌, ◌+◌, ℕ, List, [], ◌∷◌, ◌++◌, drop, get_or, length, Option, None, Some, option_map, append_assoc, ap, refl, sym, ◌∙◌}
use Rattle.toml.specs.declared.value.Value.{Value}
use Rattle.toml.specs.Data.{Items, item}
use Rattle.toml.specs.View.{view, items_view}
use Rattle.toml.proofs.Views.{items_view-drop}

-- what is taken first stands behind what was taken before
option_map-cons : {X : Type 0} (done : List X) (x : X) (rest : Option (List X)) → option_map (λ xs. done ++ xs) (option_map (λ xs. x ∷ xs) rest) ≡ option_map (λ xs. (done ++ x ∷ []) ++ xs) rest
option_map-cons done x None = refl
option_map-cons done x (Some xs) = ap Some (sym (append_assoc done (x ∷ []) xs))

-- one more item, at i, is taken
pub items-more : {X : Type 0} (all : Items → Option (List X)) (items : List Value) (i : ℕ) (value : Value) (done longer : List X) (x : X) → i < length items → value ≡ get_or items i value
    → ((rest : Items) → all (item (view value) rest) ≡ option_map (λ xs. x ∷ xs) (all rest)) → longer ≡ done ++ x ∷ []
    → all (items_view items) ≡ option_map (λ xs. done ++ xs) (all (items_view (drop i items))) → all (items_view items) ≡ option_map (λ xs. longer ++ xs) (all (items_view (drop (i + 1) items)))
items-more {X} all items i value done longer x within is taken pushed so_far =
    let left = items_view (drop (i + 1) items) in
    so_far
    ∙ ap (λ (rest : Items). option_map (λ xs. done ++ xs) (all rest)) (items_view-drop items i value within)
    ∙ ap (λ (v : Value). option_map (λ xs. done ++ xs) (all (item (view v) left))) (sym is)
    ∙ ap (option_map (λ xs. done ++ xs)) (taken left)
    ∙ option_map-cons done x (all left)
    ∙ ap (λ (front : List X). option_map (λ xs. front ++ xs) (all left)) (sym pushed)
