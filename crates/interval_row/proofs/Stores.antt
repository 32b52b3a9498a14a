-- What stays of a store, and the spans of a chain after a change of its pairs.
use Rattle.std.proofs.Common.{◌≡◌, ℕ, zero, suc, ◌-◌, List, [], ◌∷◌, ◌++◌, set, insert, map, take, drop, refl, sym, ap, ◌∙◌}
use Rattle.std.proofs.lemmas.List.{drop-map, map-append, map-set, take-map}
use Rattle.slot_core.specs.declared.jobs.Span.{Span}
use Rattle.node_chain.specs.declared.chain.NodeId.{NodeId}
use Rattle.node_chain.specs.Raises.{map_between}
use Rattle.interval_row.specs.Stores.{chain_spans, Keeps}

-- what stays through one change and then another stays through both
pub Keeps-both : {X N : Type 0} {room_of : X → ℕ} {numbers_of : X → N} {old next new : X} → Keeps room_of numbers_of old next → Keeps room_of numbers_of next new → Keeps room_of numbers_of old new
Keeps-both first second = record { room = second.room ∙ first.room; numbers = second.numbers ∙ first.numbers }

-- a pair that is set
pub chain_spans-set : (ps : List (NodeId × Span)) (i : ℕ) (p : NodeId × Span) → chain_spans (set ps i p) ≡ set (chain_spans ps) i p.1
chain_spans-set ps i p = map-set (λ (q : NodeId × Span). q.1) ps i p

-- an item that is put in, under a function of each
pub map-insert : {X Y : Type 0} (f : X → Y) (xs : List X) (i : ℕ) (x : X) → map f (insert xs i x) ≡ insert (map f xs) i (f x)
map-insert f [] zero x = refl
map-insert f [] (suc i) x = refl
map-insert f (y ∷ xs) zero x = refl
map-insert f (y ∷ xs) (suc i) x = ap (λ ys. f y ∷ ys) (map-insert f xs i x)

map-swap : {X Y : Type 0} (f : X → X) (h : Y → Y) (g : X → Y) → ((x : X) → g (f x) ≡ h (g x)) → (xs : List X) → map g (map f xs) ≡ map h (map g xs)
map-swap f h g same [] = refl
map-swap f h g same (x ∷ xs) = λ i. same x i ∷ map-swap f h g same xs i

-- what is read of items, some of which are changed
pub map-between : {X Y : Type 0} (f : X → X) (h : Y → Y) (g : X → Y) → ((x : X) → g (f x) ≡ h (g x)) → (low high : ℕ) (xs : List X)
    → map g (map_between f low high xs) ≡ map_between h low high (map g xs)
map-between f h g same low high xs =
    let some = take (high - low) (drop low xs) in
    let front = sym (take-map g low xs) in
    let back = sym (drop-map g high xs) in
    let middle = map-swap f h g same some ∙ ap (map h) (sym (take-map g (high - low) (drop low xs)) ∙ ap (take (high - low)) (sym (drop-map g low xs))) in
    map-append g (take low xs ++ map f some) (drop high xs)
    ∙ ap (λ ys. ys ++ map g (drop high xs)) (map-append g (take low xs) (map f some))
    ∙ (λ i. front i ++ middle i ++ back i)
