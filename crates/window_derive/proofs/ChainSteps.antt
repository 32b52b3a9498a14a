-- The longest chains of a graph, by its entries.
use Rattle.std.proofs.Common.{◌≡◌, ℕ, zero, suc, ◌+◌, ◌*◌, ◌<◌, ◌≤◌, ◌⊎◌, max, true, false, cond, List, [], ◌∷◌, length, map, get_or, take, drop, Some, refl, ap, ◌∙◌, subst, inl, inr, arith}
use Rattle.std.specs.Prelude.{filter, fold, sum_by, slice_get}
use Rattle.std.specs.List.{range_with_len}
use Rattle.std.proofs.lemmas.Bool.{cases_lt, cases_order}
use Rattle.std.proofs.lemmas.Grind.{fold-append}
use Rattle.std.proofs.lemmas.List.{map_more}
use Rattle.std.proofs.lemmas.List.Sums.{sum_by-cons}
use Rattle.std.proofs.lemmas.Option.{slice_get-get_or}
use Rattle.slot_core.specs.declared.TheConstants.{SLOT_LIMIT, TASK_LIMIT}
use Rattle.slot_core.specs.declared.tasks.Task.{Task}
use Rattle.slot_core.specs.Offline.Precedence.{after_of, wcet_of, comes_after, predecessors, successors, chains, longest_before, longest_after, is_on_loop}
use Rattle.slot_facts.proofs.Lists.Members.{Has, Has-map, Has-map_cases, Has-flat_map, Has-flat_map_cases, Has-filter, Has-filter_passes, Has-range_with_len, Has-from_slice_get, fold_max-at, fold_max-le}
use Rattle.slot_facts.proofs.Offline.Chains.{HasNoLoop, longest_before-step, longest_after-step}
use Rattle.slot_facts.proofs.Offline.ChainRoom.{chain_room, sum_below}
use Rattle.slot_facts.proofs.Sets.Faults.{find-None}
use Rattle.window_derive.specs.Orders.{IsOrder}
use Rattle.window_derive.specs.Chains.{AreOrderable}
use Rattle.slot_facts.proofs.Lists.Tests.{equal-from_Has, Has-from_equal, place-from_Has, Has-from_place}
use Rattle.window_derive.proofs.LoopLemmas.{after_of-past}
use Rattle.window_derive.proofs.OrderLemmas.{IsNext-from_next_task}

-- only a task of the list has entries
pub has_entries : (tasks : List Task) (t p : ℕ) → comes_after tasks t p ≡ true → t < length tasks
has_entries tasks t p after =
    elim (cases_lt t (length tasks)) [
      | inl within ↦ within
      | inr past ↦
          let none : Has (after_of tasks t) p = Has-from_equal (after_of tasks t) p after in
          absurd (subst (λ xs. Has xs p) (after_of-past tasks t past) none)
    ]

-- orderable tasks are on no loop
pub HasNoLoop-from_orderable : (tasks : List Task) → AreOrderable tasks → HasNoLoop tasks
HasNoLoop-from_orderable tasks sound = record {
  loopless = λ t within.
      find-None (is_on_loop tasks) (range_with_len 0 (length tasks)) t sound.loopless (Has-range_with_len 0 (length tasks) t (omega arith) (omega arith));
  named = λ t p after. (has_entries tasks t p after, sound.named t p after);
}

-- a chain stays one where more tasks are allowed
chains_more : (step : ℕ → List ℕ) (n t : ℕ) (chain : List ℕ) → Has (chains step n t) chain → Has (chains step (suc n) t) chain
chains_more step zero t chain (inl e) = inl e
chains_more step zero t chain (inr h) = absurd h
chains_more step (suc n) t chain (inl e) = inl e
chains_more step (suc n) t chain (inr h) =
    let r = Has-flat_map_cases (λ q. map (λ rest. q ∷ rest) (chains step n q)) (step t) chain h in
    let m = Has-map_cases (λ rest. r.0 ∷ rest) (chains step n r.0) chain r.2 in
    let longer = Has-map (λ rest. r.0 ∷ rest) (chains step (suc n) r.0) m.0 (chains_more step n r.0 m.0 m.1) in
    let same : Has (map (λ rest. r.0 ∷ rest) (chains step (suc n) r.0)) chain = rw m.2 at longer in
    inr (Has-flat_map (λ q. map (λ rest. q ∷ rest) (chains step (suc n) q)) (step t) r.0 chain r.1 same)

-- a chain that is not empty has a next task, and a chain from there
record GoesOn (step : ℕ → List ℕ) (n t : ℕ) (chain : List ℕ) : Type 0 where
  next : ℕ
  rest : List ℕ
  steps : Has (step t) next
  goes : Has (chains step n next) rest
  is : next ∷ rest ≡ chain

chain_cases : (step : ℕ → List ℕ) (n t : ℕ) (chain : List ℕ) → Has (chains step n t) chain → ([] ≡ chain) ⊎ GoesOn step n t chain
chain_cases step zero t chain (inl e) = inl e
chain_cases step zero t chain (inr h) = absurd h
chain_cases step (suc n) t chain (inl e) = inl e
chain_cases step (suc n) t chain (inr h) =
    let r = Has-flat_map_cases (λ q. map (λ rest. q ∷ rest) (chains step n q)) (step t) chain h in
    let m = Has-map_cases (λ rest. r.0 ∷ rest) (chains step n r.0) chain r.2 in
    inr (record { next = r.0; rest = m.0; steps = r.1; goes = chains_more step n r.0 m.0 m.1; is = m.2 })

-- the greatest sum of a chain is no greater than what holds each next task and the greatest sum from it
greatest-le : (step : ℕ → List ℕ) (weight : ℕ → ℕ) (n t m : ℕ) → ((p : ℕ) → Has (step t) p → fold max 0 (map (sum_by weight) (chains step n p)) + weight p ≤ m) → fold max 0 (map (sum_by weight) (chains step n t)) ≤ m
greatest-le step weight n t m each =
    fold_max-le 0 m (map (sum_by weight) (chains step n t)) (omega arith) λ x at.
    let c = Has-map_cases (sum_by weight) (chains step n t) x at in
    elim (chain_cases step n t c.0 c.1) [
      | inl e ↦ let none : 0 ≡ x = ap (sum_by weight) e ∙ c.2 in omega arith
      | inr g ↦
          let sum : sum_by weight (g.next ∷ g.rest) ≡ x = ap (sum_by weight) g.is ∙ c.2 in
          let listed = Has-map (sum_by weight) (chains step n g.next) g.rest g.goes in
          omega (arith, each g.next g.steps, fold_max-at 0 (map (sum_by weight) (chains step n g.next)) (sum_by weight g.rest) listed, sum_by-cons weight g.next g.rest)
    ]

-- the longest chain before a task, by its entries
pub longest_before-by_entries : (tasks : List Task) (t : ℕ) → HasNoLoop tasks → fold max 0 (map (λ p. longest_before tasks p + wcet_of tasks p) (after_of tasks t)) ≡ longest_before tasks t
longest_before-by_entries tasks t sound =
    let f = λ (p : ℕ). longest_before tasks p + wcet_of tasks p in
    let entries = after_of tasks t in
    let m = fold max 0 (map f entries) in
    let up : longest_before tasks t ≤ m =
    greatest-le (predecessors tasks) (wcet_of tasks) (length tasks) t m λ p h.
    let after = (Has-filter_passes (comes_after tasks t) (range_with_len 0 (length tasks)) p h).1 in
    fold_max-at 0 (map f entries) (f p) (Has-map f entries p (Has-from_equal entries p after)) in
    let down : m ≤ longest_before tasks t =
    fold_max-le 0 (longest_before tasks t) (map f entries) (omega arith) λ x at.
    let c = Has-map_cases f entries x at in
    omega (arith, c.2, longest_before-step tasks t c.0 sound (equal-from_Has entries c.0 c.1)) in
    omega arith

-- the longest chain after a task that these tasks make
abbrev pub longest_by : List Task → List ℕ → ℕ → ℕ
longest_by tasks done t =
    fold max 0 (map (λ s. longest_after tasks s + wcet_of tasks s) (filter (λ s. comes_after tasks s t) done))

-- the longest chain after a task, by its successors
pub longest_after-by_successors : (tasks : List Task) (done : List ℕ) (t : ℕ) → HasNoLoop tasks → ((s : ℕ) → comes_after tasks s t ≡ true → Has done s) → longest_by tasks done t ≡ longest_after tasks t
longest_after-by_successors tasks done t sound all =
    let f = λ (s : ℕ). longest_after tasks s + wcet_of tasks s in
    let test = λ (s : ℕ). comes_after tasks s t in
    let m = longest_by tasks done t in
    let up : longest_after tasks t ≤ m =
    greatest-le (successors tasks) (wcet_of tasks) (length tasks) t m λ s h.
    let after = (Has-filter_passes test (range_with_len 0 (length tasks)) s h).1 in
    fold_max-at 0 (map f (filter test done)) (f s) (Has-map f (filter test done) s (Has-filter test done s (all s after) after)) in
    let down : m ≤ longest_after tasks t =
    fold_max-le 0 (longest_after tasks t) (map f (filter test done)) (omega arith) λ x at.
    let c = Has-map_cases f (filter test done) x at in
    let after = (Has-filter_passes test done c.0 c.1).1 in
    omega (arith, c.2, longest_after-step tasks c.0 t sound after) in
    omega arith

-- one task more before those that make chains
fold_max-from : (a : ℕ) (xs : List ℕ) → fold max a xs ≡ max (fold max 0 xs) a
fold_max-from a [] = omega arith
fold_max-from a (x ∷ xs) = omega (arith, fold_max-from (max a x) xs, fold_max-from (max 0 x) xs)

pub longest_by-cons : (tasks : List Task) (s : ℕ) (done : List ℕ) (t : ℕ) → longest_by tasks (s ∷ done) t ≡ cond (comes_after tasks s t) (max (longest_by tasks done t) (longest_after tasks s + wcet_of tasks s)) (longest_by tasks done t)
longest_by-cons tasks s done t =
    let f = λ (s : ℕ). longest_after tasks s + wcet_of tasks s in
    let rest = filter (λ s. comes_after tasks s t) done in
    let raised : fold max 0 (f s ∷ map f rest) ≡ max (fold max 0 (map f rest)) (f s) = omega (arith, fold_max-from (max 0 (f s)) (map f rest)) in
    elim (comes_after tasks s t) as (λ b. fold max 0 (map f (cond b (s ∷ rest) rest)) ≡ cond b (max (fold max 0 (map f rest)) (f s)) (fold max 0 (map f rest))) [
      | true ↦ raised
      | false ↦ refl
    ]

-- one entry more among those that the longest chain may end in
pub longest-push : (f : ℕ → ℕ) (xs : List ℕ) (i : ℕ) → i < length xs → fold max 0 (map f (take (i + 1) xs)) ≡ max (fold max 0 (map f (take i xs))) (f (get_or xs i 0))
longest-push f xs i within =
    ap (fold max 0) (map_more f xs i 0 within) ∙ fold-append max 0 (map f (take i xs)) (f (get_or xs i 0) ∷ [])

-- a chain takes few slots
sum_below-le : (f : ℕ → ℕ) (n : ℕ) → ((t : ℕ) → f t ≤ SLOT_LIMIT) → sum_below f n ≤ n * SLOT_LIMIT
sum_below-le f zero few = omega arith
sum_below-le f (suc n) few = omega (arith, few 0, sum_below-le (λ k. f (suc k)) n (λ k. few (suc k)))

pub chain_bound : (tasks : List Task) (t : ℕ) → AreOrderable tasks → t < length tasks → longest_before tasks t + wcet_of tasks t + longest_after tasks t ≤ TASK_LIMIT * SLOT_LIMIT
chain_bound tasks t sound within =
    omega (arith, sound.count, chain_room tasks t (HasNoLoop-from_orderable tasks sound) sound.some within, sum_below-le (wcet_of tasks) (length tasks) sound.few)

-- a task stands at one place of an order
one_place : (tasks : List Task) (order : List ℕ) (i j t : ℕ) → IsOrder tasks order → slice_get order i ≡ Some t → slice_get order j ≡ Some t → i < j → ⊥
one_place tasks order i j t is first second before =
    (IsNext-from_next_task tasks (take j order) t (is.each_next j t second)).fresh (Has-from_place order j i t before first)

-- the predecessors of a task stand before it in an order, and its successors after it
pub predecessors_before : (tasks : List Task) (order : List ℕ) (i t p : ℕ) → AreOrderable tasks → IsOrder tasks order → slice_get order i ≡ Some t → comes_after tasks t p ≡ true → Has (take i order) p
predecessors_before tasks order i t p sound is at after =
    (IsNext-from_next_task tasks (take i order) t (is.each_next i t at)).ready p (sound.named t p after) after

Has-from_later : {X : Type 0} (xs : List X) (i j : ℕ) (x : X) → i ≤ j → slice_get xs j ≡ Some x → Has (drop i xs) x
Has-from_later xs zero j x low at = Has-from_slice_get xs j x at
Has-from_later [] (suc i) j x low at = absurd (cc at)
Has-from_later (y ∷ xs) (suc i) zero x low at = absurd (omega arith)
Has-from_later (y ∷ xs) (suc i) (suc j) x low at = Has-from_later xs i j x (omega arith) at

pub successors_after : (tasks : List Task) (order : List ℕ) (i t s : ℕ) → AreOrderable tasks → IsOrder tasks order → slice_get order i ≡ Some t → comes_after tasks s t ≡ true → Has (drop (i + 1) order) s
successors_after tasks order i t s sound is at after =
    let place = is.all_listed s (has_entries tasks s t after) in
    let at_s : slice_get order place.0 ≡ Some s = slice_get-get_or order place.0 s place.1 ∙ ap Some place.2 in
    let before = place-from_Has order place.0 t (predecessors_before tasks order place.0 s t sound is at_s after) in
    let same : i ≡ before.0 =
    elim (cases_order i before.0) [
      | inl e ↦ e
      | inr apart ↦ elim apart [ inl low ↦ absurd (one_place tasks order i before.0 t is at before.2 low) | inr high ↦ absurd (one_place tasks order before.0 i t is before.2 at high) ]
    ] in
    Has-from_later order (i + 1) place.0 s (omega (arith, before.1)) at_s
