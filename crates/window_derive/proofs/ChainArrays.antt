-- One step along an order, where the longest chains are counted.
use Rattle.std.proofs.Common.{◌≡◌, ℕ, zero, suc, ◌+◌, ◌*◌, ◌<◌, ◌≤◌, max, cond, List, [], ◌∷◌, length, map, get_or, set, take, drop, replicate, refl, sym, ap, ◌∙◌, subst, inl, inr, arith}
use Rattle.std.specs.Prelude.{fold, slice_index}
use Rattle.std.proofs.lemmas.Bool.{cases_eq}
use Rattle.std.proofs.lemmas.List.{take_more, take_all, drop_more, drop_all, get_or-set_same, get_or-set_other}
use Rattle.std.proofs.lemmas.Option.{slice_get-get_or}
use Rattle.slot_core.specs.declared.TheConstants.{SLOT_LIMIT, TASK_LIMIT}
use Rattle.slot_core.specs.declared.tasks.Task.{Task}
use Rattle.slot_core.specs.Offline.Precedence.{after_of, wcet_of, comes_after, longest_before, longest_after}
use Rattle.slot_facts.proofs.Lists.Members.{Has, Has-append_cases, Has-from_Contains}
use Rattle.window_derive.specs.Orders.{IsOrder}
use Rattle.window_derive.specs.Chains.{AreOrderable, AreChainsBefore, AreChainsAfter}
use Rattle.slot_facts.proofs.Lists.Tests.{equal-from_Has}
use Rattle.window_derive.proofs.ChainSteps.{HasNoLoop-from_orderable, has_entries, longest_before-by_entries, longest_after-by_successors, longest_by, longest_by-cons, chain_bound, predecessors_before, successors_after}
use Rattle.window_derive.proofs.OrderLemmas.{IsNext-from_next_task}

-- zeros
pub slice_index-zeros : (n t : ℕ) → slice_index (replicate n 0) t ≡ 0
slice_index-zeros zero t = refl
slice_index-zeros (suc n) zero = refl
slice_index-zeros (suc n) (suc t) = slice_index-zeros n t

-- a task of an order is one of the list
pub place_within : (tasks : List Task) (order : List ℕ) (i : ℕ) → IsOrder tasks order → i < length order → get_or order i 0 < length tasks
place_within tasks order i is within =
    (IsNext-from_next_task tasks (take i order) (get_or order i 0) (is.each_next i (get_or order i 0) (slice_get-get_or order i 0 within))).within

-- two functions that agree on a list
map-same : (f g : ℕ → ℕ) (xs : List ℕ) → ((x : ℕ) → Has xs x → f x ≡ g x) → map f xs ≡ map g xs
map-same f g [] same = refl
map-same f g (x ∷ xs) same =
    ap (λ y. y ∷ map f xs) (same x (inl refl)) ∙ ap (λ ys. g x ∷ ys) (map-same f g xs (λ y h. same y (inr h)))

-- the longest chains before the first tasks of an order, and small numbers at the others
pub record AreBefore (tasks : List Task) (first before : List ℕ) : Type 0 where
  pub done : (t : ℕ) → Has first t → slice_index before t ≡ longest_before tasks t
  pub small : (t : ℕ) → slice_index before t ≤ TASK_LIMIT * SLOT_LIMIT

pub AreBefore-none : (tasks : List Task) (n : ℕ) → AreBefore tasks [] (replicate n 0)
AreBefore-none tasks n = record {
  done = λ t h. absurd h;
  small = λ t. let none = slice_index-zeros n t in omega arith;
}

pub AreBefore-more : (tasks : List Task) (order before : List ℕ) (i v : ℕ) → AreOrderable tasks → IsOrder tasks order → i < length order → length tasks ≤ length before → AreBefore tasks (take i order) before → v ≡ fold max 0 (map (λ p. slice_index before p + wcet_of tasks p) (after_of tasks (get_or order i 0))) → AreBefore tasks (take (i + 1) order) (set before (get_or order i 0) v)
AreBefore-more tasks order before i v sound is within long so_far e =
    let t = get_or order i 0 in
    let at = slice_get-get_or order i 0 within in
    let below = place_within tasks order i is within in
    let same = map-same (λ p. slice_index before p + wcet_of tasks p) (λ p. longest_before tasks p + wcet_of tasks p) (after_of tasks t) λ p h.
    ap (λ n. n + wcet_of tasks p) (so_far.done p (predecessors_before tasks order i t p sound is at (equal-from_Has (after_of tasks t) p h))) in
    let value : v ≡ longest_before tasks t = e ∙ ap (fold max 0) same ∙ longest_before-by_entries tasks t (HasNoLoop-from_orderable tasks sound) in
    let here : slice_index (set before t v) t ≡ v = get_or-set_same before t v 0 (omega arith) in
    record {
      done = λ u h.
          elim (cases_eq u t) [
            | inl e ↦ ap (slice_index (set before t v)) e ∙ here ∙ value ∙ sym (ap (longest_before tasks) e)
            | inr other ↦
                let old : Has (take i order) u =
                elim (Has-append_cases (take i order) (t ∷ []) u (subst (λ xs. Has xs u) (take_more order i 0 within) h)) [
                  | inl a ↦ a
                  | inr b ↦ elim b [ inl e ↦ absurd (other (sym e)) | inr none ↦ absurd none ]
                ] in
                get_or-set_other before t u v 0 other ∙ so_far.done u old
          ];
      small = λ u.
          elim (cases_eq u t) [
            | inl e ↦
                let at_u : slice_index (set before t v) u ≡ v = ap (slice_index (set before t v)) e ∙ here in
                omega (arith, chain_bound tasks t sound below)
            | inr other ↦
                let at_u : slice_index (set before t v) u ≡ slice_index before u = get_or-set_other before t u v 0 other in
                omega (arith, so_far.small u)
          ];
    }

pub AreChainsBefore-from_all : (tasks : List Task) (order before : List ℕ) (i : ℕ) → IsOrder tasks order → length order ≤ i → AreBefore tasks (take i order) before → AreChainsBefore tasks before
AreChainsBefore-from_all tasks order before i is all so_far = record {
  at = λ t within.
      so_far.done t (rw (take_all i order all) (Has-from_Contains order t (is.all_listed t within)));
}

-- the longest chain after a task whose successors are counted
pub longest_by-place : (tasks : List Task) (order : List ℕ) (i p : ℕ) → AreOrderable tasks → IsOrder tasks order → p + 1 ≡ i → p < length order → longest_by tasks (drop i order) (get_or order p 0) ≡ longest_after tasks (get_or order p 0)
longest_by-place tasks order i p sound is next within =
    let t = get_or order p 0 in
    longest_after-by_successors tasks (drop i order) t (HasNoLoop-from_orderable tasks sound) λ s after.
    subst (λ k. Has (drop k order) s) next (successors_after tasks order p t s sound is (slice_get-get_or order p 0 within) after)

pub longest_by-small : (tasks : List Task) (order : List ℕ) (i p : ℕ) → AreOrderable tasks → IsOrder tasks order → p + 1 ≡ i → p < length order → longest_by tasks (drop i order) (get_or order p 0) ≤ TASK_LIMIT * SLOT_LIMIT
longest_by-small tasks order i p sound is next within =
    omega (arith, longest_by-place tasks order i p sound is next within, chain_bound tasks (get_or order p 0) sound (place_within tasks order p is within))

-- one task more is counted
pub longest_by-more : (tasks : List Task) (order after new : List ℕ) (i p u : ℕ) → AreOrderable tasks → IsOrder tasks order → p + 1 ≡ i → p < length order → ((t : ℕ) → slice_index after t ≡ longest_by tasks (drop i order) t) → slice_index new u ≡ cond (comes_after tasks (get_or order p 0) u) (max (slice_index after u) (slice_index after (get_or order p 0) + wcet_of tasks (get_or order p 0))) (slice_index after u) → slice_index new u ≡ longest_by tasks (drop p order) u
longest_by-more tasks order after new i p u sound is next within counted raised =
    let t = get_or order p 0 in
    let done = drop i order in
    let value : slice_index after t ≡ longest_after tasks t = counted t ∙ longest_by-place tasks order i p sound is next within in
    let list : drop p order ≡ t ∷ done = drop_more order p 0 within ∙ ap (λ k. t ∷ drop k order) next in
    raised ∙ ap (λ n. cond (comes_after tasks t u) (max n (slice_index after t + wcet_of tasks t)) n) (counted u) ∙ ap (λ n. cond (comes_after tasks t u) (max (longest_by tasks done u) (n + wcet_of tasks t)) (longest_by tasks done u)) value ∙ sym (longest_by-cons tasks t done u) ∙ sym (ap (λ xs. longest_by tasks xs u) list)

pub longest_by-none : (tasks : List Task) (order : List ℕ) (n t : ℕ) → slice_index (replicate n 0) t ≡ longest_by tasks (drop (length order) order) t
longest_by-none tasks order n t =
    slice_index-zeros n t ∙ sym (ap (λ xs. longest_by tasks xs t) (drop_all (length order) order (omega arith)))

pub AreChainsAfter-from_all : (tasks : List Task) (order after : List ℕ) (i : ℕ) → AreOrderable tasks → IsOrder tasks order → i ≡ 0 → ((t : ℕ) → slice_index after t ≡ longest_by tasks (drop i order) t) → AreChainsAfter tasks after
AreChainsAfter-from_all tasks order after i sound is none counted = record {
  at = λ t within.
      counted t ∙ ap (λ k. longest_by tasks (drop k order) t) none ∙ longest_after-by_successors tasks order t (HasNoLoop-from_orderable tasks sound) (λ s after. Has-from_Contains order s (is.all_listed s (has_entries tasks s t after)));
}
