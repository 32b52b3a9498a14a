-- Where tasks are left and none is next, some task is on a loop.
use Rattle.std.proofs.Common.{◌≡◌, ℕ, zero, suc, ◌+◌, ◌<◌, ◌≤◌, true, false, not, ◌&&◌, eqb, List, [], ◌∷◌, length, Some, None, refl, sym, inl, inr, ⊎_elim, arith}
use Rattle.std.specs.Prelude.{is_some}
use Rattle.std.specs.List.{list_any, list_all, range_with_len, IsDistinct}
use Rattle.std.proofs.lemmas.Bool.{and_cases, not-false, both_ways, cases_Bool, eq-eqb}
use Rattle.std.proofs.lemmas.Map.Steps.{le-length_from_below}
use Rattle.slot_core.specs.declared.tasks.Task.{Task}
use Rattle.slot_core.specs.Offline.Precedence.{comes_after, predecessors, leads_to, is_on_loop}
use Rattle.slot_facts.proofs.Lists.Members.{Has, Has-filter_passes, Has-range_with_len, Has-range_with_len_bounds, list_any-from_Has, passes_from_list_all}
use Rattle.slot_facts.proofs.Offline.Chains.{leads_to_push}
use Rattle.slot_facts.proofs.Sets.Faults.{find-None}
use Rattle.window_derive.specs.Orders.{is_listed, next_task, first_on_loop}
use Rattle.slot_facts.proofs.Lists.Tests.{fails-from_list_all, equal-from_Has, Has-from_equal}
use Rattle.window_derive.proofs.OrderLemmas.{IsDistinct-cons, below_cons, length-le_from_below}

-- a task that is not listed
record IsLeft (tasks : List Task) (listed : List ℕ) (t : ℕ) : Type 0 where
  within : t < length tasks
  unlisted : is_listed listed t ≡ false

-- where no task is next, one that is left has a predecessor that is left
left_before : (tasks : List Task) (listed : List ℕ) (t : ℕ) → next_task tasks listed ≡ None → IsLeft tasks listed t → (p : ℕ) × (comes_after tasks t p ≡ true) × IsLeft tasks listed p
left_before tasks listed t none left =
    let listed_range = Has-range_with_len 0 (length tasks) t (omega arith) (omega (arith, left.within)) in
    let fails = find-None (λ u. not (is_listed listed u) && list_all (is_listed listed) (predecessors tasks u)) (range_with_len 0 (length tasks)) t none listed_range in
    let waits : list_all (is_listed listed) (predecessors tasks t) ≡ false =
    elim (and_cases (not (is_listed listed t)) (list_all (is_listed listed) (predecessors tasks t)) fails) [
      | inl a ↦ absurd (both_ways (is_listed listed t) left.unlisted (not-false (is_listed listed t) a))
      | inr b ↦ b
    ] in
    let r = fails-from_list_all (is_listed listed) (predecessors tasks t) waits in
    let p = Has-filter_passes (comes_after tasks t) (range_with_len 0 (length tasks)) r.0 r.1 in
    let bounds = Has-range_with_len_bounds 0 (length tasks) r.0 p.0 in
    (r.0, p.1, record { within = omega (arith, bounds.1); unlisted = r.2 })

-- each task of the list comes after the one before it, which stands behind it; the first is t
abbrev IsPath : List Task → ℕ → List ℕ → Type 0
IsPath tasks t [] = Unit
IsPath tasks t (u ∷ path) = (comes_after tasks u t ≡ true) × IsPath tasks u path

-- each task of a path leads to its first
leads_along : (tasks : List Task) (t : ℕ) (path : List ℕ) (u : ℕ) → IsPath tasks t path → Has (t ∷ path) u → (k : ℕ) × (k ≤ length path) × (leads_to tasks k u t ≡ true)
leads_along tasks t path u goes (inl e) = (0, omega arith, eq-eqb u t (sym e))
leads_along tasks t [] u goes (inr h) = absurd h
leads_along tasks t (v ∷ path) u goes (inr h) =
    let r = leads_along tasks v path u goes.1 h in
    (suc r.0, omega (arith, r.1), leads_to_push tasks r.0 u v t r.2 goes.0)

-- a path of distinct tasks that are left grows until its next task is on it
module _ (tasks : List Task) (listed : List ℕ) (none : next_task tasks listed ≡ None) (loopless : (t : ℕ) → t < length tasks → is_on_loop tasks t ≡ false) where
  grows : (fuel t : ℕ) (path : List ℕ) → IsPath tasks t path → IsDistinct eqb (t ∷ path) → ((u : ℕ) → Has (t ∷ path) u → u < length tasks) → IsLeft tasks listed t → fuel + length path ≡ length tasks → ⊥
  grows zero t path goes distinct below left long =
      let short = length-le_from_below (t ∷ path) (length tasks) distinct below in
      absurd (omega arith)
  grows (suc fuel) t path goes distinct below left long =
      let p = left_before tasks listed t none left in
      let again = λ (found : list_any (λ y. eqb y p.0) (t ∷ path) ≡ true).
      let k = leads_along tasks t path p.0 goes (Has-from_equal (t ∷ path) p.0 found) in
      let short = length-le_from_below (t ∷ path) (length tasks) distinct below in
      let back = leads_to_push tasks k.0 p.0 t p.0 k.2 p.1 in
      let in_range = Has-range_with_len 1 (length tasks) (suc k.0) (omega arith) (omega (arith, k.1)) in
      both_ways (is_on_loop tasks p.0) (loopless p.0 p.2.within) (list_any-from_Has (λ n. leads_to tasks n p.0 p.0) (range_with_len 1 (length tasks)) (suc k.0) in_range back) in
      let on = λ (no : list_any (λ y. eqb y p.0) (t ∷ path) ≡ false).
      let fresh = λ (h : Has (t ∷ path) p.0). both_ways (list_any (λ y. eqb y p.0) (t ∷ path)) no (equal-from_Has (t ∷ path) p.0 h) in
      let below_more = below_cons (t ∷ path) (length tasks) p.0 p.2.within below in
      grows fuel p.0 (t ∷ path) (p.1, goes) (IsDistinct-cons (t ∷ path) p.0 fresh distinct) below_more p.2 (omega arith) in
      ⊎_elim again on (cases_Bool (list_any (λ y. eqb y p.0) (t ∷ path)))

-- fewer listed tasks than there are leave one
some_left : (tasks : List Task) (listed : List ℕ) → length listed < length tasks → (t : ℕ) × IsLeft tasks listed t
some_left tasks listed short =
    let range = range_with_len 0 (length tasks) in
    let all_listed = λ (all : list_all (is_listed listed) range ≡ true).
    let each = λ (q : ℕ) (below : q < length tasks).
    let at = passes_from_list_all (is_listed listed) range q all (Has-range_with_len 0 (length tasks) q (omega arith) (omega arith)) in
    list_any-from_Has (eqb q) listed q (Has-from_equal listed q at) (eq-eqb q q refl) in
    let long = le-length_from_below listed (length tasks) each in
    let none : ⊥ = omega arith in
    none in
    elim (cases_Bool (list_all (is_listed listed) range)) [
      | inl all ↦ absurd (all_listed all)
      | inr some ↦
          let r = fails-from_list_all (is_listed listed) range some in
          let bounds = Has-range_with_len_bounds 0 (length tasks) r.0 r.1 in
          (r.0, record { within = omega (arith, bounds.1); unlisted = r.2 })
    ]

pub loop-from_stuck : (tasks : List Task) (listed : List ℕ) → length listed < length tasks → next_task tasks listed ≡ None → is_some (first_on_loop tasks) ≡ true
unfolding IsDistinct
loop-from_stuck tasks listed short none =
    let left = some_left tasks listed short in
    let stuck = λ (no_loop : first_on_loop tasks ≡ None).
    let loopless = λ (t : ℕ) (below : t < length tasks).
    find-None (is_on_loop tasks) (range_with_len 0 (length tasks)) t no_loop (Has-range_with_len 0 (length tasks) t (omega arith) (omega arith)) in
    let below = below_cons [] (length tasks) left.0 left.1.within (λ u h. absurd h) in
    grows tasks listed none loopless (length tasks) left.0 [] tt (tt, tt) below left.1 (omega arith) in
    elim (first_on_loop tasks) as (λ o. first_on_loop tasks ≡ o → is_some o ≡ true) [
      | None ↦ λ e. absurd (stuck e)
      | Some t ↦ λ e. refl
    ] refl
