-- Orders of tasks in which predecessors go first.
use Rattle.std.proofs.Common.{◌≡◌, ℕ, zero, suc, ◌+◌, ◌<◌, ◌≤◌, Bool, true, false, not, ◌&&◌, ◌||◌, eqb, List, [], ◌∷◌, ◌++◌, length, take, set, Some, None, refl, sym, ap, ◌∙◌, inl, inr, ⊎_elim, arith}
use Rattle.std.specs.Prelude.{slice_get}
use Rattle.std.specs.List.{list_any, list_all, range_with_len, IsDistinct}
use Rattle.std.proofs.lemmas.Bool.{and_parts, not-true, both_ways, false_from_ne_true, cases_Bool, cases_eq, eqb-true, ne_eqb}
use Rattle.std.proofs.lemmas.Cmp.{nat_eq_equiv}
use Rattle.std.proofs.lemmas.List.{take-append-le, take_at}
use Rattle.std.proofs.lemmas.List.Folds.{list_any-append}
use Rattle.std.proofs.lemmas.Map.Keys.{IsDistinct-push}
use Rattle.std.proofs.lemmas.Map.Steps.{length-le_from_distinct_below}
use Rattle.std.proofs.lemmas.Option.{slice_get-get_or}
use Rattle.slot_core.specs.declared.tasks.Task.{Task}
use Rattle.slot_core.specs.Offline.Precedence.{after_of, comes_after, predecessors, leads_to, is_on_loop}
use Rattle.slot_facts.proofs.Lists.Members.{Has, Contains-from_Has, Has-append_cases, Has-append_right, Has-filter, Has-filter_passes, Has-range_with_len, Has-range_with_len_bounds, Has-from_list_any, passes_from_list_all, AllByRecursion-from_Has}
use Rattle.window_derive.specs.Orders.{IsOrder, is_listed, next_task, first_on_loop}
use Rattle.window_derive.specs.Marks.{is_marked, next_by}
use Rattle.slot_facts.proofs.Lists.Tests.{same_tests, list_all-same, list_all-from_Has, find-Some, find-same, None-from_fails, equal-from_Has, Has-from_equal, slice_get-push, place-from_Has, Has-from_place}
use Rattle.window_derive.proofs.LoopLemmas.{IsNamed, marked_same, marked_other}

-- at each place the next task after those before it, each of them once
pub record IsOrdered (tasks : List Task) (order : List ℕ) : Type 0 where
  pub each_next : (i t : ℕ) → slice_get order i ≡ Some t → next_task tasks (take i order) ≡ Some t
  pub distinct : IsDistinct eqb order
  pub below : (t : ℕ) → Has order t → t < length tasks

pub IsOrdered-nil : (tasks : List Task) → IsOrdered tasks []
unfolding IsDistinct
IsOrdered-nil tasks = record {
  each_next = λ i t h. absurd (cc h);
  distinct = tt;
  below = λ t h. absurd h;
}

-- what the next task is
pub record IsNext (tasks : List Task) (listed : List ℕ) (t : ℕ) : Type 0 where
  pub within : t < length tasks
  pub fresh : Has listed t → ⊥
  pub ready : (p : ℕ) → p < length tasks → comes_after tasks t p ≡ true → Has listed p

pub IsNext-from_next_task : (tasks : List Task) (listed : List ℕ) (t : ℕ) → next_task tasks listed ≡ Some t → IsNext tasks listed t
IsNext-from_next_task tasks listed t next =
    let found = find-Some (λ u. not (is_listed listed u) && list_all (is_listed listed) (predecessors tasks u)) (range_with_len 0 (length tasks)) t next in
    let parts = and_parts (not (is_listed listed t)) (list_all (is_listed listed) (predecessors tasks t)) found.1 in
    let bounds = Has-range_with_len_bounds 0 (length tasks) t found.0 in
    record {
      within = omega (arith, bounds.1);
      fresh = λ h. both_ways (is_listed listed t) (not-true (is_listed listed t) parts.0) (equal-from_Has listed t h);
      ready = λ p below after.
          Has-from_equal listed p (passes_from_list_all (is_listed listed) (predecessors tasks t) p parts.1 (Has-filter (comes_after tasks t) (range_with_len 0 (length tasks)) p (Has-range_with_len 0 (length tasks) p (omega arith) (omega arith)) after));
    }

-- a number that a list of numbers does not hold
apart : (xs : List ℕ) (t : ℕ) → (Has xs t → ⊥) → list_any (eqb t) xs ≡ false
apart xs t fresh =
    false_from_ne_true (list_any (eqb t) xs) λ h.
    let r = Has-from_list_any (eqb t) xs h in
    fresh (rw (eqb-true t r.0 r.2) r.1)

pub IsDistinct-cons : (xs : List ℕ) (t : ℕ) → (Has xs t → ⊥) → IsDistinct eqb xs → IsDistinct eqb (t ∷ xs)
unfolding IsDistinct
IsDistinct-cons xs t fresh distinct =
    (AllByRecursion-from_Has (λ y. eqb t y ≡ false) xs (λ y h. false_from_ne_true (eqb t y) (λ e. fresh (rw (eqb-true t y e) h))), distinct)

-- one number more below n
pub below_cons : (xs : List ℕ) (n t : ℕ) → t < n → ((x : ℕ) → Has xs x → x < n) → (x : ℕ) → Has (t ∷ xs) x → x < n
below_cons xs n t within below x (inl e) = omega arith
below_cons xs n t within below x (inr h) = below x h

-- distinct numbers below n are at most n
pub length-le_from_below : (xs : List ℕ) (n : ℕ) → IsDistinct eqb xs → ((x : ℕ) → Has xs x → x < n) → length xs ≤ n
length-le_from_below xs n distinct below =
    length-le_from_distinct_below xs n distinct λ q h.
    let r = Has-from_list_any (eqb q) xs h in
    rw (eqb-true q r.0 r.2) (below r.0 r.1)

pub IsOrdered-push : (tasks : List Task) (order : List ℕ) (t : ℕ) → IsOrdered tasks order → next_task tasks order ≡ Some t → IsOrdered tasks (order ++ t ∷ [])
IsOrdered-push tasks order t ordered next =
    let is = IsNext-from_next_task tasks order t next in
    record {
      each_next = λ i x h.
          elim (slice_get-push order t x i h) [
            | inl a ↦ ap (next_task tasks) (take-append-le i order (t ∷ []) (omega (arith, a.0))) ∙ ordered.each_next i x a.1
            | inr b ↦ ap (next_task tasks) (take_at order (t ∷ []) i (sym b.0)) ∙ next ∙ ap Some (sym b.1)
          ];
      distinct = IsDistinct-push nat_eq_equiv order t ordered.distinct (apart order t is.fresh);
      below = λ x h.
          elim (Has-append_cases order (t ∷ []) x h) [
            | inl a ↦ ordered.below x a
            | inr b ↦ elim b [ inl e ↦ let within = is.within in omega arith | inr none ↦ absurd none ]
          ];
    }

pub IsOrder-from_ordered : (tasks : List Task) (order : List ℕ) → IsOrdered tasks order → length order ≡ length tasks → IsOrder tasks order
IsOrder-from_ordered tasks order ordered long = record {
  places = long;
  all_listed = λ t within.
      let missing = λ (no : is_listed order t ≡ false).
      let fresh = λ (h : Has order t). both_ways (is_listed order t) no (equal-from_Has order t h) in
      let below = below_cons order (length tasks) t within ordered.below in
      let short = length-le_from_below (t ∷ order) (length tasks) (IsDistinct-cons order t fresh ordered.distinct) below in
      absurd (omega arith) in
      Contains-from_Has order t (⊎_elim (λ yes. Has-from_equal order t yes) missing (cases_Bool (is_listed order t)));
  each_next = ordered.each_next;
}

-- a test of the predecessors of a task is one of its entries
pub list_all-predecessors : (tasks : List Task) (test : ℕ → Bool) (t : ℕ) → IsNamed tasks → list_all test (predecessors tasks t) ≡ list_all test (after_of tasks t)
list_all-predecessors tasks test t named =
    same_tests (list_all test (predecessors tasks t)) (list_all test (after_of tasks t))
    (λ all. list_all-from_Has test (after_of tasks t) λ p h.
    let after = equal-from_Has (after_of tasks t) p h in
    passes_from_list_all test (predecessors tasks t) p all (Has-filter (comes_after tasks t) (range_with_len 0 (length tasks)) p (Has-range_with_len 0 (length tasks) p (omega arith) (omega (arith, named t p after))) after))
    (λ all. list_all-from_Has test (predecessors tasks t) λ p h.
    passes_from_list_all test (after_of tasks t) p all (Has-from_equal (after_of tasks t) p (Has-filter_passes (comes_after tasks t) (range_with_len 0 (length tasks)) p h).1))

-- marks of the listed tasks give the same next task
pub next_task-from_marks : (tasks : List Task) (marks : List Bool) (order : List ℕ) → ((t : ℕ) → is_marked marks t ≡ is_listed order t) → next_by tasks marks ≡ next_task tasks order
next_task-from_marks tasks marks order same =
    find-same
    (λ t. not (is_marked marks t) && list_all (is_marked marks) (predecessors tasks t))
    (λ t. not (is_listed order t) && list_all (is_listed order) (predecessors tasks t))
    (range_with_len 0 (length tasks))
    λ t h.
    ap (λ b. not b && list_all (is_marked marks) (predecessors tasks t)) (same t) ∙ ap (λ b. not (is_listed order t) && b) (list_all-same (is_marked marks) (is_listed order) (predecessors tasks t) same)

-- a path of `after` entries goes down in an order
down : (tasks : List Task) (order : List ℕ) → IsNamed tasks → IsOrder tasks order → (k a b i : ℕ) → slice_get order i ≡ Some a → leads_to tasks k a b ≡ true → (j : ℕ) × (slice_get order j ≡ Some b) × (j + k ≤ i)
down tasks order named is zero a b i at leads = (i, at ∙ ap Some (eqb-true a b leads), omega arith)
down tasks order named is (suc k) a b i at leads =
    let r = Has-from_list_any (λ p. leads_to tasks k p b) (after_of tasks a) leads in
    let after : comes_after tasks a r.0 ≡ true = equal-from_Has (after_of tasks a) r.0 r.1 in
    let next = IsNext-from_next_task tasks (take i order) a (is.each_next i a at) in
    let place = place-from_Has order i r.0 (next.ready r.0 (named a r.0 after) after) in
    let more = down tasks order named is k r.0 b place.0 place.2 r.2 in
    (more.0, more.1, omega (arith, more.2, place.1))

-- no task of an order is on a loop
pub loopless-from_order : (tasks : List Task) (order : List ℕ) → IsNamed tasks → IsOrder tasks order → first_on_loop tasks ≡ None
loopless-from_order tasks order named is =
    None-from_fails (is_on_loop tasks) (range_with_len 0 (length tasks)) λ t listed.
    false_from_ne_true (is_on_loop tasks t) λ loop.
    let bounds = Has-range_with_len_bounds 0 (length tasks) t listed in
    let k = Has-from_list_any (λ n. leads_to tasks n t t) (range_with_len 1 (length tasks)) loop in
    let some = Has-range_with_len_bounds 1 (length tasks) k.0 k.1 in
    let place = is.all_listed t (omega (arith, bounds.1)) in
    let at : slice_get order place.0 ≡ Some t = slice_get-get_or order place.0 t place.1 ∙ ap Some place.2 in
    let before = down tasks order named is k.0 t t place.0 at k.2 in
    let next = IsNext-from_next_task tasks (take place.0 order) t (is.each_next place.0 t at) in
    next.fresh (Has-from_place order place.0 before.0 t (omega (arith, before.2, some.0)) before.1)

-- one task more is listed and marked
pub marked-push : (placed : List Bool) (order : List ℕ) (t : ℕ) → t < length placed → ((u : ℕ) → is_marked placed u ≡ is_listed order u) → (u : ℕ) → is_marked (set placed t true) u ≡ is_listed (order ++ t ∷ []) u
marked-push placed order t within same u =
    ⊎_elim
    (λ (e : u ≡ t).
    let at : is_listed (order ++ t ∷ []) t ≡ true = equal-from_Has (order ++ t ∷ []) t (Has-append_right order (t ∷ []) t (inl refl)) in
    ap (is_marked (set placed t true)) e ∙ marked_same placed t true within ∙ sym at ∙ sym (ap (is_listed (order ++ t ∷ [])) e))
    (λ (other : u ≡ t → ⊥).
    let none : (eqb t u || false) ≡ false = ap (λ b. b || false) (ne_eqb t u (λ e. other (sym e))) in
    marked_other placed t u true other ∙ same u ∙ sym (list_any-append (λ l. eqb l u) order (t ∷ []) ∙ ap (λ b. is_listed order u || b) none ∙ or_false (is_listed order u)))
    (cases_eq u t)
  where
    or_false : (b : Bool) → (b || false) ≡ b
    or_false true = refl
    or_false false = refl
