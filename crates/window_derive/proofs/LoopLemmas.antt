-- Marks of tasks, and paths along `after` entries.
use Rattle.std.proofs.Common.{◌≡◌, ℕ, zero, suc, ◌+◌, ◌<◌, ◌≤◌, Bool, true, false, not, ◌||◌, cond, ◌==◌, List, [], ◌∷◌, length, get_or, set, Option, Some, refl, sym, ap, ◌∙◌, ⊎_elim, add-one, arith}
use Rattle.std.specs.Prelude.{All, find}
use Rattle.std.specs.List.{list_any, list_all, range_with_len}
use Rattle.std.specs.Option.{option_map_or}
use Rattle.std.proofs.lemmas.Bool.{and_parts, not-true, cases_eq, eq-eqb, ne_eqb}
use Rattle.std.proofs.lemmas.List.{get_or-set_same, get_or-set_other}
use Rattle.std.proofs.lemmas.List.Elements.{Contains-get_or}
use Rattle.std.proofs.lemmas.Option.{slice_get-get_or, slice_get_past}
use Rattle.slot_core.specs.declared.tasks.Task.{Task}
use Rattle.slot_core.specs.Offline.Precedence.{after_of, wcet_of, comes_after, leads_to}
use Rattle.slot_facts.proofs.Lists.Members.{Has-from_Contains, list_any-from_Has}
use Rattle.slot_facts.proofs.Lists.Tests.{list_any-same}
use Rattle.window_derive.specs.Marks.{is_marked}

-- where no element is true, no task is marked
pub unmarked : (marks : List Bool) (t : ℕ) → list_all not marks ≡ true → is_marked marks t ≡ false
unmarked [] t none = refl
unmarked (m ∷ marks) zero none = not-true m (and_parts (not m) (list_all not marks) none).0
unmarked (m ∷ marks) (suc t) none = unmarked marks t (and_parts (not m) (list_all not marks) none).1

-- a mark that is written, and the others
pub marked_same : (marks : List Bool) (i : ℕ) (b : Bool) → i < length marks → is_marked (set marks i b) i ≡ b
marked_same marks i b within = get_or-set_same marks i b false within

pub marked_other : (marks : List Bool) (i t : ℕ) (b : Bool) → (t ≡ i → ⊥) → is_marked (set marks i b) t ≡ is_marked marks t
marked_other marks i t b apart = get_or-set_other marks i t b false apart

-- a task of the list has the entries of its place
pub after_of-at : (tasks : List Task) (i : ℕ) (d : Task) → i < length tasks → after_of tasks i ≡ (get_or tasks i d).after
after_of-at tasks i d within =
    ap (λ o. option_map_or (λ (t : Task). t.after) o []) (slice_get-get_or tasks i d within)

-- and its slots
pub wcet_of-at : (tasks : List Task) (i : ℕ) (task : Task) → i < length tasks → task ≡ get_or tasks i task → wcet_of tasks i ≡ task.wcet
wcet_of-at tasks i task within is =
    ap (λ o. option_map_or (λ (t : Task). t.wcet) o 0) (slice_get-get_or tasks i task within) ∙ ap (λ (t : Task). t.wcet) (sym is)

-- past the end there are none
pub after_of-past : (tasks : List Task) (i : ℕ) → length tasks ≤ i → after_of tasks i ≡ []
after_of-past tasks i past = ap (λ o. option_map_or (λ (t : Task). t.after) o []) (slice_get_past tasks i past)

-- each entry names a task of the list
abbrev pub IsNamed : List Task → Type 0
IsNamed tasks = (t p : ℕ) → comes_after tasks t p ≡ true → p < length tasks

pub entries_below : (tasks : List Task) (i n : ℕ) (entries : List ℕ) → IsNamed tasks → length tasks ≤ n → entries ≡ after_of tasks i → All (λ p. p < n) entries
entries_below tasks i n entries named count is =
    λ k d at.
    let p = get_or entries k d in
    let has = Has-from_Contains entries p (Contains-get_or entries k d at) in
    let listed = list_any-from_Has (λ a. a == p) entries p has (eq-eqb p p refl) in
    let below : p < length tasks = named i p (sym (ap (list_any (λ a. a == p)) is) ∙ listed) in
    omega arith

-- a test of the numbers of a range that the first one fails, and that it passes
pub any_later : (p : ℕ → Bool) (at n m : ℕ) (r : Bool) → n ≡ suc m → p at ≡ false → list_any p (range_with_len at n) ≡ r → list_any p (range_with_len (at + 1) m) ≡ r
any_later p at n m r e fails all =
    sym (ap (λ b. b || list_any p (range_with_len (at + 1) m)) fails) ∙ sym (ap (λ k. list_any p (range_with_len at k)) e) ∙ all

pub any_here : (p : ℕ → Bool) (at n m : ℕ) (r : Bool) → n ≡ suc m → p at ≡ true → list_any p (range_with_len at n) ≡ r → true ≡ r
any_here p at n m r e passes all =
    sym (ap (λ b. b || list_any p (range_with_len (at + 1) m)) passes) ∙ sym (ap (λ k. list_any p (range_with_len at k)) e) ∙ all

-- a search along a range whose first number fails the test, and passes it
pub find_later : (p : ℕ → Bool) (at n m : ℕ) (r : Option ℕ) → n ≡ suc m → p at ≡ false → find p (range_with_len at n) ≡ r → find p (range_with_len (at + 1) m) ≡ r
find_later p at n m r e fails all =
    sym (ap (λ b. cond b (Some at) (find p (range_with_len (at + 1) m))) fails) ∙ sym (ap (λ k. find p (range_with_len at k)) e) ∙ all

pub find_here : (p : ℕ → Bool) (at n m : ℕ) (r : Option ℕ) → n ≡ suc m → p at ≡ true → find p (range_with_len at n) ≡ r → Some at ≡ r
find_here p at n m r e passes all =
    sym (ap (λ b. cond b (Some at) (find p (range_with_len (at + 1) m))) passes) ∙ sym (ap (λ k. find p (range_with_len at k)) e) ∙ all

-- the same marks, at a path of one entry more
pub leads_more : (tasks : List Task) (before marks : List Bool) (k task : ℕ) → ((t : ℕ) → is_marked marks t ≡ leads_to tasks k t task) → ((t : ℕ) → is_marked before t ≡ list_any (is_marked marks) (after_of tasks t)) → (t : ℕ) → is_marked before t ≡ leads_to tasks (k + 1) t task
leads_more tasks before marks k task leads steps t =
    steps t ∙ list_any-same (is_marked marks) (λ p. leads_to tasks k p task) (after_of tasks t) (λ p _. leads p) ∙ ap (λ n. leads_to tasks n t task) (sym (add-one k))

-- the task alone is marked
pub leads_none : (tasks : List Task) (marks : List Bool) (task : ℕ) → list_all not marks ≡ true → task < length marks → (t : ℕ) → is_marked (set marks task true) t ≡ leads_to tasks 0 t task
leads_none tasks marks task none within t =
    ⊎_elim
    (λ e. ap (is_marked (set marks task true)) e ∙ marked_same marks task true within ∙ sym (eq-eqb t task e))
    (λ apart. marked_other marks task t true apart ∙ unmarked marks t none ∙ sym (ne_eqb t task apart))
    (cases_eq t task)
