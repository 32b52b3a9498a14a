-- No window in which some slots are needed has less slack than the tightest.
use Rattle.std.proofs.Common.{◌≡◌, ℕ, zero, suc, ◌+◌, ◌-◌, ◌*◌, ◌<◌, ◌≤◌, Bool, true, false, List, [], ◌∷◌, Option, None, Some, refl, sym, ap, subst, ◌∙◌, inl, inr, arith}
use Rattle.std.specs.Prelude.{fold, nat_lt, ◌&&◌, if◌then◌else◌}
use Rattle.std.specs.List.{range_with_len}
use Rattle.std.specs.Option.{option_map_or, option_or}
use Rattle.std.proofs.lemmas.Bool.{cases_lt, lt-ltb, le-ltb}
use Rattle.slot_core.specs.declared.jobs.Window.{Window}
use Rattle.slot_core.specs.declared.tasks.TaskSet.{TaskSet}
use Rattle.slot_core.specs.Feasibility.Feasible.{demand, failing_window, window_demand}
use Rattle.slot_core.specs.Offline.OfflineJobs.{cycle_jobs}
use Rattle.plan_answers.specs.Tightest.{has_less_slack, tighter, tightest, tightest_by, tightest_in, window_of}

-- what each step keeps, a fold keeps
fold-keeps : {B : Type 0} (P : B → Type 0) (f : B → ℕ → B) (z : B) (xs : List ℕ) → ((x : B) (k : ℕ) → P x → P (f x k)) → P z → P (fold f z xs)
fold-keeps P f z [] keeps h = h
fold-keeps P f z (k ∷ xs) keeps h = fold-keeps P f (f z k) xs keeps (keeps z k h)

-- and what one step reaches, too
fold-reaches : {B : Type 0} (P : B → Type 0) (f : B → ℕ → B) (z : B) (a n k : ℕ) → ((x : B) (m : ℕ) → P x → P (f x m)) → ((x : B) → P (f x k)) → a ≤ k → k < a + n → P (fold f z (range_with_len a n))
fold-reaches P f z a zero k keeps reach low high = absurd (omega arith)
fold-reaches P f z a (suc n) k keeps reach low high = elim (cases_lt a k) [
  | inl later ↦ fold-reaches P f (f z a) (a + 1) n k keeps reach (omega arith) (omega arith)
  | inr here ↦
      let same : k ≡ a = omega arith in
      fold-keeps P f (f z a) (range_with_len (a + 1) n) keeps (subst (λ m. P (f z m)) same (reach z))
]

-- the window that is kept has no more slack than these slots with this need
abbrev IsNoLooser : Option Window → ℕ → ℕ → Type 0
IsNoLooser None slots needed = ⊥
IsNoLooser (Some w) slots needed = (w.until - w.from) + needed ≤ slots + w.demand

abbrev IsAtMost : ℕ → ℕ → Option Window → Type 0
IsAtMost slots needed kept = 0 < needed → IsNoLooser kept slots needed

-- by the outcome of the test: the tighter of two
chosen-kept : (w next : Window) (slots needed : ℕ) (some : Bool) → (w.until - w.from) + needed ≤ slots + w.demand → IsNoLooser (if some && has_less_slack next w then Some next else Some w) slots needed
chosen-kept w next slots needed false most = most
chosen-kept w next slots needed true most = elim (cases_lt ((next.until - next.from) + w.demand) ((w.until - w.from) + next.demand)) [
  | inl less ↦ rw (lt-ltb ((next.until - next.from) + w.demand) ((w.until - w.from) + next.demand) less) (omega arith)
  | inr more ↦ rw (le-ltb ((next.until - next.from) + w.demand) ((w.until - w.from) + next.demand) more) most
]

chosen-next : (w next : Window) → IsNoLooser (if true && has_less_slack next w then Some next else Some w) (next.until - next.from) next.demand
chosen-next w next = elim (cases_lt ((next.until - next.from) + w.demand) ((w.until - w.from) + next.demand)) [
  | inl less ↦ rw (lt-ltb ((next.until - next.from) + w.demand) ((w.until - w.from) + next.demand) less) (omega arith)
  | inr more ↦ rw (le-ltb ((next.until - next.from) + w.demand) ((w.until - w.from) + next.demand) more) (omega arith)
]

-- the tighter of two has no more slack than the one that was kept, and than the next
kept-at_most : (slots needed : ℕ) (kept : Option Window) (next : Window) → IsAtMost slots needed kept → IsAtMost slots needed (tighter kept next)
kept-at_most slots needed None next most = λ some. absurd (most some)
kept-at_most slots needed (Some w) next most = λ some. chosen-kept w next slots needed (nat_lt 0 next.demand) (most some)

next-at_most : (kept : Option Window) (next : Window) → IsAtMost (next.until - next.from) next.demand (tighter kept next)
next-at_most None next = λ some. rw (lt-ltb 0 next.demand some) (omega arith)
next-at_most (Some w) next = λ some. rw (lt-ltb 0 next.demand some) (chosen-next w next)

-- so the tightest from one start, and of all
by-at_most : (need : ℕ → ℕ) (cycle a slots needed : ℕ) (kept : Option Window) → IsAtMost slots needed kept → IsAtMost slots needed (tightest_by need cycle kept a)
by-at_most need cycle a slots needed kept most =
    fold-keeps (IsAtMost slots needed) (λ (best : Option Window) (b : ℕ). tighter best (window_of a b (need b))) kept (range_with_len (a + 1) (2 * cycle - a)) (λ x k h. kept-at_most slots needed x (window_of a k (need k)) h) most

by-reaches : (need : ℕ → ℕ) (cycle a b : ℕ) (kept : Option Window) → a < b → b ≤ 2 * cycle → IsAtMost (b - a) (need b) (tightest_by need cycle kept a)
by-reaches need cycle a b kept low high =
    fold-reaches (IsAtMost (b - a) (need b)) (λ (best : Option Window) (x : ℕ). tighter best (window_of a x (need x))) kept (a + 1) (2 * cycle - a) b (λ x k h. kept-at_most (b - a) (need b) x (window_of a k (need k)) h) (λ x. next-at_most x (window_of a b (need b))) (omega arith) (omega arith)

in-reaches : (set : TaskSet) (cycle a b : ℕ) → a < cycle → a < b → b ≤ 2 * cycle → IsAtMost (b - a) (demand set cycle a b) (tightest_in (cycle_jobs set cycle 0) set.sporadics cycle)
in-reaches set cycle a b start low high =
    let need = window_demand (cycle_jobs set cycle 0) set.sporadics cycle in
    fold-reaches (IsAtMost (b - a) (demand set cycle a b)) (λ (kept : Option Window) (x : ℕ). tightest_by (need x) cycle kept x) None 0 cycle a (λ x k h. by-at_most (need k) cycle k (b - a) (demand set cycle a b) x h) (λ x. by-reaches (need a) cycle a b x low high) (omega arith) (omega arith)

-- no window fails as a whole that fits
whole-fits : (set : TaskSet) (cycle : ℕ) → demand set cycle 0 cycle ≤ cycle → tightest set cycle ≡ tightest_in (cycle_jobs set cycle 0) set.sporadics cycle
whole-fits set cycle fits =
    let passes : nat_lt (cycle - 0) (window_demand (cycle_jobs set cycle 0) set.sporadics cycle 0 cycle) ≡ false = le-ltb (cycle - 0) (window_demand (cycle_jobs set cycle 0) set.sporadics cycle 0 cycle) (omega arith) in
    rw passes refl

pub least-from_tightest : (set : TaskSet) (cycle : ℕ) (w : Window) → demand set cycle 0 cycle ≤ cycle → tightest set cycle ≡ Some w → (a b : ℕ) → a < cycle → a < b → b ≤ 2 * cycle → 0 < demand set cycle a b → (w.until - w.from) + demand set cycle a b ≤ (b - a) + w.demand
least-from_tightest set cycle w fits is a b start low high some =
    subst (λ r. IsNoLooser r (b - a) (demand set cycle a b)) (sym (whole-fits set cycle fits) ∙ is) (in-reaches set cycle a b start low high some)
