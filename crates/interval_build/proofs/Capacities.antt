-- The least slack obeys the recurrence between neighbouring points.
use Rattle.std.proofs.Common.{◌≡◌, ℕ, ◌+◌, ◌<◌, ◌≤◌, ◌⊎◌, ℤ, pos, ◌+ℤ◌, ◌≤ℤ◌, ◌&&◌, cond, ltb, leb, List, [], ◌∷◌, refl, subst, ⊎_elim, arith}
use Rattle.std.specs.Int.{int_min}
use Rattle.std.specs.List.{AllByRecursion}
use Rattle.std.proofs.lemmas.Bool.{cases_lt}
use Rattle.std.proofs.lemmas.Bool.Decides.{nat_tests}
use Rattle.std.proofs.lemmas.Int.{ints, clamps, by_lt_z}
use Rattle.slot_core.specs.declared.jobs.Job.{Job}
use Rattle.slot_core.specs.Runs.Demand.{work_between}
use Rattle.slot_core.specs.Runs.Spans.{slack, spare_capacity}
use Rattle.interval_build.proofs.Due.{work_of_first, work_between-cons}
use Rattle.interval_build.proofs.Least.{IsLeast, IsLeast-unique, IsLeast-least}

-- no job is due between two neighbouring points
abbrev pub NoneBetween : List Job → ℕ → ℕ → Type 0
NoneBetween jobs e next = AllByRecursion (λ (j : Job). (j.dl ≤ e) ⊎ (next ≤ j.dl)) jobs

first_splits : (left dl s e x : ℕ) → s ≤ e → e ≤ x → cond (ltb s dl && leb dl x) left 0 ≡ cond (ltb s dl && leb dl e) left 0 + cond (ltb e dl && leb dl x) left 0
first_splits left dl s e x l m = grind (arith, nat_tests)

first_is_none : (left dl e x next : ℕ) → x < next → (dl ≤ e) ⊎ (next ≤ dl) → cond (ltb e dl && leb dl x) left 0 ≡ 0
first_is_none left dl e x next l h = grind (arith, nat_tests)

-- the work up to x is that up to e, and that from e on
pub work_between-splits : (jobs : List Job) (s e x : ℕ) → s ≤ e → e ≤ x → work_between jobs s x ≡ work_between jobs s e + work_between jobs e x
work_between-splits [] s e x l m = refl
work_between-splits (j ∷ jobs) s e x l m =
    let more : work_between jobs s x ≡ work_between jobs s e + work_between jobs e x = work_between-splits jobs s e x l m in
    let first : work_of_first s x j ≡ work_of_first s e j + work_of_first e x j = first_splits j.left j.dl s e x l m in
    omega (arith, work_between-cons s x j jobs, work_between-cons s e j jobs, work_between-cons e x j jobs)

pub no_work : (jobs : List Job) (e x next : ℕ) → x < next → NoneBetween jobs e next → work_between jobs e x ≡ 0
no_work [] e x next l h = refl
no_work (j ∷ jobs) e x next l h =
    let more : work_between jobs e x ≡ 0 = no_work jobs e x next l h.1 in
    let first : work_of_first e x j ≡ 0 = first_is_none j.left j.dl e x next l h.0 in
    omega (arith, work_between-cons e x j jobs)

-- so is the slack
pub slack_splits : (jobs : List Job) (s e x : ℕ) → s ≤ e → e ≤ x → slack jobs s x ≡ slack jobs s e +ℤ slack jobs e x
slack_splits jobs s e x l m =
    let work : work_between jobs s x ≡ work_between jobs s e + work_between jobs e x = work_between-splits jobs s e x l m in
    omega (arith, ints)

-- and without work it is not below 0
slack_without_work : (jobs : List Job) (e x next : ℕ) → x < next → NoneBetween jobs e next → pos 0 ≤ℤ slack jobs e x
slack_without_work jobs e x next l h =
    let none : work_between jobs e x ≡ 0 = no_work jobs e x next l h in
    omega (arith, ints)

-- the least slack of the next span, before which a span of so much slack stands
IsLeast-before : (jobs : List Job) (s e next last : ℕ) (m : ℤ) → s ≤ e → e < next → next ≤ last → NoneBetween jobs e next → IsLeast (slack jobs e) next last m → IsLeast (slack jobs s) e last (slack jobs s e +ℤ int_min (pos 0) m)
IsLeast-before jobs s e next last m rising over within none h = record { bound = bound; reached = reached }
  where
    bound : (x : ℕ) → e ≤ x → x ≤ last → (slack jobs s e +ℤ int_min (pos 0) m) ≤ℤ slack jobs s x
    bound x from to =
        let split : slack jobs s x ≡ slack jobs s e +ℤ slack jobs e x = slack_splits jobs s e x rising from in
        ⊎_elim
        (λ l. let some : pos 0 ≤ℤ slack jobs e x = slack_without_work jobs e x next l none in omega (arith, ints, clamps))
        (λ l. let b : m ≤ℤ slack jobs e x = h.bound x l to in omega (arith, ints, clamps))
        (cases_lt x next)

    reached : (x : ℕ) × (e ≤ x) × (x ≤ last) × (slack jobs s e +ℤ int_min (pos 0) m ≡ slack jobs s x)
    reached =
        by_lt_z m (pos 0)
        (λ l.
        let x = h.reached.0 in
        let split : slack jobs s x ≡ slack jobs s e +ℤ slack jobs e x = slack_splits jobs s e x rising (omega (arith, h.reached.1)) in
        let at : m ≡ slack jobs e x = h.reached.3 in
        (x, omega (arith, h.reached.1), h.reached.2, omega (arith, ints, clamps)))
        (λ l. (e, omega arith, omega arith, omega (arith, ints, clamps)))

-- the least slack of a span up to the last point is its own, less what the next span lacks
pub capacity_before : (jobs : List Job) (s e next last : ℕ) → s ≤ e → e < next → next ≤ last → NoneBetween jobs e next → spare_capacity jobs last s e ≡ slack jobs s e +ℤ int_min (pos 0) (spare_capacity jobs last e next)
capacity_before jobs s e next last rising over within none =
    IsLeast-unique (slack jobs s) e last _ _
    (IsLeast-least (slack jobs s) e last (omega arith))
    (IsLeast-before jobs s e next last (spare_capacity jobs last e next) rising over within none (IsLeast-least (slack jobs e) next last within))

-- the last span has its own slack
pub capacity_of_last : (jobs : List Job) (s e : ℕ) → spare_capacity jobs e s e ≡ slack jobs s e
capacity_of_last jobs s e =
    IsLeast-unique (slack jobs s) e e _ _
    (IsLeast-least (slack jobs s) e e (omega arith))
    (record { bound = bound; reached = (e, omega arith, omega arith, refl) })
  where
    bound : (x : ℕ) → e ≤ x → x ≤ e → slack jobs s e ≤ℤ slack jobs s x
    bound x from to =
        let same : e ≡ x = omega arith in
        subst (λ n. slack jobs s e ≤ℤ slack jobs s n) same (omega (arith, ints))
