-- In deadline order the jobs due by an end stand at the front.
use Rattle.std.proofs.Common.{◌≡◌, ℕ, zero, suc, ◌+◌, ◌<◌, ◌≤◌, Bool, true, ◌&&◌, cond, List, [], ◌∷◌, take, drop, filter, sum_by, nat_le, nat_lt, refl, sym, ◌∙◌, ap, ⊎_elim, zero-add, arith}
use Rattle.std.specs.List.{AllByRecursion, prefix_len}
use Rattle.std.proofs.lemmas.Bool.{cases_lt, cond_both, le-leb, lt-leb, lt-ltb, le-ltb}
use Rattle.std.proofs.lemmas.List.Sums.{sum_by-cons, sum_by-le-sum_by}
use Rattle.slot_core.specs.declared.jobs.Job.{Job}
use Rattle.slot_core.specs.Offline.Keys.{is_earlier}
use Rattle.slot_core.specs.Keeping.Plans.{AreInDeadlineOrder}
use Rattle.slot_core.specs.Runs.Demand.{work_between}
use Rattle.slot_facts.proofs.Plans.DeadlineOrder.{is_earlier-le}

abbrev pub is_due_by : ℕ → Job → Bool
is_due_by e job = nat_le job.dl e

abbrev pub is_due_after : ℕ → Job → Bool
is_due_after s job = nat_lt s job.dl

abbrev pub left_of : Job → ℕ
left_of job = job.left

-- jobs that are due after e
abbrev pub AreDueAfter : ℕ → List Job → Type 0
AreDueAfter e jobs = AllByRecursion (λ (j : Job). e < j.dl) jobs

AreDueAfter-from_first : (e : ℕ) (first : Job) (jobs : List Job) → e < first.dl → AllByRecursion (λ other. is_earlier first other ≡ true) jobs → AreDueAfter e jobs
AreDueAfter-from_first e first [] l h = tt
AreDueAfter-from_first e first (j ∷ jobs) l h =
    let le : first.dl ≤ j.dl = is_earlier-le first j h.0 in
    (omega arith, AreDueAfter-from_first e first jobs l h.1)

none_due : (e : ℕ) (jobs : List Job) → AreDueAfter e jobs → filter (is_due_by e) jobs ≡ []
none_due e [] h = refl
none_due e (j ∷ jobs) h = rw (lt-leb j.dl e h.0) (none_due e jobs h.1)

pub all_due_after : (e : ℕ) (jobs : List Job) → AreDueAfter e jobs → filter (is_due_after e) jobs ≡ jobs
all_due_after e [] h = refl
all_due_after e (j ∷ jobs) h = rw (lt-ltb e j.dl h.0) (ap (λ rest. j ∷ rest) (all_due_after e jobs h.1))

-- the front of jobs up to the first that is not due by e is the jobs due by e, and the rest those due after it
pub record HasDueFront (e : ℕ) (jobs : List Job) : Type 0 where
  pub front : take (prefix_len (is_due_by e) jobs) jobs ≡ filter (is_due_by e) jobs
  pub rest : drop (prefix_len (is_due_by e) jobs) jobs ≡ filter (is_due_after e) jobs

HasDueFront-cons_due : (e : ℕ) (j : Job) (jobs : List Job) → j.dl ≤ e → HasDueFront e jobs → HasDueFront e (j ∷ jobs)
HasDueFront-cons_due e j jobs l h =
    let n : 1 + prefix_len (is_due_by e) jobs ≡ suc (prefix_len (is_due_by e) jobs) = omega arith in
    record {
      front = rw (le-leb j.dl e l, n) (ap (λ rest. j ∷ rest) h.front);
      rest = rw (le-leb j.dl e l, le-ltb e j.dl l, n) h.rest;
    }

HasDueFront-cons_later : (e : ℕ) (j : Job) (jobs : List Job) → e < j.dl → AreDueAfter e jobs → HasDueFront e (j ∷ jobs)
HasDueFront-cons_later e j jobs l h =
    record {
      front = rw (lt-leb j.dl e l) (sym (none_due e jobs h));
      rest = rw (lt-leb j.dl e l, lt-ltb e j.dl l) (ap (λ rest. j ∷ rest) (sym (all_due_after e jobs h)));
    }

pub HasDueFront-ordered : (e : ℕ) (jobs : List Job) → AreInDeadlineOrder jobs → HasDueFront e jobs
HasDueFront-ordered e [] h = record { front = refl; rest = refl }
HasDueFront-ordered e (j ∷ jobs) h =
    let more : HasDueFront e jobs = HasDueFront-ordered e jobs h.1 in
    ⊎_elim
    (λ l. HasDueFront-cons_later e j jobs l (AreDueAfter-from_first e j jobs l h.0))
    (λ l. HasDueFront-cons_due e j jobs l more)
    (cases_lt e j.dl)

pub AreInDeadlineOrder-drop : (n : ℕ) (jobs : List Job) → AreInDeadlineOrder jobs → AreInDeadlineOrder (drop n jobs)
AreInDeadlineOrder-drop zero jobs h = h
AreInDeadlineOrder-drop (suc n) [] h = tt
AreInDeadlineOrder-drop (suc n) (j ∷ jobs) h = AreInDeadlineOrder-drop n jobs h.1

-- to be due after s and after a later e is to be due after e
pub due_after_both : (s e : ℕ) → s ≤ e → (jobs : List Job) → filter (is_due_after e) (filter (is_due_after s) jobs) ≡ filter (is_due_after e) jobs
due_after_both s e l [] = refl
due_after_both s e l (j ∷ jobs) =
    let more : filter (is_due_after e) (filter (is_due_after s) jobs) ≡ filter (is_due_after e) jobs = due_after_both s e l jobs in
    ⊎_elim
    (λ after. rw (lt-ltb s j.dl (omega arith), lt-ltb e j.dl after) (ap (λ rest. j ∷ rest) more))
    (λ by. ⊎_elim (λ after. rw (lt-ltb s j.dl after, le-ltb e j.dl by) more) (λ by_s. rw (le-ltb s j.dl by_s, le-ltb e j.dl by) more) (cases_lt s j.dl))
    (cases_lt e j.dl)

-- the slots left of the first job, where it is due after s and by e
abbrev pub work_of_first : ℕ → ℕ → Job → ℕ
work_of_first s e j = cond (is_due_after s j && is_due_by e j) j.left 0

pub work_between-cons : (s e : ℕ) (j : Job) (jobs : List Job) → work_between (j ∷ jobs) s e ≡ work_of_first s e j + work_between jobs s e
work_between-cons s e j jobs = sum_by-cons (work_of_first s e) j jobs

abbrev due_between : ℕ → ℕ → List Job → List Job
due_between s e jobs = filter (is_due_by e) (filter (is_due_after s) jobs)

due_between-cons : (s e : ℕ) (j : Job) (jobs : List Job) → sum_by left_of (due_between s e (j ∷ jobs)) ≡ work_of_first s e j + sum_by left_of (due_between s e jobs)
due_between-cons s e j jobs =
    let none = sym (zero-add (sum_by left_of (due_between s e jobs))) in
    let some = sum_by-cons left_of j (due_between s e jobs) in
    ⊎_elim
    (λ after. ⊎_elim (λ later. rw (lt-ltb s j.dl after, lt-leb j.dl e later) none) (λ by. rw (lt-ltb s j.dl after, le-leb j.dl e by) some) (cases_lt e j.dl))
    (λ before. rw (le-ltb s j.dl before) none)
    (cases_lt s j.dl)

-- the work between s and e is that of the jobs due by e of those due after s
pub work_of_due : (s e : ℕ) (jobs : List Job) → sum_by left_of (filter (is_due_by e) (filter (is_due_after s) jobs)) ≡ work_between jobs s e
work_of_due s e [] = refl
work_of_due s e (j ∷ jobs) =
    let more : sum_by left_of (due_between s e jobs) ≡ work_between jobs s e = work_of_due s e jobs in
    due_between-cons s e j jobs ∙ ap (λ n. work_of_first s e j + n) more ∙ sym (work_between-cons s e j jobs)

work_of_first-le : (s e : ℕ) (j : Job) → work_of_first s e j ≤ j.left
work_of_first-le s e j = cond_both (is_due_after s j && is_due_by e j) j.left 0 (λ n. n ≤ j.left) (λ _. omega arith) (λ _. omega arith)

pub work_between-le : (jobs : List Job) (s e : ℕ) → work_between jobs s e ≤ sum_by left_of jobs
work_between-le jobs s e = sum_by-le-sum_by (work_of_first s e) left_of jobs (work_of_first-le s e)

-- one span on: of the jobs due after s, those up to the first that is not due by e have the span's work
pub work_of_front : (jobs rest : List Job) (s e n : ℕ) → rest ≡ filter (is_due_after s) jobs → AreInDeadlineOrder rest → n ≡ prefix_len (is_due_by e) rest → sum_by left_of (take n rest) ≡ work_between jobs s e
work_of_front jobs rest s e n after ordered count =
    ap (λ k. sum_by left_of (take k rest)) count ∙ ap (sum_by left_of) (HasDueFront-ordered e rest ordered).front ∙ ap (λ js. sum_by left_of (filter (is_due_by e) js)) after ∙ work_of_due s e jobs

-- and the others are those due after e
pub rest_of_front : (jobs rest : List Job) (s e n : ℕ) → s ≤ e → rest ≡ filter (is_due_after s) jobs → AreInDeadlineOrder rest → n ≡ prefix_len (is_due_by e) rest → drop n rest ≡ filter (is_due_after e) jobs
rest_of_front jobs rest s e n rising after ordered count =
    ap (λ k. drop k rest) count ∙ (HasDueFront-ordered e rest ordered).rest ∙ ap (filter (is_due_after e)) after ∙ due_after_both s e rising jobs
