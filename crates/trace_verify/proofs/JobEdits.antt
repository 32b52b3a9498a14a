-- What edits of a list of jobs leave: an insertion, a run, and the first of jobs in deadline order.
use Rattle.std.proofs.Common.{◌≡◌, ℕ, zero, suc, ◌+◌, ◌-◌, ◌<◌, ◌≤◌, Bool, true, false, cond, List, [], ◌∷◌, length, get_or, set, filter, fold, Some, None, refl, sym, ap, ◌∙◌, subst, arith}
use Rattle.std.specs.Prelude.{nat_le, nat_lt, not, slice_get}
use Rattle.std.specs.List.{insert, list_all, remove, prefix_len, AllByRecursion}
use Rattle.std.proofs.lemmas.Bool.{cond-true, cond-false, le-leb, lt-leb, lt-ltb, le-ltb}
use Rattle.slot_core.specs.declared.jobs.Key.{Key}
use Rattle.slot_core.specs.declared.jobs.Job.{Job}
use Rattle.slot_core.specs.declared.tasks.TaskSet.{TaskSet}
use Rattle.slot_core.specs.Claims.Safety.{after_run}
use Rattle.slot_core.specs.Keeping.Plans.{with_job, AreInDeadlineOrder}
use Rattle.slot_core.specs.Offline.Keys.{is_earlier, same_key}
use Rattle.slot_core.specs.Offline.Windows.{precedes}
use Rattle.slot_core.specs.Runs.Choice.{earlier_of, earliest}
use Rattle.slot_facts.proofs.Choice.Earliest.{same_from_key}
use Rattle.slot_facts.proofs.Choice.Runs.{run_of_first, run_of_another, run_of_later}
use Rattle.slot_facts.proofs.Offline.DistinctKeys.{IsApart}
use Rattle.slot_facts.proofs.Plans.InOrder.{is_earlier-one_way}
use Rattle.trace_verify.proofs.LackFacts.{AreDueFrom-first}

-- behind the jobs that go before it a job is at its place
pub insert-with_job : (job : Job) (jobs : List Job) → insert jobs (prefix_len (λ (j : Job). is_earlier j job) jobs) job ≡ with_job job jobs
insert-with_job job [] = refl
insert-with_job job (j ∷ jobs) = by_test (is_earlier j job) (insert-with_job job jobs)
  where
    by_test : (b : Bool) → insert jobs (prefix_len (λ (j : Job). is_earlier j job) jobs) job ≡ with_job job jobs → insert (j ∷ jobs) (cond b (1 + prefix_len (λ (j : Job). is_earlier j job) jobs) 0) job ≡ cond b (j ∷ with_job job jobs) (job ∷ j ∷ jobs)
    by_test true rest = let one : 1 + prefix_len (λ (j : Job). is_earlier j job) jobs ≡ suc (prefix_len (λ (j : Job). is_earlier j job) jobs) = omega arith in rw one (ap (λ js. j ∷ js) rest)
    by_test false rest = refl

-- no job before the place has the key
abbrev pub HasNoneBefore : Key → List Job → ℕ → Type 0
HasNoneBefore key jobs i = (k : ℕ) (d : Job) → k < i → same_key (get_or jobs k d).key key ≡ false

-- a run of the job at a place, which has another slot left
pub after_run-more : (key : Key) (jobs : List Job) (i : ℕ) (x : Job) → IsApart (λ (j : Job). j.key) jobs → AllByRecursion (λ (j : Job). 1 ≤ j.left) jobs → i < length jobs → x ≡ get_or jobs i x → same_key x.key key ≡ true → HasNoneBefore key jobs i → 1 < x.left → set jobs i (record x { left = x.left - 1 }) ≡ after_run key jobs
after_run-more key [] i x apart left inside is here before more = absurd (omega arith)
after_run-more key (j ∷ jobs) zero x apart left inside is here before more =
    let first = run_of_first j jobs (run_of_another j.key jobs apart.0 left.1) in
    let keyed = ap (λ (o : Job). o.key) (sym is) ∙ same_from_key x.key key here in
    let run = subst (λ k. after_run k (j ∷ jobs) ≡ cond (nat_lt 1 j.left) (record j { left = j.left - 1 } ∷ jobs) jobs) keyed first in
    let others = cond-true (nat_lt 1 j.left) (record j { left = j.left - 1 } ∷ jobs) jobs (lt-ltb 1 j.left (omega (arith, ap (λ (o : Job). o.left) is))) in
    ap (λ (o : Job). record o { left = o.left - 1 } ∷ jobs) is ∙ sym (run ∙ others)
after_run-more key (j ∷ jobs) (suc i) x apart left inside is here before more =
    ap (λ js. j ∷ js) (after_run-more key jobs i x apart.1 left.1 (omega arith) is here (λ k d low. before (suc k) d (omega arith)) more)
    ∙ sym (run_of_later key j jobs (before zero j (omega arith)) left.0)

-- and of one that has no other
pub after_run-last : (key : Key) (jobs : List Job) (i : ℕ) (x : Job) → IsApart (λ (j : Job). j.key) jobs → AllByRecursion (λ (j : Job). 1 ≤ j.left) jobs → i < length jobs → x ≡ get_or jobs i x → same_key x.key key ≡ true → HasNoneBefore key jobs i → x.left ≤ 1 → remove jobs i ≡ after_run key jobs
after_run-last key [] i x apart left inside is here before last = absurd (omega arith)
after_run-last key (j ∷ jobs) zero x apart left inside is here before last =
    let first = run_of_first j jobs (run_of_another j.key jobs apart.0 left.1) in
    let keyed = ap (λ (o : Job). o.key) (sym is) ∙ same_from_key x.key key here in
    let run = subst (λ k. after_run k (j ∷ jobs) ≡ cond (nat_lt 1 j.left) (record j { left = j.left - 1 } ∷ jobs) jobs) keyed first in
    sym (run ∙ cond-false (nat_lt 1 j.left) (record j { left = j.left - 1 } ∷ jobs) jobs (le-ltb 1 j.left (omega (arith, ap (λ (o : Job). o.left) is))))
after_run-last key (j ∷ jobs) (suc i) x apart left inside is here before last =
    ap (λ js. j ∷ js) (after_run-last key jobs i x apart.1 left.1 (omega arith) is here (λ k d low. before (suc k) d (omega arith)) last)
    ∙ sym (run_of_later key j jobs (before zero j (omega arith)) left.0)

-- where no job has the key a run of it changes nothing
pub after_run-none : (key : Key) (jobs : List Job) → AllByRecursion (λ (j : Job). 1 ≤ j.left) jobs → HasNoneBefore key jobs (length jobs) → jobs ≡ after_run key jobs
after_run-none key [] left before = refl
after_run-none key (j ∷ jobs) left before =
    ap (λ js. j ∷ js) (after_run-none key jobs left.1 (λ k d low. before (suc k) d (omega arith))) ∙ sym (run_of_later key j jobs (before zero j (omega arith)) left.0)

-- the first of jobs that go before all others is the earliest
earliest-first : (best : Job) (jobs : List Job) → AllByRecursion (λ (j : Job). is_earlier best j ≡ true) jobs → fold earlier_of (Some best) jobs ≡ Some best
earliest-first best [] first = refl
earliest-first best (j ∷ jobs) first =
    rw (is_earlier-one_way best j first.0) (earliest-first best jobs first.1)

-- also among some of them
pub first-some : (best : Job) (test : Job → Bool) (jobs : List Job) → AllByRecursion (λ (j : Job). is_earlier best j ≡ true) jobs → AllByRecursion (λ (j : Job). is_earlier best j ≡ true) (filter test jobs)
first-some best test [] first = tt
first-some best test (j ∷ jobs) first = by_test (test j) (first-some best test jobs first.1)
  where
    by_test : (b : Bool) → AllByRecursion (λ (j : Job). is_earlier best j ≡ true) (filter test jobs) → AllByRecursion (λ (j : Job). is_earlier best j ≡ true) (cond b (j ∷ filter test jobs) (filter test jobs))
    by_test true rest = (first.0, rest)
    by_test false rest = rest

-- of jobs in deadline order the first is the earliest that is due by a time, where it is
pub first_late-some : (time : ℕ) (jobs : List Job) (job : Job) → AreInDeadlineOrder jobs → slice_get jobs 0 ≡ Some job → job.dl ≤ time → Some job ≡ earliest (filter (λ (j : Job). nat_le j.dl time) jobs)
first_late-some time [] job ordered there due = absurd (cc there)
first_late-some time (j ∷ jobs) job ordered there due =
    let is : j ≡ job = cc there in
    let late : j.dl ≤ time = omega (arith, ap (λ (o : Job). o.dl) is) in
    ap Some (sym is) ∙ rw (le-leb j.dl time late) (sym (earliest-first j (filter (λ (o : Job). nat_le o.dl time) jobs) (first-some j (λ (o : Job). nat_le o.dl time) jobs ordered.0)))

-- none of jobs that are due later is due
none_due : (time : ℕ) (jobs : List Job) → AllByRecursion (λ (j : Job). time < j.dl) jobs → filter (λ (j : Job). nat_le j.dl time) jobs ≡ []
none_due time [] after = refl
none_due time (j ∷ jobs) after = rw (lt-leb j.dl time after.0) (none_due time jobs after.1)

-- jobs due from a later time on are due later
all_later : (time b : ℕ) (jobs : List Job) → AllByRecursion (λ (j : Job). b ≤ j.dl) jobs → time < b → AllByRecursion (λ (j : Job). time < j.dl) jobs
all_later time b [] from after = tt
all_later time b (j ∷ jobs) from after = (omega (arith, from.0), all_later time b jobs from.1 after)

-- else none is
pub first_late-none : (time : ℕ) (jobs : List Job) (job : Job) → AreInDeadlineOrder jobs → slice_get jobs 0 ≡ Some job → time < job.dl → None ≡ earliest (filter (λ (j : Job). nat_le j.dl time) jobs)
first_late-none time [] job ordered there later = refl
first_late-none time (j ∷ jobs) job ordered there later =
    let is : j ≡ job = cc there in
    let after : time < j.dl = omega (arith, ap (λ (o : Job). o.dl) is) in
    rw (lt-leb j.dl time after) (ap earliest (sym (none_due time jobs (all_later time j.dl jobs (AreDueFrom-first j jobs ordered.0) after))))

-- nor is one where there is none
pub first_late-empty : (time : ℕ) (jobs : List Job) → slice_get jobs 0 ≡ None → None ≡ earliest (filter (λ (j : Job). nat_le j.dl time) jobs)
first_late-empty time [] none = refl
first_late-empty time (j ∷ jobs) none = absurd (cc none)

-- where nothing precedes a job, no job of a list does
pub none_precedes : (set : TaskSet) (key : Key) (jobs : List Job) → ((before : Key) → precedes set before key ≡ false) → list_all (λ (j : Job). not (precedes set j.key key)) jobs ≡ true
none_precedes set key [] none = refl
none_precedes set key (j ∷ jobs) none = rw (none j.key) (none_precedes set key jobs none)
