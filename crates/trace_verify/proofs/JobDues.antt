-- The slots due at each time are those left of the jobs, also after an edit of their list.
use Rattle.std.proofs.Common.{◌≡◌, ℕ, zero, suc, ◌+◌, ◌-◌, ◌<◌, ◌≤◌, Bool, true, false, cond, not, List, [], ◌∷◌, length, get_or, filter, refl, sym, ap, subst, ◌∙◌, ⊎_elim, arith}
use Rattle.std.specs.Prelude.{nat_lt}
use Rattle.std.specs.List.{insert, remove, AllByRecursion}
use Rattle.std.proofs.lemmas.Bool.{cases_lt, false_from_ne_true}
use Rattle.std.proofs.lemmas.Bool.Decides.{nat_tests}
use Rattle.std.proofs.lemmas.List.Elements.{Contains-get_or}
use Rattle.std.proofs.lemmas.List.Sums.{sum_by-insert, sum_by-le-sum_by, sum_by-remove, sum_by-set}
use Rattle.slot_core.specs.declared.jobs.Key.{Key}
use Rattle.slot_core.specs.declared.jobs.Job.{Job}
use Rattle.slot_core.specs.Claims.Safety.{after_run}
use Rattle.slot_core.specs.Offline.Keys.{same_key}
use Rattle.slot_facts.proofs.Choice.Earliest.{same_from_key}
use Rattle.slot_facts.proofs.Lists.Members.{Has-from_Contains}
use Rattle.slot_facts.proofs.Offline.DistinctKeys.{IsApart}
use Rattle.trace_verify.specs.Dues.{due_before, left_before, AreDues}
use Rattle.trace_verify.proofs.JobEdits.{after_run-last, after_run-more, HasNoneBefore}
use Rattle.trace_verify.proofs.DueFacts.{due_before-le}
use Rattle.trace_verify.proofs.LeftSums.{left_at}

later_counts : (dl n left : ℕ) → cond (nat_lt dl n) left 0 ≤ cond (nat_lt dl (n + 1)) left 0
later_counts dl n left = grind (arith, nat_tests)

-- and no less before a later one
left_before-next : (jobs : List Job) (n : ℕ) → left_before jobs n ≤ left_before jobs (n + 1)
left_before-next jobs n =
    sum_by-le-sum_by (left_at n) (left_at (n + 1)) jobs (λ j. later_counts j.dl n j.left)

at_deadline : (dl left : ℕ) → cond (nat_lt dl dl) left 0 ≡ 0
at_deadline dl left = grind (arith, nat_tests)

past_deadline : (dl left : ℕ) → cond (nat_lt dl (dl + 1)) left 0 ≡ left
past_deadline dl left = grind (arith, nat_tests)

-- a job has its slots left at its deadline
pub left_before-at : (jobs : List Job) (i : ℕ) (d : Job) → i < length jobs → left_before jobs (get_or jobs i d).dl + (get_or jobs i d).left ≤ left_before jobs ((get_or jobs i d).dl + 1)
left_before-at jobs i d inside =
    let x = get_or jobs i d in
    omega (
      arith,
      sum_by-remove (left_at x.dl) jobs i d inside,
      sum_by-remove (left_at (x.dl + 1)) jobs i d inside,
      left_before-next (remove jobs i) x.dl,
      at_deadline x.dl x.left,
      past_deadline x.dl x.left,
    )

-- with one more job
pub AreDues-insert : (due other : List ℕ) (jobs : List Job) (place : ℕ) (job : Job) → AreDues due jobs → ((n : ℕ) → due_before other n ≡ due_before due n + cond (nat_lt job.dl n) job.left 0) → AreDues other (insert jobs place job)
AreDues-insert due other jobs place job are more = record {
  same = λ n. omega (arith, more n, are.same n, sum_by-insert (left_at n) jobs place job);
}

-- and again without it
pub AreDues-undone : (due more other : List ℕ) (jobs : List Job) (job : Job) → AreDues due jobs → ((n : ℕ) → due_before more n ≡ due_before due n + cond (nat_lt job.dl n) job.left 0) → ((n : ℕ) → due_before more n ≡ due_before other n + cond (nat_lt job.dl n) job.left 0) → AreDues other jobs
AreDues-undone due more other jobs job are added taken = record {
  same = λ n. omega (arith, added n, taken n, are.same n);
}

-- where as much is due the slots left are the same
pub AreDues-same : (due other : List ℕ) (jobs : List Job) → AreDues due jobs → ((n : ℕ) → due_before other n ≡ due_before due n) → AreDues other jobs
AreDues-same due other jobs are same = record { same = λ n. omega (arith, same n, are.same n) }

-- with one job less
pub AreDues-remove : (due other : List ℕ) (jobs : List Job) (i : ℕ) (x : Job) → i < length jobs → x ≡ get_or jobs i x → AreDues due jobs → ((n : ℕ) → due_before due n ≡ due_before other n + cond (nat_lt x.dl n) x.left 0) → AreDues other (remove jobs i)
AreDues-remove due other jobs i x inside is are fewer = record {
  same = λ n. omega (arith, fewer n, are.same n, sum_by-remove (left_at n) jobs i x inside, ap (left_at n) is);
}

-- so much is due at the deadline of a job
pub due-at_deadline : (due : List ℕ) (jobs : List Job) (i : ℕ) (d : Job) → i < length jobs → AreDues due jobs → due_before due (get_or jobs i d).dl + (get_or jobs i d).left ≤ due_before due ((get_or jobs i d).dl + 1)
due-at_deadline due jobs i d inside are =
    let x = get_or jobs i d in
    omega (arith, left_before-at jobs i d inside, are.same x.dl, are.same (x.dl + 1))

cond-less : (b : Bool) (left : ℕ) → 1 ≤ left → cond b left 0 ≡ cond b (left - 1) 0 + cond b 1 0
cond-less true left some = omega arith
cond-less false left some = refl

cond-last : (b : Bool) (left : ℕ) → 1 ≤ left → left ≤ 1 → cond b left 0 ≡ cond b 1 0
cond-last true left some last = omega arith
cond-last false left some last = refl

-- a run of the job at a place leaves one slot less at its deadline
pub left_before-run : (key : Key) (jobs : List Job) (i : ℕ) (x : Job) → IsApart (λ (j : Job). j.key) jobs → AllByRecursion (λ (j : Job). 1 ≤ j.left) jobs → i < length jobs → x ≡ get_or jobs i x → 1 ≤ x.left → same_key x.key key ≡ true → HasNoneBefore key jobs i → (n : ℕ) → left_before jobs n ≡ left_before (after_run key jobs) n + cond (nat_lt x.dl n) 1 0
left_before-run key jobs i x apart left inside is some here before n =
    ⊎_elim
    (λ (more : 1 < x.left).
    let y : Job = record x { left = x.left - 1 } in
    omega (
      arith,
      ap (λ js. left_before js n) (after_run-more key jobs i x apart left inside is here before more),
      sum_by-set (left_at n) jobs i y x inside,
      ap (left_at n) is,
      cond-less (nat_lt x.dl n) x.left some,
    ))
    (λ (last : x.left ≤ 1).
    omega (
      arith,
      ap (λ js. left_before js n) (after_run-last key jobs i x apart left inside is here before last),
      sum_by-remove (left_at n) jobs i x inside,
      ap (left_at n) is,
      cond-last (nat_lt x.dl n) x.left some last,
    ))
    (cases_lt 1 x.left)

pub AreDues-run : (due other : List ℕ) (key : Key) (jobs : List Job) (i : ℕ) (x : Job) → IsApart (λ (j : Job). j.key) jobs → AllByRecursion (λ (j : Job). 1 ≤ j.left) jobs → i < length jobs → x ≡ get_or jobs i x → 1 ≤ x.left → same_key x.key key ≡ true → HasNoneBefore key jobs i → AreDues due jobs → ((n : ℕ) → due_before due n ≡ due_before other n + cond (nat_lt x.dl n) 1 0) → AreDues other (after_run key jobs)
AreDues-run due other key jobs i x apart left inside is some here before are fewer = record {
  same = λ n. omega (arith, fewer n, are.same n, left_before-run key jobs i x apart left inside is some here before n);
}

-- a job that does not pass goes before or in a filter
pub filter-remove : (p : Job → Bool) (jobs : List Job) (i : ℕ) (d : Job) → i < length jobs → p (get_or jobs i d) ≡ false → filter p (remove jobs i) ≡ filter p jobs
filter-remove p [] i d inside fails = absurd (omega arith)
filter-remove p (j ∷ jobs) zero d inside fails = sym (ap (λ b. cond b (j ∷ filter p jobs) (filter p jobs)) fails)
filter-remove p (j ∷ jobs) (suc i) d inside fails =
    ap (λ js. cond (p j) (j ∷ js) js) (filter-remove p jobs i d (omega arith) fails)

-- where all pass a filter leaves all
pub filter-all : (p : Job → Bool) (jobs : List Job) → ((k : ℕ) (d : Job) → k < length jobs → p (get_or jobs k d) ≡ true) → filter p jobs ≡ jobs
filter-all p [] pass = refl
filter-all p (j ∷ jobs) pass =
    ap (λ b. cond b (j ∷ filter p jobs) (filter p jobs)) (pass zero j (omega arith))
    ∙ ap (λ js. j ∷ js) (filter-all p jobs (λ k d low. pass (suc k) d (omega arith)))

-- where keys are apart no other job has the key of one that goes
pub removed-apart : (key : Key) (jobs : List Job) (i : ℕ) (d : Job) → IsApart (λ (j : Job). j.key) jobs → i < length jobs → same_key (get_or jobs i d).key key ≡ true → filter (λ (j : Job). not (same_key j.key key)) (remove jobs i) ≡ remove jobs i
removed-apart key [] i d apart inside same = absurd (omega arith)
removed-apart key (j ∷ jobs) zero d apart inside same =
    filter-all (λ (o : Job). not (same_key o.key key)) jobs (λ k e low.
    let at = Has-from_Contains jobs (get_or jobs k e) (Contains-get_or jobs k e low) in
    ap not (false_from_ne_true (same_key (get_or jobs k e).key key) (λ own. apart.0 (get_or jobs k e) at (same_from_key j.key key same ∙ sym (same_from_key (get_or jobs k e).key key own)))))
removed-apart key (j ∷ jobs) (suc i) d apart inside same =
    let low : i < length jobs = omega arith in
    let at = Has-from_Contains jobs (get_or jobs i d) (Contains-get_or jobs i d low) in
    let other : not (same_key j.key key) ≡ true = ap not (false_from_ne_true (same_key j.key key) (λ own. apart.0 (get_or jobs i d) at (same_from_key j.key key own ∙ sym (same_from_key (get_or jobs i d).key key same)))) in
    let rest = filter (λ (o : Job). not (same_key o.key key)) (remove jobs i) in
    ap (λ b. cond b (j ∷ rest) rest) other ∙ ap (λ js. j ∷ js) (removed-apart key jobs i d apart.1 low same)

-- with one more job its slots are due at its deadline
pub due-added : (due more : List ℕ) (job : Job) → ((n : ℕ) → due_before more n ≡ due_before due n + cond (nat_lt job.dl n) job.left 0) → due_before more job.dl + job.left ≤ due_before more (job.dl + 1)
due-added due more job added =
    omega (
      arith,
      added job.dl,
      added (job.dl + 1),
      due_before-le due job.dl (job.dl + 1) (omega arith),
      at_deadline job.dl job.left,
      past_deadline job.dl job.left,
    )

pub due-at_read : (due : List ℕ) (jobs : List Job) (i : ℕ) (x : Job) → i < length jobs → x ≡ get_or jobs i x → AreDues due jobs → due_before due x.dl + x.left ≤ due_before due (x.dl + 1)
due-at_read due jobs i x inside is are =
    subst (λ (j : Job). due_before due j.dl + j.left ≤ due_before due (j.dl + 1)) (sym is) (due-at_deadline due jobs i x inside are)

-- a slot is due at the deadline of a job that has one left
pub due-at_run : (due : List ℕ) (jobs : List Job) (i : ℕ) (x : Job) → i < length jobs → x ≡ get_or jobs i x → 1 ≤ x.left → AreDues due jobs → due_before due x.dl + 1 ≤ due_before due (x.dl + 1)
due-at_run due jobs i x inside is some are = omega (arith, due-at_read due jobs i x inside is are, some)
