-- The work that is due of a changed list of jobs.
use Rattle.std.proofs.Common.{◌≡◌, ℕ, ◌+◌, ◌-◌, ◌≤◌, false, not, cond, ltb, leb, ◌&&◌, List, [], ◌∷◌, ◌++◌, filter, refl, sym, ap, subst, inl, inr, arith}
use Rattle.std.specs.Prelude.{nat_lt, nat_le, if◌then◌else◌}
use Rattle.std.specs.List.{AllByRecursion}
use Rattle.std.proofs.lemmas.Bool.{cond_both, ltb-false, false_from_ne_true}
use Rattle.std.proofs.lemmas.Bool.Decides.{nat_tests}
use Rattle.std.proofs.lemmas.List.Sums.{sum_by-append}
use Rattle.slot_core.specs.declared.jobs.Key.{Key}
use Rattle.slot_core.specs.declared.jobs.Job.{Job}
use Rattle.slot_core.specs.Runs.Demand.{work_between}
use Rattle.slot_core.specs.Offline.Keys.{same_key}
use Rattle.slot_core.specs.Keeping.Kept.{AreApart}
use Rattle.slot_core.specs.Claims.Safety.{after_run}
use Rattle.slot_facts.proofs.Choice.Earliest.{same_from_key}
use Rattle.slot_facts.proofs.Choice.Runs.{run_of_another, run_of_first, run_of_later}
use Rattle.slot_facts.proofs.Lists.ApartKeys.{same_key-itself, IsApart-from_count}
use Rattle.slot_facts.proofs.Lists.Members.{Has}
use Rattle.slot_facts.proofs.Offline.DistinctKeys.{IsApart}
use Rattle.interval_build.proofs.Due.{work_between-cons}

-- the work of jobs and of others
pub work_between-append : (jobs others : List Job) (s e : ℕ) → work_between (jobs ++ others) s e ≡ work_between jobs s e + work_between others s e
work_between-append jobs others s e =
    sum_by-append (λ (j : Job). cond (nat_lt s j.dl && nat_le j.dl e) j.left 0) jobs others

-- with a job more, all that it has left is due at its deadline
pub work_between-append_job : (jobs : List Job) (job : Job) (s e : ℕ) → work_between (jobs ++ job ∷ []) s e ≡ work_between jobs s e + (if nat_lt s job.dl && nat_le job.dl e then job.left else 0)
work_between-append_job jobs job s e =
    omega (arith, work_between-append jobs (job ∷ []) s e, work_between-cons s e job [])

-- keys that are not one test as two
keys_differ : (a b : Key) → (a ≡ b → ⊥) → same_key a b ≡ false
keys_differ a b apart = false_from_ne_true (same_key a b) (λ same. apart (same_from_key a b same))

-- what a job has left is one slot and the others
one_slot_less : (left dl s e : ℕ) → 1 ≤ left → cond (ltb s dl && leb dl e) left 0 ≡ cond (ltb s dl && leb dl e) (left - 1) 0 + cond (ltb s dl && leb dl e) 1 0
one_slot_less left dl s e some = grind (arith, nat_tests)

-- and where it is one slot, it is that slot
one_slot_left : (left dl s e : ℕ) → left ≡ 1 → cond (ltb s dl && leb dl e) left 0 ≡ cond (ltb s dl && leb dl e) 1 0
one_slot_left left dl s e one = grind (arith, nat_tests)

-- of the first job, one slot less is due after it ran, also where that was its last slot and it is gone
work_between-ran_first : (job : Job) (jobs : List Job) (s e : ℕ) → 1 ≤ job.left → work_between (job ∷ jobs) s e ≡ work_between (cond (nat_lt 1 job.left) (record job { left = job.left - 1 } ∷ jobs) jobs) s e + (if nat_lt s job.dl && nat_le job.dl e then 1 else 0)
work_between-ran_first job jobs s e some =
    let whole = work_between-cons s e job jobs in
    cond_both (nat_lt 1 job.left) (record job { left = job.left - 1 } ∷ jobs) jobs
    (λ xs. work_between (job ∷ jobs) s e ≡ work_between xs s e + (if nat_lt s job.dl && nat_le job.dl e then 1 else 0))
    (λ more. omega (arith, whole, work_between-cons s e (record job { left = job.left - 1 }) jobs, one_slot_less job.left job.dl s e some))
    (λ last.
    let one : job.left ≡ 1 = omega (arith, ltb-false 1 job.left last) in
    omega (arith, whole, one_slot_left job.left job.dl s e one))

-- so it is after a run of any job, where no two have one key
ran : (jobs : List Job) (job : Job) → IsApart (λ (j : Job). j.key) jobs → AllByRecursion (λ (j : Job). 1 ≤ j.left) jobs → Has jobs job → (s e : ℕ) → work_between jobs s e ≡ work_between (after_run job.key jobs) s e + (if nat_lt s job.dl && nat_le job.dl e then 1 else 0)
ran [] job apart some at s e = absurd at
ran (j ∷ jobs) job apart some (inl same) s e =
    let others = run_of_another j.key jobs apart.0 some.1 in
    subst
    (λ (o : Job). work_between (j ∷ jobs) s e ≡ work_between (after_run o.key (j ∷ jobs)) s e + (if nat_lt s o.dl && nat_le o.dl e then 1 else 0))
    same
    (rw (run_of_first j jobs others) (work_between-ran_first j jobs s e some.0))
ran (j ∷ jobs) job apart some (inr at) s e =
    let later = run_of_later job.key j jobs (keys_differ j.key job.key (apart.0 job at)) some.0 in
    rw later
    (omega (arith, work_between-cons s e j jobs, work_between-cons s e j (after_run job.key jobs), ran jobs job apart.1 some.1 at s e))

-- after a run of one of the jobs, one slot less is due at its deadline
pub work_between-after_run : (jobs : List Job) (job : Job) → AreApart jobs → AllByRecursion (λ (j : Job). 1 ≤ j.left) jobs → Has jobs job → (s e : ℕ) → work_between jobs s e ≡ work_between (after_run job.key jobs) s e + (if nat_lt s job.dl && nat_le job.dl e then 1 else 0)
work_between-after_run jobs job apart some at = ran jobs job (IsApart-from_count jobs apart) some at

-- where none of the jobs has the key, all stay
without_another : (key : Key) (jobs : List Job) → ((o : Job) → Has jobs o → key ≡ o.key → ⊥) → filter (λ (j : Job). not (same_key j.key key)) jobs ≡ jobs
without_another key [] other = refl
without_another key (j ∷ jobs) other =
    rw (keys_differ j.key key (λ same. other j (inl refl) (sym same)))
    (ap (λ xs. j ∷ xs) (without_another key jobs (λ o at. other o (inr at))))

-- where no two jobs have one key, all that the job of a key has left goes with it
gone : (jobs : List Job) (job : Job) → IsApart (λ (j : Job). j.key) jobs → Has jobs job → (s e : ℕ) → work_between jobs s e ≡ work_between (filter (λ (j : Job). not (same_key j.key job.key)) jobs) s e + (if nat_lt s job.dl && nat_le job.dl e then job.left else 0)
gone [] job apart at s e = absurd at
gone (j ∷ jobs) job apart (inl same) s e =
    subst
    (λ (o : Job). work_between (j ∷ jobs) s e ≡ work_between (filter (λ (i : Job). not (same_key i.key o.key)) (j ∷ jobs)) s e + (if nat_lt s o.dl && nat_le o.dl e then o.left else 0))
    same
    (rw (same_key-itself j.key j.key refl, without_another j.key jobs apart.0) (omega (arith, work_between-cons s e j jobs)))
gone (j ∷ jobs) job apart (inr at) s e =
    let rest = filter (λ (i : Job). not (same_key i.key job.key)) jobs in
    rw (keys_differ j.key job.key (apart.0 job at))
    (omega (arith, work_between-cons s e j jobs, work_between-cons s e j rest, gone jobs job apart.1 at s e))

-- without one of the jobs, all that it had left is no longer due at its deadline
pub work_between-without : (jobs : List Job) (job : Job) → AreApart jobs → Has jobs job → (s e : ℕ) → work_between jobs s e ≡ work_between (filter (λ (j : Job). not (same_key j.key job.key)) jobs) s e + (if nat_lt s job.dl && nat_le job.dl e then job.left else 0)
work_between-without jobs job apart at = gone jobs job (IsApart-from_count jobs apart) at
