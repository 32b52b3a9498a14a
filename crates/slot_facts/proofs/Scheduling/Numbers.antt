-- The numbers of jobs in a list, and the slots that the runs of a queue make.
use Rattle.std.proofs.Common.{◌≡◌, ℕ, zero, suc, Bool, true, false, cond, List, [], ◌∷◌, map, Option, Some, None, refl, sym, ap, ◌∙◌, inl, inr, ◌⊎◌, arith}
use Rattle.std.proofs.lemmas.Bool.{false_from_ne_true}
use Rattle.std.proofs.lemmas.Bool.Decides.{nat_tests}
use Rattle.std.proofs.lemmas.Option.{slice_get-map}
use Rattle.std.specs.Prelude.{slice_get, sum_by, count_by, option_map}
use Rattle.slot_core.specs.declared.jobs.Key.{Key}
use Rattle.slot_core.specs.declared.jobs.Job.{Job}
use Rattle.slot_core.specs.declared.events.Ran.{Ran}
use Rattle.slot_core.specs.declared.events.Ran.TheVariants.{Idle, Key as KeyRan}
use Rattle.slot_core.specs.Offline.Keys.{same_key}
use Rattle.slot_core.specs.Claims.Schedules.{holds}
use Rattle.slot_facts.proofs.Lists.Members.{Has-from_slice_get}
use Rattle.slot_facts.proofs.Lists.Sums.{sum_by-map}
use Rattle.slot_facts.proofs.Choice.Earliest.{same_from_key}
use Rattle.slot_facts.proofs.Offline.DistinctKeys.{IsApart}
use Rattle.slot_facts.proofs.Scheduling.Queue.{is_run_of}

-- the number of the first job of this key in the list, or none
abbrev pub number_by_key : List Job → Key → Option ℕ
number_by_key [] key = None
number_by_key (j ∷ js) key = cond (same_key j.key key) (Some 0) (option_map suc (number_by_key js key))

-- the slots that runs make: the number of the job of each run, and none for an idle slot
abbrev pub slot_of_run : List Job → Ran → Option ℕ
slot_of_run jobs Idle = None
slot_of_run jobs (KeyRan key) = number_by_key jobs key

abbrev pub slots_of_runs : List Job → List Ran → List (Option ℕ)
slots_of_runs jobs rans = map (slot_of_run jobs) rans

-- the first number, or one of the rest
first_or_later : (b : Bool) (rest : Option ℕ) (n : ℕ) → cond b (Some 0) (option_map suc rest) ≡ Some n → ((b ≡ true) × (n ≡ 0)) ⊎ ((m : ℕ) × (rest ≡ Some m) × (n ≡ suc m))
first_or_later true rest n e = inl (refl, cc)
first_or_later false None n e = absurd (cc e)
first_or_later false (Some m) n e = inr (m, refl, cc)

-- the number of a key is that of a job of the list with this key
pub job_by_number : (jobs : List Job) (n : ℕ) (key : Key) → number_by_key jobs key ≡ Some n → (job : Job) × (slice_get jobs n ≡ Some job) × (job.key ≡ key)
job_by_number [] n key e = absurd (cc e)
job_by_number (j ∷ js) n key e =
    elim (first_or_later (same_key j.key key) (number_by_key js key) n e) [
      | inl first ↦ (j, ap (slice_get (j ∷ js)) first.1, same_from_key j.key key first.0)
      | inr later ↦
          let r = job_by_number js later.0 key later.1 in
          (r.0, ap (slice_get (j ∷ js)) later.2 ∙ r.1, r.2)
    ]

-- the first number is 0, and the others are above it
holds-first : (b : Bool) (rest : Option ℕ) → holds 0 (cond b (Some 0) (option_map suc rest)) ≡ b
holds-first true rest = refl
holds-first false None = refl
holds-first false (Some m) = grind (arith, nat_tests)

holds-later : (b same : Bool) (rest : Option ℕ) (n : ℕ) → (b ≡ true → same ≡ false) → holds n rest ≡ same → holds (suc n) (cond b (Some 0) (option_map suc rest)) ≡ same
holds-later true same rest n other e = grind (arith, nat_tests)
holds-later false same None n other e = e
holds-later false same (Some m) n other e = grind (arith, nat_tests)

-- each job has a number of its own
pub holds-number_by_key : (jobs : List Job) (n : ℕ) (job : Job) (key : Key) → IsApart (λ (j : Job). j.key) jobs → slice_get jobs n ≡ Some job → holds n (number_by_key jobs key) ≡ same_key job.key key
holds-number_by_key [] n job key apart at = absurd (cc at)
holds-number_by_key (j ∷ js) zero job key apart at =
    let same : j ≡ job = cc in
    holds-first (same_key j.key key) (number_by_key js key) ∙ ap (λ (x : Job). same_key x.key key) same
holds-number_by_key (j ∷ js) (suc n) job key apart at =
    let other = λ (first : same_key j.key key ≡ true). false_from_ne_true (same_key job.key key) (λ same.
    apart.0 job (Has-from_slice_get js n job at) (same_from_key j.key key first ∙ sym (same_from_key job.key key same))) in
    holds-later (same_key j.key key) (same_key job.key key) (number_by_key js key) n other (holds-number_by_key js n job key apart.1 at)

-- a slot holds a job exactly where its run is of it
holds-slot_of_run : (jobs : List Job) (n : ℕ) (job : Job) (ran : Ran) → IsApart (λ (j : Job). j.key) jobs → slice_get jobs n ≡ Some job → holds n (slot_of_run jobs ran) ≡ is_run_of job.key ran
holds-slot_of_run jobs n job Idle apart at = refl
holds-slot_of_run jobs n job (KeyRan key) apart at = holds-number_by_key jobs n job key apart at

-- so the slots that hold a job are its runs
pub count_by-slots_of_runs : (jobs : List Job) (n : ℕ) (job : Job) (rans : List Ran) → IsApart (λ (j : Job). j.key) jobs → slice_get jobs n ≡ Some job → count_by (holds n) (slots_of_runs jobs rans) ≡ count_by (is_run_of job.key) rans
count_by-slots_of_runs jobs n job rans apart at =
    let same : (λ r. holds n (slot_of_run jobs r)) ≡ is_run_of job.key = λ i r. holds-slot_of_run jobs n job r apart at i in
    sum_by-map (λ o. cond (holds n o) 1 0) (slot_of_run jobs) rans ∙ ap (λ (test : Ran → Bool). sum_by (λ r. cond (test r) 1 0) rans) same

-- what a slot with a number tells of its run
run_by_slot : (jobs : List Job) (o : Option Ran) (n : ℕ) → option_map (slot_of_run jobs) o ≡ Some (Some n) → (key : Key) × (o ≡ Some (KeyRan key)) × (number_by_key jobs key ≡ Some n)
run_by_slot jobs None n e = absurd (cc e)
run_by_slot jobs (Some Idle) n e = absurd (cc e)
run_by_slot jobs (Some (KeyRan key)) n e = (key, refl, cc e)

-- the job of this number runs at u
pub record IsRunAt (jobs : List Job) (rans : List Ran) (u n : ℕ) (job : Job) : Type 0 where
  pub listed : slice_get jobs n ≡ Some job
  pub run : slice_get rans u ≡ Some (KeyRan job.key)

-- so each slot that holds a number is a run of the job of this number
pub run_at_slot : (jobs : List Job) (rans : List Ran) (u n : ℕ) → slice_get (slots_of_runs jobs rans) u ≡ Some (Some n) → (job : Job) × IsRunAt jobs rans u n job
run_at_slot jobs rans u n at =
    let r = run_by_slot jobs (slice_get rans u) n (sym (slice_get-map (slot_of_run jobs) rans u) ∙ at) in
    let own = job_by_number jobs n r.0 r.2 in
    (own.0, record { listed = own.1; run = r.1 ∙ ap (λ (k : Key). Some (KeyRan k)) (sym own.2) })
