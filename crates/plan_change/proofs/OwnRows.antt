-- No two firm or sporadic jobs that remain have one row.
use Rattle.std.proofs.Common.{◌≡◌, ℕ, ◌+◌, ◌/◌, ◌<◌, ◌≤◌, Bool, true, false, cond, ◌&&◌, not, ◌==◌, List, [], ◌∷◌, ◌++◌, refl, sym, ap, ◌∙◌, inl, inr, arith}
use Rattle.std.specs.Prelude.{count_by, filter, sum_by}
use Rattle.std.proofs.lemmas.Bool.{cases_eq, cond-false}
use Rattle.std.proofs.lemmas.Bool.Decides.{nat_tests}
use Rattle.std.proofs.lemmas.List.Sums.{sum_by-append, sum_by-cons}
use Rattle.slot_core.specs.declared.jobs.Job.{Job}
use Rattle.slot_core.specs.declared.tasks.TaskSet.{TaskSet}
use Rattle.slot_core.specs.declared.events.What.TheVariants.{Firm, Sporadic as SporadicEntry}
use Rattle.slot_core.specs.declared.events.Firm.TheVariants.{Accepted}
use Rattle.slot_core.specs.declared.events.Spo.TheVariants.{Taken as SporadicTaken}
use Rattle.slot_core.specs.Offline.Keys.{is_offline, row_of}
use Rattle.slot_core.specs.Offline.OfflineJobs.{offline_jobs}
use Rattle.slot_core.specs.Sets.Cycles.{cycle_of}
use Rattle.slot_core.specs.Sets.Ranges.{is_sound}
use Rattle.slot_core.specs.Runs.Histories.{firm_jobs, History, last_row, offered_job, sporadic_job, sporadic_jobs, time_of}
use Rattle.slot_core.specs.Runs.Scenes.{guaranteed, has_ended, remaining, unended, with_left}
use Rattle.slot_facts.proofs.Legal.Data.{Entries, Slots}
use Rattle.slot_facts.proofs.Legal.Jobs.{offline-key}
use Rattle.slot_facts.proofs.Legal.Rows.{accepted-says, entries-before, firm-come, sporadic-come, sporadic_taken-says}
use Rattle.slot_facts.proofs.Lists.Apart.{count-none}
use Rattle.slot_facts.proofs.Lists.Members.{Has}
use Rattle.slot_facts.proofs.Lists.Sums.{cond-le, sum_by-filter, sum_by-map}

-- a firm or sporadic job in this row
abbrev pub is_own : ℕ → Job → Bool
is_own row job = not (is_offline job.key) && row_of job.key == row

-- how many of the jobs are that
abbrev pub own_count : ℕ → List Job → ℕ
own_count row jobs = count_by (is_own row) jobs

abbrev one : ℕ → Job → ℕ
one row job = cond (is_own row job) 1 0

own_count-cons : (row : ℕ) (job : Job) (jobs : List Job) → own_count row (job ∷ jobs) ≡ one row job + own_count row jobs
own_count-cons row job jobs = sum_by-cons (one row) job jobs

not_in_row : (off : Bool) (r row : ℕ) → (r ≡ row → ⊥) → (not off && r == row) ≡ false
not_in_row off r row other = grind (arith, nat_tests)

-- none of the jobs in lower rows is in this one
none-below : (row : ℕ) (jobs : List Job) → ((job : Job) → Has jobs job → row_of job.key < row) → own_count row jobs ≡ 0
none-below row jobs below =
    count-none (is_own row) jobs (λ job at. not_in_row (is_offline job.key) (row_of job.key) row (λ e. absurd (omega (arith, below job at))))

-- firm and sporadic jobs of a history
abbrev came : TaskSet → ℕ → History → ℕ
came set row h = own_count row (firm_jobs h) + own_count row (sporadic_jobs set.sporadics h)

-- no job of a history stands above its last row
none-above : {S : Slots} (set : TaskSet) (row : ℕ) (h : History) → is_sound set ≡ true → Entries S set (cycle_of set) h → last_row h < row → came set row h ≡ 0
none-above set row h sound l above =
    omega (
      arith,
      none-below row (firm_jobs h) (λ job at. omega (arith, (firm-come set (cycle_of set) h job l at).row_at_most, above)),
      none-below row (sporadic_jobs set.sporadics h) (λ job at. omega (arith, (sporadic-come set h job sound l at).row_at_most, above)),
    )

one-le : (row : ℕ) (job : Job) → one row job ≤ 1
one-le row job = cond-le (is_own row job) 1

one-other : (row : ℕ) (job : Job) → (row_of job.key ≡ row → ⊥) → one row job ≡ 0
one-other row job other =
    cond-false {A = ℕ} (is_own row job) 1 0 (not_in_row (is_offline job.key) (row_of job.key) row other)

-- one more job in a row above those before it
one_more : (row new count : ℕ) (job : Job) → row_of job.key ≡ new → count ≤ 1 → (new ≡ row → count ≡ 0) → one row job + count ≤ 1
one_more row new count job here few fresh =
    elim (cases_eq new row) [
      | inl same ↦ omega (arith, fresh same, one-le row job)
      | inr other ↦ omega (arith, one-other row job (λ e. other (sym here ∙ e)), few)
    ]

-- at most one of them is in each row
came-apart : {S : Slots} (set : TaskSet) (row : ℕ) (h : History) → is_sound set ≡ true → Entries S set (cycle_of set) h → came set row h ≤ 1
came-apart set row [] sound l = omega arith
came-apart set row (Firm new slots within Accepted ∷ h) sound l =
    let job = offered_job new (time_of h) slots within in
    let rest = came-apart set row h sound (entries-before l) in
    let fresh = λ (same : new ≡ row). none-above set row h sound (entries-before l) (omega (arith, same, (accepted-says l).above)) in
    omega (arith, own_count-cons row job (firm_jobs h), one_more row new (came set row h) job refl rest fresh)
came-apart set row (SporadicEntry new index (SporadicTaken due) ∷ h) sound l =
    let job = sporadic_job set.sporadics index new (time_of h) in
    let rest = came-apart set row h sound (entries-before l) in
    let fresh = λ (same : new ≡ row). none-above set row h sound (entries-before l) (omega (arith, same, (sporadic_taken-says l).above)) in
    omega (arith, own_count-cons row job (sporadic_jobs set.sporadics h), one_more row new (came set row h) job refl rest fresh)
came-apart set row (what ∷ h) sound l = came-apart set row h sound (entries-before l)

-- how many have not ended, as a sum over all
unended-sum : (row : ℕ) (h : History) (jobs : List Job) → own_count row (unended h jobs) ≡ sum_by (λ (j : Job). cond (not (has_ended h j)) (one row j) 0) jobs
unended-sum row h jobs =
    let test = λ (j : Job). not (has_ended h j) in
    sum_by-map (one row) (with_left h) (filter test jobs) ∙ sum_by-filter (one row) test jobs

-- the jobs that have not ended are no more
unended-le : (row : ℕ) (h : History) (jobs : List Job) → own_count row (unended h jobs) ≤ own_count row jobs
unended-le row h [] = omega arith
unended-le row h (job ∷ jobs) =
    let test = λ (j : Job). not (has_ended h j) in
    omega (
      arith,
      unended-sum row h (job ∷ jobs),
      unended-sum row h jobs,
      sum_by-cons (λ (j : Job). cond (test j) (one row j) 0) job jobs,
      cond-le (test job) (one row job),
      own_count-cons row job jobs,
      unended-le row h jobs,
    )

-- so at most one remaining job is in each row
pub own_rows : {S : Slots} (set : TaskSet) (row : ℕ) (h : History) → is_sound set ≡ true → Entries S set (cycle_of set) h → own_count row (remaining set (cycle_of set) h) ≤ 1
own_rows set row h sound l =
    let cycle = cycle_of set in
    let planned = offline_jobs set cycle (time_of h / cycle + 3) in
    let firm = firm_jobs h in
    let sporadic = sporadic_jobs set.sporadics h in
    let none = count-none (is_own row) planned (λ job at. ap (λ b. not b && row_of job.key == row) (offline-key set cycle (time_of h / cycle + 3) job at)) in
    omega (
      arith,
      unended-le row h (guaranteed set cycle h),
      sum_by-append (one row) (planned ++ firm) sporadic,
      sum_by-append (one row) planned firm,
      none,
      came-apart set row h sound l,
    )
