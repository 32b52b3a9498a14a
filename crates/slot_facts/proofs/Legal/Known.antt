-- What was known earlier in a history: the jobs that are due by then, and the job of each run and early end.
use Rattle.std.proofs.Common.{◌≡◌, ℕ, ◌+◌, ◌/◌, ◌<◌, ◌≤◌, true, false, [], ◌∷◌, ◌++◌, Some, sym, ap, ◌∙◌, subst, inl, inr, arith}
use Rattle.std.proofs.lemmas.Bool.{true_from_ne_false}
use Rattle.slot_core.specs.declared.jobs.Key.{Key}
use Rattle.slot_core.specs.declared.jobs.Key.TheVariants.{Soft as SoftKey, Firm as FirmKey}
use Rattle.slot_core.specs.declared.jobs.Job.{Job}
use Rattle.slot_core.specs.declared.jobs.SoftJob.{SoftJob}
use Rattle.slot_core.specs.declared.tasks.TaskSet.{TaskSet}
use Rattle.slot_core.specs.declared.events.What.{What}
use Rattle.slot_core.specs.declared.events.What.TheVariants.{Firm, Sporadic as SporadicEntry, Done, Withdraw, Run}
use Rattle.slot_core.specs.declared.events.Firm.TheVariants.{Accepted}
use Rattle.slot_core.specs.declared.events.Spo.TheVariants.{Taken as SporadicTaken}
use Rattle.slot_core.specs.declared.events.Done.TheVariants.{Freed}
use Rattle.slot_core.specs.declared.events.Gone.TheVariants.{Freed as GoneFreed}
use Rattle.slot_core.specs.Sets.Cycles.{cycle_of}
use Rattle.slot_core.specs.Sets.Ranges.{is_sound}
use Rattle.slot_core.specs.Offline.OfflineJobs.{offline_jobs}
use Rattle.slot_core.specs.Runs.Histories.{History, time_of, freed_by, firm_jobs, sporadic_jobs}
use Rattle.slot_core.specs.Runs.Scenes.{guaranteed_in, has_ended, remaining, waiting_soft}
use Rattle.slot_core.specs.Claims.Service.{Concerns}
use Rattle.slot_facts.proofs.Choice.Earliest.{same_from_key}
use Rattle.slot_facts.proofs.Lists.Members.{Has, Has-append_left, Has-append_right, Has-append_cases, Has-from_slice_get}
use Rattle.slot_facts.proofs.Sets.Tasks.{slice_get-within}
use Rattle.slot_facts.proofs.Histories.Unended.{unended_own}
use Rattle.slot_facts.proofs.Bounds.CycleDemand.{FitsCycle-from_Has}
use Rattle.slot_facts.proofs.Legal.Data.{Slots, Entries, slot_runs, job_freed, soft_freed, withdrawn}
use Rattle.slot_facts.proofs.Legal.Jobs.{guaranteed-offline, all_jobs_in, all_jobs-of_job, all_jobs-of_soft}
use Rattle.slot_facts.proofs.Legal.Rows.{entries-before, time-rises, accepted-says, sporadic_taken-says, sporadic_job-at}
use Rattle.slot_facts.proofs.Legal.Steps.{waiting_own}

-- the time does not fall over many entries
pub time-earlier : (later h : History) → time_of h ≤ time_of (later ++ h)
time-earlier [] h = omega arith
time-earlier (what ∷ later) h = omega (arith, time-earlier later h, time-rises what (later ++ h))

-- a firm job that came later is due later
firm-known : {S : Slots} (set : TaskSet) (cycle : ℕ) (later h : History) (job : Job) → Entries S set cycle (later ++ h) → Has (firm_jobs (later ++ h)) job → job.dl ≤ time_of h → Has (firm_jobs h) job
firm-known set cycle [] h job l at due = at
firm-known set cycle (Firm row slots within Accepted ∷ later) h job l (inl e) due =
    let ends : time_of (later ++ h) + within ≡ job.dl = ap (λ (j : Job). j.dl) e in
    absurd (omega (arith, (accepted-says l).later, time-earlier later h))
firm-known set cycle (Firm row slots within Accepted ∷ later) h job l (inr at) due =
    firm-known set cycle later h job (entries-before l) at due
firm-known set cycle (what ∷ later) h job l at due = firm-known set cycle later h job (entries-before l) at due

-- so is a sporadic job
sporadic-known : {S : Slots} (set : TaskSet) (later h : History) (job : Job) → is_sound set ≡ true → Entries S set (cycle_of set) (later ++ h) → Has (sporadic_jobs set.sporadics (later ++ h)) job → job.dl ≤ time_of h → Has (sporadic_jobs set.sporadics h) job
sporadic-known set [] h job sound l at due = at
sporadic-known set (SporadicEntry row index (SporadicTaken until) ∷ later) h job sound l (inl e) due =
    let (s, at) = slice_get-within set.sporadics index (sporadic_taken-says l).named in
    let fits = FitsCycle-from_Has set s sound (Has-from_slice_get set.sporadics index s at) in
    let ends : job.dl ≡ time_of (later ++ h) + s.deadline =
    ap (λ (j : Job). j.dl) (sym e ∙ sporadic_job-at set.sporadics index row (time_of (later ++ h)) s at) in
    absurd (omega (arith, fits.later, time-earlier later h))
sporadic-known set (SporadicEntry row index (SporadicTaken until) ∷ later) h job sound l (inr at) due =
    sporadic-known set later h job sound (entries-before l) at due
sporadic-known set (what ∷ later) h job sound l at due = sporadic-known set later h job sound (entries-before l) at due

-- so each guaranteed job that is due by then was known
pub guaranteed-known : {S : Slots} (set : TaskSet) (cycles : ℕ) (later h : History) (job : Job) → is_sound set ≡ true → Entries S set (cycle_of set) (later ++ h) → Has (guaranteed_in set (cycle_of set) cycles (later ++ h)) job → job.dl ≤ time_of h → Has (guaranteed_in set (cycle_of set) cycles h) job
guaranteed-known set cycles later h job sound l at due =
    let planned = offline_jobs set (cycle_of set) cycles in
    let all = later ++ h in
    elim (Has-append_cases (planned ++ firm_jobs all) (sporadic_jobs set.sporadics all) job at) [
      | inl a ↦ elim (Has-append_cases planned (firm_jobs all) job a) [
        | inl b ↦ guaranteed-offline set cycles h job b
        | inr b ↦ Has-append_left (planned ++ firm_jobs h) (sporadic_jobs set.sporadics h) job (Has-append_right planned (firm_jobs h) job (firm-known set (cycle_of set) later h job l b due))
      ]
      | inr a ↦ Has-append_right (planned ++ firm_jobs h) (sporadic_jobs set.sporadics h) job (sporadic-known set later h job sound l a due)
    ]

-- no job that has not ended is past its deadline
abbrev pub NoneIsLate : TaskSet → ℕ → History → Type 0
NoneIsLate set cycles h =
    (job : Job) → Has (guaranteed_in set (cycle_of set) cycles h) job → has_ended h job ≡ false → time_of h < job.dl

-- so where no job was late each that is due by then has ended
pub ended-in_time : {S : Slots} (set : TaskSet) (cycles : ℕ) (later h : History) (job : Job) → is_sound set ≡ true → Entries S set (cycle_of set) (later ++ h) → NoneIsLate set cycles h → Has (guaranteed_in set (cycle_of set) cycles (later ++ h)) job → job.dl ≤ time_of h → has_ended h job ≡ true
ended-in_time set cycles later h job sound told none_late at due =
    let listed = guaranteed-known set cycles later h job sound told at due in
    true_from_ne_false (has_ended h job) (λ runs. absurd (omega (arith, none_late job listed runs)))

-- a history has a job of this key
abbrev pub HasJobOf : TaskSet → History → Key → Type 0
HasJobOf set h key =
    (declared : ℕ) × Has (all_jobs_in set (cycle_of set) (time_of h / cycle_of set + 3) h) (key, declared)

-- a remaining job is one of the history, and so is a soft job that waits
remaining-known : (set : TaskSet) (h : History) (job : Job) (key : Key) → Has (remaining set (cycle_of set) h) job → job.key ≡ key → HasJobOf set h key
remaining-known set h job key at keyed =
    let cycles = time_of h / cycle_of set + 3 in
    let own = unended_own h (guaranteed_in set (cycle_of set) cycles h) job at in
    let key_is : own.0.key ≡ key = sym (ap (λ (j : Job). j.key) own.1.same) ∙ keyed in
    subst (HasJobOf set h) key_is (own.0.declared, all_jobs-of_job set cycles h own.0 own.1.listed)

waiting-known : (set : TaskSet) (h : History) (soft : SoftJob) (key : Key) → Has (waiting_soft h) soft → SoftKey soft.row ≡ key → HasJobOf set h key
waiting-known set h soft key at keyed =
    let cycles = time_of h / cycle_of set + 3 in
    let own = waiting_own h soft at in
    let key_is : SoftKey own.0.row ≡ key = sym (ap (λ (s : SoftJob). SoftKey s.row) own.1.same) ∙ keyed in
    subst (HasJobOf set h) key_is (own.0.declared, all_jobs-of_soft set cycles h own.0 own.1.listed)

-- so each run is of a job that the history before it has
run-known : {S : Slots} {set : TaskSet} {key : Key} {h : History} → Entries S set (cycle_of set) (Run key ∷ h) → HasJobOf set h key
run-known {set = set} {key = key} {h = h} (slot_runs (inl r) s l) = remaining-known set h r.job key r.among (sym r.keyed)
run-known {set = set} {key = key} {h = h} (slot_runs (inr r) s l) = waiting-known set h r.soft key r.among (sym r.keyed)

-- and so is each early end and each withdrawal
done-known : {S : Slots} {set : TaskSet} {row n : ℕ} {key : Key} {h : History} → Entries S set (cycle_of set) (Done row key (Freed n) ∷ h) → HasJobOf set h key
done-known {set = set} {key = key} {h = h} (job_freed above j started l) =
    remaining-known set h j.job key j.among (same_from_key j.job.key key j.keyed)
done-known {set = set} {key = key} {h = h} (soft_freed above r l) =
    waiting-known set h r.soft key r.among (same_from_key (SoftKey r.soft.row) key r.keyed)

withdrawn-known : {S : Slots} {set : TaskSet} {row firm n : ℕ} {h : History} → Entries S set (cycle_of set) (Withdraw row firm (GoneFreed n) ∷ h) → HasJobOf set h (FirmKey firm)
withdrawn-known {set = set} {firm = firm} {h = h} (withdrawn above j l) =
    remaining-known set h j.job (FirmKey firm) j.among (same_from_key j.job.key (FirmKey firm) j.keyed)

freed-known : {S : Slots} (set : TaskSet) (what : What) (key : Key) (n : ℕ) (h : History) → Entries S set (cycle_of set) (what ∷ h) → freed_by what ≡ Some (key, n) → HasJobOf set h key
freed-known set (Done row k (Freed m)) key n h l e =
    let found : Key × ℕ = (k, m) in
    let asked : Key × ℕ = (key, n) in
    let pairs : found ≡ asked = cc in
    subst (HasJobOf set h) (ap (λ (p : Key × ℕ). p.0) pairs) (done-known l)
freed-known set (Withdraw row firm (GoneFreed m)) key n h l e =
    let found : Key × ℕ = (FirmKey firm, m) in
    let asked : Key × ℕ = (key, n) in
    let pairs : found ≡ asked = cc in
    subst (HasJobOf set h) (ap (λ (p : Key × ℕ). p.0) pairs) (withdrawn-known l)
freed-known set what key n h l e = absurd (cc e)

pub concerned-known : {S : Slots} (set : TaskSet) (what : What) (key : Key) (h : History) → Entries S set (cycle_of set) (what ∷ h) → Concerns what key → HasJobOf set h key
concerned-known {S = S} set what key h l (inl runs) =
    run-known (subst (λ w. Entries S set (cycle_of set) (w ∷ h)) runs l)
concerned-known set what key h l (inr (n, e)) = freed-known set what key n h l e
