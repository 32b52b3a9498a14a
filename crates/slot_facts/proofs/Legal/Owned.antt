-- Of each run and each early end of a history there is a job, which may run there or has slots left.
use Rattle.std.proofs.Common.{◌≡◌, ℕ, suc, ◌+◌, ◌<◌, ◌≤◌, ◌⊎◌, Bool, true, false, cond, [], ◌∷◌, ◌++◌, Some, refl, sym, ap, ◌∙◌, subst, inl, inr, arith}
use Rattle.std.specs.Prelude.{nat_le, ⊤}
use Rattle.std.proofs.lemmas.Bool.{both_ways, false_from_ne_true, or_from, cases_Bool, or_cases, or_left, or_right, leb-true, le-leb, cond-false}
use Rattle.slot_core.specs.declared.jobs.Key.{Key}
use Rattle.slot_core.specs.declared.jobs.Key.TheVariants.{Soft as SoftKey, Firm as FirmKey}
use Rattle.slot_core.specs.declared.jobs.Job.{Job}
use Rattle.slot_core.specs.declared.jobs.SoftJob.{SoftJob}
use Rattle.slot_core.specs.declared.tasks.TaskSet.{TaskSet}
use Rattle.slot_core.specs.declared.events.What.{What}
use Rattle.slot_core.specs.declared.events.What.TheVariants.{Done, Withdraw, Run}
use Rattle.slot_core.specs.declared.events.Done.TheVariants.{Freed}
use Rattle.slot_core.specs.declared.events.Gone.TheVariants.{Freed as GoneFreed}
use Rattle.slot_core.specs.Offline.Keys.{same_key, is_offline}
use Rattle.slot_core.specs.Sets.Cycles.{cycle_of}
use Rattle.slot_core.specs.Sets.Ranges.{is_sound}
use Rattle.slot_core.specs.Offline.OfflineJobs.{offline_jobs}
use Rattle.slot_core.specs.Offline.Windows.{precedes}
use Rattle.slot_core.specs.Runs.Histories.{History, Follows, time_of, executed, freed_by, is_freed, is_over, soft_jobs}
use Rattle.slot_core.specs.Runs.Scenes.{guaranteed_in, has_ended, soft_has_ended}
use Rattle.slot_facts.proofs.Choice.Earliest.{same_from_key}
use Rattle.slot_facts.proofs.Lists.Members.{Has, Contains-from_Has}
use Rattle.slot_facts.proofs.Offline.Windows.{same_offline-from_key}
use Rattle.slot_facts.proofs.Legal.Data.{Slots, Entries}
use Rattle.slot_facts.proofs.Legal.Left.{IsFurther}
use Rattle.slot_facts.proofs.Legal.Rows.{entries-before, time-rises}
use Rattle.slot_facts.proofs.Legal.Jobs.{all_jobs_in, guaranteed-cases, offline-key}

-- the job of this key may run after this history: it is inside its window, it has not ended, and its
-- predecessors have
pub record JobMayRun (set : TaskSet) (cycles : ℕ) (h : History) (key : Key) : Type 0 where
  pub job : Job
  pub listed : Has (guaranteed_in set (cycle_of set) cycles h) job
  pub keyed : job.key ≡ key
  pub runs : has_ended h job ≡ false
  pub started : job.est ≤ time_of h
  pub early : time_of h < job.dl
  pub ordered : (before : Job) → Has (offline_jobs set (cycle_of set) cycles) before → precedes set before.key key ≡ true → has_ended h before ≡ true

-- the soft job of this key may run: it has not ended
pub record SoftMayRun (h : History) (key : Key) : Type 0 where
  pub soft : SoftJob
  pub listed : Has (soft_jobs h) soft
  pub keyed : SoftKey soft.row ≡ key
  pub runs : soft_has_ended h soft ≡ false

-- the job of this key may end here with so many slots left; an offline one has started
pub record MayEnd (set : TaskSet) (cycles : ℕ) (h : History) (key : Key) (n : ℕ) : Type 0 where
  pub declared : ℕ
  pub listed : Has (all_jobs_in set (cycle_of set) cycles h) (key, declared)
  pub runs : is_over h key declared ≡ false
  pub slots : executed key h + n ≡ declared
  pub started : is_offline key ≡ true → 1 ≤ executed key h

-- each run and each early end of a history is owned by such a job
abbrev pub IsOwned : TaskSet → ℕ → History → Type 0
IsOwned set cycles [] = ⊤
IsOwned set cycles (Run key ∷ h) = (JobMayRun set cycles h key ⊎ SoftMayRun h key) × IsOwned set cycles h
IsOwned set cycles (Done row key (Freed n) ∷ h) = MayEnd set cycles h key n × IsOwned set cycles h
IsOwned set cycles (Withdraw row firm (GoneFreed n) ∷ h) = MayEnd set cycles h (FirmKey firm) n × IsOwned set cycles h
IsOwned set cycles (_ ∷ h) = IsOwned set cycles h

-- so are those of the entries before
owned-tail : (set : TaskSet) (cycles : ℕ) (what : What) (h : History) → IsOwned set cycles (what ∷ h) → IsOwned set cycles h
owned-tail set cycles (Run key) h owned = owned.1
owned-tail set cycles (Done row key (Freed n)) h owned = owned.1
owned-tail set cycles (Withdraw row firm (GoneFreed n)) h owned = owned.1
owned-tail set cycles what h owned = owned

owned-earlier : (set : TaskSet) (cycles : ℕ) (later h : History) → IsOwned set cycles (later ++ h) → IsOwned set cycles h
owned-earlier set cycles [] h owned = owned
owned-earlier set cycles (what ∷ later) h owned = owned-earlier set cycles later h (owned-tail set cycles what (later ++ h) owned)

-- what is owned of a run and of an early end that stand in the history
pub run-owned : (set : TaskSet) (cycles : ℕ) (h : History) (key : Key) (earlier : History) → IsOwned set cycles h → Follows h (Run key) earlier → JobMayRun set cycles earlier key ⊎ SoftMayRun earlier key
run-owned set cycles h key earlier owned (later, same) =
    (owned-earlier set cycles later (Run key ∷ earlier) (subst (IsOwned set cycles) same owned)).0

end-owned : (set : TaskSet) (cycles : ℕ) (what : What) (h : History) (key : Key) (n : ℕ) → IsOwned set cycles (what ∷ h) → freed_by what ≡ Some (key, n) → MayEnd set cycles h key n
end-owned set cycles (Done row k (Freed m)) h key n owned e =
    let found : Key × ℕ = (k, m) in
    let asked : Key × ℕ = (key, n) in
    let same : found ≡ asked = cc in
    subst (λ (p : Key × ℕ). MayEnd set cycles h p.0 p.1) same owned.0
end-owned set cycles (Withdraw row firm (GoneFreed m)) h key n owned e =
    let found : Key × ℕ = (FirmKey firm, m) in
    let asked : Key × ℕ = (key, n) in
    let same : found ≡ asked = cc in
    subst (λ (p : Key × ℕ). MayEnd set cycles h p.0 p.1) same owned.0
end-owned set cycles what h key n owned e = absurd (cc e)

pub freed-owned : (set : TaskSet) (cycles : ℕ) (h : History) (what : What) (key : Key) (n : ℕ) (earlier : History) → IsOwned set cycles h → Follows h what earlier → freed_by what ≡ Some (key, n) → MayEnd set cycles earlier key n
freed-owned set cycles h what key n earlier owned (later, same) e =
    end-owned set cycles what earlier key n (owned-earlier set cycles later (what ∷ earlier) (subst (IsOwned set cycles) same owned)) e

-- the slots that a job has run, and its early end, only grow
pub is_further : (what : What) (h : History) → IsFurther h (what ∷ h)
is_further (Run key) h = record { ran = λ k. ran_more (same_key k key) (executed k h); freed = λ k e. e }
  where
    ran_more : (same : Bool) (ran : ℕ) → ran ≤ cond same (suc ran) ran
    ran_more true ran = omega arith
    ran_more false ran = omega arith
is_further (Done row key (Freed n)) h =
    record { ran = λ k. omega arith; freed = λ k e. or_right (same_key k key) (is_freed k h) e }
is_further (Withdraw row firm (GoneFreed n)) h =
    record { ran = λ k. omega arith; freed = λ k e. or_right (same_key k (FirmKey firm)) (is_freed k h) e }
is_further what h = record { ran = λ k. omega arith; freed = λ k e. e }

-- what has ended stays so
pub over-further : (before after : History) (key : Key) (declared : ℕ) → IsFurther before after → is_over before key declared ≡ true → is_over after key declared ≡ true
over-further before after key declared further over =
    elim (or_cases (nat_le declared (executed key before)) (is_freed key before) over) [
      | inl ran ↦
          let enough = leb-true declared (executed key before) ran in
          or_left (nat_le declared (executed key after)) (is_freed key after) (le-leb declared (executed key after) (omega (arith, further.ran key)))
      | inr freed ↦ or_right (nat_le declared (executed key after)) (is_freed key after) (further.freed key freed)
    ]

pub over-later : (later h : History) (key : Key) (declared : ℕ) → is_over h key declared ≡ true → is_over (later ++ h) key declared ≡ true
over-later [] h key declared over = over
over-later (what ∷ later) h key declared over =
    over-further (later ++ h) (what ∷ (later ++ h)) key declared (is_further what (later ++ h)) (over-later later h key declared over)

-- and what has not ended had not
pub not_over-earlier : (what : What) (h : History) (key : Key) (declared : ℕ) → is_over (what ∷ h) key declared ≡ false → is_over h key declared ≡ false
not_over-earlier what h key declared runs =
    false_from_ne_true (is_over h key declared) (λ over. both_ways (is_over (what ∷ h) key declared) runs (over-further h (what ∷ h) key declared (is_further what h) over))

-- an offline job of the same key as one that may run is that job
module _ (set : TaskSet) (cycles : ℕ) (sound : is_sound set ≡ true) where
  abbrev Planned : Job → Type 0
  Planned job = Has (offline_jobs set (cycle_of set) cycles) job

  -- the run of an offline job is owned by it
  pub own-run : {S : Slots} (h : History) (job : Job) (key : Key) → Entries S set (cycle_of set) h → Planned job → same_key job.key key ≡ true → JobMayRun set cycles h key ⊎ SoftMayRun h key → (has_ended h job ≡ false) × (job.est ≤ time_of h) × ((before : Job) → Planned before → precedes set before.key job.key ≡ true → has_ended h before ≡ true)
  own-run h job key l at same (inl may) =
      let keyed = same_from_key job.key key same in
      elim (guaranteed-cases set cycles h may.job sound l may.listed) [
        | inl planned ↦
            let jobs = offline_jobs set (cycle_of set) cycles in
            let own = same_offline-from_key set cycles may.job job (Contains-from_Has jobs may.job planned) (Contains-from_Has jobs job at) (may.keyed ∙ sym keyed) in
            (subst (λ (j : Job). has_ended h j ≡ false) own may.runs, subst (λ (j : Job). j.est ≤ time_of h) own may.started, λ before first listed. may.ordered before first (ap (λ k. precedes set before.key k) (sym keyed) ∙ listed))
        | inr come ↦
            absurd (both_ways (is_offline job.key) (ap is_offline (keyed ∙ sym may.keyed) ∙ come.not_offline) (offline-key set (cycle_of set) cycles job at))
      ]
  own-run h job key l at same (inr may) =
      let keyed = same_from_key job.key key same in
      absurd (both_ways (is_offline job.key) (ap is_offline (keyed ∙ sym may.keyed)) (offline-key set (cycle_of set) cycles job at))

  -- an offline job that starts later has not run
  pub not_run-early : {S : Slots} (h : History) (job : Job) → Entries S set (cycle_of set) h → IsOwned set cycles h → Planned job → time_of h ≤ job.est → executed job.key h ≡ 0
  not_run-early [] job l owned at early = refl
  not_run-early (Run key ∷ h) job l owned at early =
      elim (cases_Bool (same_key job.key key)) [
        | inl same ↦
            let own = own-run h job key (entries-before l) at same owned.0 in
            absurd (omega (arith, own.1))
        | inr other ↦
            cond-false (same_key job.key key) (suc (executed job.key h)) (executed job.key h) other ∙ not_run-early h job (entries-before l) owned.1 at (omega arith)
      ]
  not_run-early (what ∷ h) job l owned at early =
      not_run-early h job (entries-before l) (owned-tail set cycles what h owned) at (omega (arith, time-rises what h))

  -- one that has a predecessor that has not ended has not run
  pub not_run-waiting : {S : Slots} (h : History) (before job : Job) → Entries S set (cycle_of set) h → IsOwned set cycles h → Planned before → Planned job → precedes set before.key job.key ≡ true → has_ended h before ≡ false → executed job.key h ≡ 0
  not_run-waiting [] before job l owned first at listed waits = refl
  not_run-waiting (Run key ∷ h) before job l owned first at listed waits =
      let waited = not_over-earlier (Run key) h before.key before.declared waits in
      elim (cases_Bool (same_key job.key key)) [
        | inl same ↦
            let own = own-run h job key (entries-before l) at same owned.0 in
            absurd (both_ways (has_ended h before) waited (own.2 before first listed))
        | inr other ↦
            cond-false (same_key job.key key) (suc (executed job.key h)) (executed job.key h) other ∙ not_run-waiting h before job (entries-before l) owned.1 first at listed waited
      ]
  not_run-waiting (what ∷ h) before job l owned first at listed waits =
      not_run-waiting h before job (entries-before l) (owned-tail set cycles what h owned) first at listed (not_over-earlier what h before.key before.declared waits)

  -- and one that has not run was not ended
  pub not_freed : {S : Slots} (h : History) (job : Job) → Entries S set (cycle_of set) h → IsOwned set cycles h → Planned job → executed job.key h ≡ 0 → is_freed job.key h ≡ false
  not_freed [] job l owned at none = refl
  not_freed (Run key ∷ h) job l owned at none =
      not_freed h job (entries-before l) owned.1 at (omega (arith, (is_further (Run key) h).ran job.key))
  not_freed (Done row key (Freed n) ∷ h) job l owned at none =
      let other = false_from_ne_true (same_key job.key key) (λ same.
      let keyed = same_from_key job.key key same in
      let planned = ap is_offline (sym keyed) ∙ offline-key set (cycle_of set) cycles job at in
      absurd (omega (arith, owned.0.started planned, ap (λ k. executed k h) keyed))) in
      or_from (same_key job.key key) (is_freed job.key h) other (not_freed h job (entries-before l) owned.1 at none)
  not_freed (Withdraw row firm (GoneFreed n) ∷ h) job l owned at none =
      let other = false_from_ne_true (same_key job.key (FirmKey firm)) (λ same.
      both_ways (is_offline job.key) (ap is_offline (same_from_key job.key (FirmKey firm) same)) (offline-key set (cycle_of set) cycles job at)) in
      or_from (same_key job.key (FirmKey firm)) (is_freed job.key h) other (not_freed h job (entries-before l) owned.1 at none)
  not_freed (what ∷ h) job l owned at none =
      not_freed h job (entries-before l) (owned-tail set cycles what h owned) at none
