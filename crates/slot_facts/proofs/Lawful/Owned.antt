-- What may run is owned by a job, so each run and early end of a lawful history of a feasible set is; and what is owned may run.
use Rattle.std.proofs.Common.{◌≡◌, ℕ, ◌+◌, ◌*◌, ◌/◌, ◌<◌, ◌≤◌, ◌⊎◌, true, not, ◌&&◌, [], ◌∷◌, sym, ap, ◌∙◌, subst, inl, inr, arith}
use Rattle.std.specs.Prelude.{nat_le}
use Rattle.std.specs.List.{list_all}
use Rattle.std.proofs.lemmas.Bool.{both_ways, true_from_ne_false, false_from_ne_true, le-leb, and_from, or_left, or_right}
use Rattle.slot_core.specs.declared.jobs.Key.{Key}
use Rattle.slot_core.specs.declared.jobs.Key.TheVariants.{Soft as SoftKey, Firm as FirmKey}
use Rattle.slot_core.specs.declared.jobs.Job.{Job}
use Rattle.slot_core.specs.declared.jobs.SoftJob.{SoftJob}
use Rattle.slot_core.specs.declared.tasks.TaskSet.{TaskSet}
use Rattle.slot_core.specs.declared.events.Ran.{Ran}
use Rattle.slot_core.specs.declared.events.Ran.TheVariants.{Idle as RanIdle, Key as RanKey}
use Rattle.slot_core.specs.declared.events.What.TheVariants.{Done, Withdraw, Run, Idle}
use Rattle.slot_core.specs.declared.events.Done.TheVariants.{Freed}
use Rattle.slot_core.specs.declared.events.Gone.TheVariants.{Freed as GoneFreed}
use Rattle.slot_core.specs.Offline.Keys.{same_key}
use Rattle.slot_core.specs.Offline.OfflineJobs.{offline_jobs}
use Rattle.slot_core.specs.Offline.Windows.{precedes}
use Rattle.slot_core.specs.Sets.Cycles.{cycle_of}
use Rattle.slot_core.specs.Sets.Ranges.{is_sound}
use Rattle.slot_core.specs.Feasibility.Feasible.{IsFeasible}
use Rattle.slot_core.specs.Runs.Histories.{History, time_of}
use Rattle.slot_core.specs.Runs.Scenes.{guaranteed_in, has_ended, with_left, soft_with_left, remaining, waiting_soft, scene_of}
use Rattle.slot_core.specs.Runs.Traces.{told_of_slot}
use Rattle.slot_core.specs.Claims.Lawful.{job_may_run, soft_job_may_run}
use Rattle.slot_facts.proofs.Histories.Unended.{Has-unended, unended_own}
use Rattle.slot_facts.proofs.Legal.Bounds.{Reaches, below_end}
use Rattle.slot_facts.proofs.Legal.Carried.{reaches-tail}
use Rattle.slot_facts.proofs.Legal.Cycles.{offline-fewer, guaranteed-more, guaranteed-fewer}
use Rattle.slot_facts.proofs.Legal.Data.{IsOfWaiting, Slots, Entries, slot_runs, job_freed, soft_freed, withdrawn}
use Rattle.slot_facts.proofs.Legal.Jobs.{guaranteed-offline, planned-from_offline}
use Rattle.slot_facts.proofs.Legal.Known.{NoneIsLate}
use Rattle.slot_facts.proofs.Legal.Owned.{JobMayRun, SoftMayRun, IsOwned}
use Rattle.slot_facts.proofs.Legal.Rows.{entries-before}
use Rattle.slot_facts.proofs.Legal.SoftOrder.{waits}
use Rattle.slot_facts.proofs.Legal.Steps.{waiting_own, job_may_end, soft_may_end}
use Rattle.slot_facts.proofs.Lists.ApartKeys.{same_key-itself}
use Rattle.slot_facts.proofs.Lists.Members.{Has, Contains-from_Has, list_any-from_Has}
use Rattle.slot_facts.proofs.Lists.Tests.{list_all-from_Has}
use Rattle.slot_facts.proofs.Offline.Jobs.{cycle-positive}
use Rattle.slot_facts.proofs.Offline.Windows.{IsBefore-from_precedes, precedes-offline}
use Rattle.slot_facts.proofs.Lawful.Data.{IsPermitted, LawfulEntries, MayRunOf, permitted-cases}
use Rattle.slot_facts.proofs.Lawful.InTime.{none_late-lawful}

module _ {S : Slots} (set : TaskSet) (cycles : ℕ) (h : History) (sound : is_sound set ≡ true) (told : Entries S set (cycle_of set) h) (reaches : Reaches set h cycles) where
  -- the cycles up to the horizon
  abbrev few : ℕ
  few = time_of h / cycle_of set + 3

  -- the time lies below their end
  below : time_of h < few * cycle_of set
  below =
      let past = below_end (time_of h) (cycle_of set) few (cycle-positive set sound) (omega arith) in
      omega arith

  -- a predecessor of a guaranteed job that has begun lies in them
  predecessor-near : (before own : Job) → Has (offline_jobs set (cycle_of set) cycles) before → Has (guaranteed_in set (cycle_of set) cycles h) own → precedes set before.key own.key ≡ true → own.est ≤ time_of h → Has (offline_jobs set (cycle_of set) few) before
  predecessor-near before own at listed first begun =
      let planned = offline_jobs set (cycle_of set) cycles in
      let second = planned-from_offline set cycles h own sound told listed (precedes-offline set before.key own.key first).1 in
      let windows = IsBefore-from_precedes set cycles before own sound (Contains-from_Has planned before at) (Contains-from_Has planned own second) first in
      elim (offline-fewer set few cycles before sound at) [
        | inl near ↦ near
        | inr far ↦ absurd (omega (arith, below, windows.starts))
      ]

  -- the job that may run is owned where none is late
  job-owned : (key : Key) → NoneIsLate set cycles h → MayRunOf set (cycle_of set) h key → JobMayRun set cycles h key
  job-owned key none_late r =
      let jobs = guaranteed_in set (cycle_of set) few h in
      let own = unended_own h jobs r.job r.among in
      let key_is : own.0.key ≡ key = sym (ap (λ (j : Job). j.key) own.1.same) ∙ r.keyed in
      let start_is : r.job.est ≡ own.0.est = ap (λ (j : Job). j.est) own.1.same in
      let listed = guaranteed-more set few cycles h own.0 reaches own.1.listed in
      let begun : own.0.est ≤ time_of h = omega (arith, r.started) in
      record {
        job = own.0;
        listed = listed;
        keyed = key_is;
        runs = own.1.runs;
        started = begun;
        early = none_late own.0 listed own.1.runs;
        ordered = λ before at first.
            let near = predecessor-near before own.0 at listed (ap (λ k. precedes set before.key k) key_is ∙ first) begun in
            true_from_ne_false (has_ended h before) (λ runs.
            let left = Has-unended h jobs before runs (guaranteed-offline set few h before near) in
            both_ways (precedes set before.key key) (r.ordered (with_left h before) left) first);
      }

  -- so is the soft job
  soft-owned : (key : Key) → IsOfWaiting h key → SoftMayRun h key
  soft-owned key r =
      let own = waiting_own h r.soft r.among in
      let row_is : r.soft.row ≡ own.0.row = ap (λ (s : SoftJob). s.row) own.1.same in
      record { soft = own.0; listed = own.1.listed; keyed = ap SoftKey (sym row_is) ∙ sym r.keyed; runs = own.1.runs }

  -- what may run is owned
  pub owned-from_permitted : (key : Key) → NoneIsLate set cycles h → IsPermitted set (cycle_of set) h (RanKey key) → JobMayRun set cycles h key ⊎ SoftMayRun h key
  owned-from_permitted key none_late may =
      elim (permitted-cases set (cycle_of set) h key may) [
        | inl r ↦ inl (job-owned key none_late r)
        | inr r ↦ inr (soft-owned key r)
      ]

  -- no predecessor remains of a job that may run
  free-from_owned : (key : Key) (may : JobMayRun set cycles h key) (j : Job) → Has (remaining set (cycle_of set) h) j → not (precedes set j.key key) ≡ true
  free-from_owned key may j at =
      ap not (false_from_ne_true (precedes set j.key key) (λ listed.
      let own = unended_own h (guaranteed_in set (cycle_of set) few h) j at in
      let first = subst (λ (j : Job). precedes set j.key key ≡ true) own.1.same listed in
      let all = guaranteed-more set few cycles h own.0 reaches own.1.listed in
      let planned = planned-from_offline set cycles h own.0 sound told all (precedes-offline set own.0.key key first).0 in
      both_ways (has_ended h own.0) own.1.runs (may.ordered own.0 planned first)))

  -- what is owned may run
  pub permitted-from_owned : (key : Key) → JobMayRun set cycles h key ⊎ SoftMayRun h key → IsPermitted set (cycle_of set) h (RanKey key)
  permitted-from_owned key (inl may) =
      let scene = scene_of set (cycle_of set) h in
      let jobs = remaining set (cycle_of set) h in
      let begun = λ (j : Job). same_key j.key key && nat_le j.est (time_of h) in
      let free = λ (j : Job). not (precedes set j.key key) in
      let near = elim (guaranteed-fewer set few cycles h may.job sound may.listed) as (λ _. Has (guaranteed_in set (cycle_of set) few h) may.job) [
        | inl near ↦ near
        | inr far ↦ absurd (omega (arith, far.0, may.started, below))
      ] in
      let left = Has-unended h (guaranteed_in set (cycle_of set) few h) may.job may.runs near in
      let keyed = same_key-itself may.job.key key may.keyed in
      let in_window = le-leb may.job.est (time_of h) may.started in
      let found = list_any-from_Has begun jobs (with_left h may.job) left (and_from (same_key may.job.key key) (nat_le may.job.est (time_of h)) keyed in_window) in
      or_left (job_may_run set scene key) (soft_job_may_run scene key) (and_from _ (list_all free jobs) found (list_all-from_Has free jobs (free-from_owned key may)))
  permitted-from_owned key (inr may) =
      let scene = scene_of set (cycle_of set) h in
      let test = λ (s : SoftJob). same_key (SoftKey s.row) key in
      let found = list_any-from_Has test (waiting_soft h) (soft_with_left h may.soft) (waits h may.soft may.listed may.runs) (same_key-itself (SoftKey may.soft.row) key may.keyed) in
      or_right (job_may_run set scene key) (soft_job_may_run scene key) found

-- each run and early end of a lawful history is owned
pub owned-lawful : (set : TaskSet) (cycles : ℕ) (h : History) → is_sound set ≡ true → IsFeasible set (cycle_of set) → LawfulEntries set (cycle_of set) h → Reaches set h cycles → IsOwned set cycles h
owned-lawful set cycles [] sound feasible told reaches = tt
owned-lawful set cycles (Run key ∷ h) sound feasible (slot_runs known lawful told) reaches =
    let near = reaches-tail set (Run key) h cycles sound reaches in
    let none_late = none_late-lawful set cycles sound feasible h told near in
    (owned-from_permitted set cycles h sound told near key none_late lawful.may, owned-lawful set cycles h sound feasible told near)
owned-lawful set cycles (Done row key (Freed n) ∷ h) sound feasible (job_freed above j started told) reaches =
    (job_may_end set cycles h key n reaches j (λ _. started), owned-lawful set cycles h sound feasible told reaches)
owned-lawful set cycles (Done row key (Freed n) ∷ h) sound feasible (soft_freed above r told) reaches =
    (soft_may_end set cycles h key n r, owned-lawful set cycles h sound feasible told reaches)
owned-lawful set cycles (Withdraw row firm (GoneFreed n) ∷ h) sound feasible (withdrawn above j told) reaches =
    (job_may_end set cycles h (FirmKey firm) n reaches j (λ planned. absurd (cc planned)), owned-lawful set cycles h sound feasible told reaches)
owned-lawful set cycles (what ∷ h) sound feasible told reaches =
    owned-lawful set cycles h sound feasible (entries-before told) (reaches-tail set what h cycles sound reaches)

-- so is what ran after it that may
pub owned-ran : (set : TaskSet) (cycles : ℕ) (h : History) (ran : Ran) → is_sound set ≡ true → IsFeasible set (cycle_of set) → LawfulEntries set (cycle_of set) h → IsPermitted set (cycle_of set) h ran → Reaches set (told_of_slot ran ∷ h) cycles → IsOwned set cycles (told_of_slot ran ∷ h)
owned-ran set cycles h RanIdle sound feasible told may reaches =
    owned-lawful set cycles h sound feasible told (reaches-tail set Idle h cycles sound reaches)
owned-ran set cycles h (RanKey key) sound feasible told may reaches =
    let near = reaches-tail set (Run key) h cycles sound reaches in
    let none_late = none_late-lawful set cycles sound feasible h told near in
    (owned-from_permitted set cycles h sound told near key none_late may, owned-lawful set cycles h sound feasible told near)
