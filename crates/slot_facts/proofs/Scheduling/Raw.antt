-- Derived windows lie in raw ones, and only offline jobs have predecessors.
use Rattle.std.proofs.Common.{◌≡◌, ℕ, ◌≤◌, true, false, List, refl, inl, inr, arith}
use Rattle.std.specs.Prelude.{Contains}
use Rattle.std.proofs.lemmas.Bool.{cases_Bool}
use Rattle.slot_core.specs.declared.jobs.Key.{Key}
use Rattle.slot_core.specs.declared.jobs.Key.TheVariants.{Offline, Sporadic, Firm, Soft}
use Rattle.slot_core.specs.declared.jobs.Job.{Job}
use Rattle.slot_core.specs.declared.tasks.TaskSet.{TaskSet}
use Rattle.slot_core.specs.Offline.Keys.{is_offline}
use Rattle.slot_core.specs.Sets.Cycles.{cycle_of}
use Rattle.slot_core.specs.Sets.Ranges.{is_sound}
use Rattle.slot_core.specs.Offline.Windows.{release_or, deadline_or, raw_release, raw_deadline, precedes}
use Rattle.slot_core.specs.Keeping.Kept.{ArePlanned}
use Rattle.slot_facts.proofs.Offline.Windows.{IsOfCycle-from_offline, IsBefore, IsBefore-from_precedes, precedes-offline}

-- of a job that is not offline the raw window is the derived one
pub release_or-other : (set : TaskSet) (key : Key) (other : ℕ) → is_offline key ≡ false → release_or set key other ≡ other
release_or-other set (Offline g t k) other e = absurd (cc e)
release_or-other set (Sporadic i r) other e = refl
release_or-other set (Firm r) other e = refl
release_or-other set (Soft r) other e = refl

-- and so is its deadline
pub deadline_or-other : (set : TaskSet) (key : Key) (other : ℕ) → is_offline key ≡ false → deadline_or set key other ≡ other
deadline_or-other set (Offline g t k) other e = absurd (cc e)
deadline_or-other set (Sporadic i r) other e = refl
deadline_or-other set (Firm r) other e = refl
deadline_or-other set (Soft r) other e = refl

-- the derived window of a planned job lies in its raw one
pub record IsInRaw (set : TaskSet) (job : Job) : Type 0 where
  pub starts : raw_release set job ≤ job.est
  pub ends : job.dl ≤ raw_deadline set job

-- so does that of any job of a planned list
pub IsInRaw-from_planned : (set : TaskSet) (cycles : ℕ) (jobs : List Job) (job : Job) → is_sound set ≡ true → ArePlanned set (cycle_of set) cycles jobs → Contains jobs job → IsInRaw set job
IsInRaw-from_planned set cycles jobs job sound planned at =
    elim (cases_Bool (is_offline job.key)) [
      | inl offline ↦
          let of_cycle = IsOfCycle-from_offline set cycles (record job { left = job.declared }) sound (planned job at offline) in
          record { starts = of_cycle.2.released; ends = of_cycle.2.due }
      | inr other ↦
          record { starts = omega (arith, release_or-other set job.key job.est other); ends = omega (arith, deadline_or-other set job.key job.dl other) }
    ]

-- a predecessor among planned jobs starts no later than its successor, and is due before it
pub IsBefore-from_planned : (set : TaskSet) (cycles : ℕ) (jobs : List Job) (a b : Job) → is_sound set ≡ true → ArePlanned set (cycle_of set) cycles jobs → Contains jobs a → Contains jobs b → precedes set a.key b.key ≡ true → IsBefore a b
IsBefore-from_planned set cycles jobs a b sound planned at_a at_b first =
    let offline = precedes-offline set a.key b.key first in
    let own = IsBefore-from_precedes set cycles (record a { left = a.declared }) (record b { left = b.declared }) sound (planned a at_a offline.0) (planned b at_b offline.1) first in
    record { starts = own.starts; due = own.due }
