-- Lawful histories as data: in each slot something runs that may, and no remaining job is late after it.
use Rattle.std.proofs.Common.{◌≡◌, ℕ, ◌≤◌, ◌⊎◌, true, false, not, ◌&&◌, [], ◌∷◌, sym, subst, inl, inr}
use Rattle.std.specs.Prelude.{nat_le}
use Rattle.std.specs.List.{list_any, list_all}
use Rattle.std.proofs.lemmas.Bool.{and_parts, or_cases, not-true, leb-true}
use Rattle.slot_core.specs.declared.jobs.Key.{Key}
use Rattle.slot_core.specs.declared.jobs.Key.TheVariants.{Soft as SoftKey}
use Rattle.slot_core.specs.declared.jobs.Job.{Job}
use Rattle.slot_core.specs.declared.jobs.SoftJob.{SoftJob}
use Rattle.slot_core.specs.declared.tasks.TaskSet.{TaskSet}
use Rattle.slot_core.specs.declared.events.Ran.{Ran}
use Rattle.slot_core.specs.declared.events.Ran.TheVariants.{Idle as RanIdle, Key as RanKey}
use Rattle.slot_core.specs.declared.events.What.{What}
use Rattle.slot_core.specs.declared.events.What.TheVariants.{Start, End}
use Rattle.slot_core.specs.Offline.Keys.{same_key}
use Rattle.slot_core.specs.Offline.Windows.{precedes}
use Rattle.slot_core.specs.Runs.Histories.{History, time_of}
use Rattle.slot_core.specs.Runs.Scenes.{remaining, waiting_soft, scene_of}
use Rattle.slot_core.specs.Runs.Traces.{Occurrence, arrive, slot, told_of_slot, MayCome}
use Rattle.slot_core.specs.Claims.Lawful.{job_may_run, soft_job_may_run, may_run, is_in_time, MayTell, IsLawful}
use Rattle.slot_facts.proofs.Choice.Earliest.{same_from_key}
use Rattle.slot_facts.proofs.Legal.Data.{IsOfWaiting, IsOfUnended, Slots, Entries, empty, at_start, at_end, slot_runs, idles, entries-weaker, data-answer}
use Rattle.slot_facts.proofs.Lists.Members.{Has, Has-from_list_any, passes_from_list_all}

-- this may run in the slot
abbrev pub IsPermitted : TaskSet → ℕ → History → Ran → Type 0
IsPermitted set cycle h ran = may_run set (scene_of set cycle h) ran ≡ true

-- this may run in the slot, and no remaining job is late after it
pub record IsLawfulSlot (set : TaskSet) (cycle : ℕ) (h : History) (ran : Ran) : Type 0 where
  pub may : IsPermitted set cycle h ran
  pub in_time : is_in_time (scene_of set cycle (told_of_slot ran ∷ h)) ≡ true

-- the entries of a lawful history
abbrev pub LawfulEntries : TaskSet → ℕ → History → Type 0
LawfulEntries set cycle = Entries (IsLawfulSlot set cycle) set cycle

-- a remaining job of this key may run: its window has begun, and no predecessor of it remains
pub record MayRunOf (set : TaskSet) (cycle : ℕ) (h : History) (key : Key) : Type 0 where
  pub job : Job
  pub among : Has (remaining set cycle h) job
  pub keyed : job.key ≡ key
  pub started : job.est ≤ time_of h
  pub ordered : (before : Job) → Has (remaining set cycle h) before → precedes set before.key key ≡ false

-- what may run is such a job, or a soft job that waits
pub permitted-cases : (set : TaskSet) (cycle : ℕ) (h : History) (key : Key) → IsPermitted set cycle h (RanKey key) → MayRunOf set cycle h key ⊎ IsOfWaiting h key
permitted-cases set cycle h key may =
    let scene = scene_of set cycle h in
    let jobs = remaining set cycle h in
    let begun = λ (j : Job). same_key j.key key && nat_le j.est scene.time in
    let free = λ (j : Job). not (precedes set j.key key) in
    let waits = λ (s : SoftJob). same_key (SoftKey s.row) key in
    elim (or_cases (job_may_run set scene key) (soft_job_may_run scene key) may) [
      | inl job ↦
          let both = and_parts (list_any begun jobs) (list_all free jobs) job in
          let found = Has-from_list_any begun jobs both.0 in
          let parts = and_parts (same_key found.0.key key) (nat_le found.0.est scene.time) found.2 in
          inl (record {
            job = found.0;
            among = found.1;
            keyed = same_from_key found.0.key key parts.0;
            started = leb-true found.0.est scene.time parts.1;
            ordered = λ before at. not-true (precedes set before.key key) (passes_from_list_all free jobs before both.1 at);
          })
      | inr soft ↦
          let found = Has-from_list_any waits (waiting_soft h) soft in
          inr (record { soft = found.0; among = found.1; keyed = sym (same_from_key (SoftKey found.0.row) key found.2) })
    ]

-- so it has not ended
pub permitted-unended : (set : TaskSet) (cycle : ℕ) (h : History) (key : Key) → IsPermitted set cycle h (RanKey key) → IsOfUnended set cycle h key
permitted-unended set cycle h key may =
    elim (permitted-cases set cycle h key may) [
      | inl r ↦ inl (record { job = r.job; among = r.among; keyed = sym r.keyed })
      | inr r ↦ inr r
    ]

-- a slot in which something runs that may is one entry more
pub data-ran : {S : Slots} (set : TaskSet) (cycle : ℕ) (h : History) (ran : Ran) → IsPermitted set cycle h ran → S h ran → Entries S set cycle h → Entries S set cycle (told_of_slot ran ∷ h)
data-ran set cycle h RanIdle may s told = idles s told
data-ran set cycle h (RanKey key) may s told = slot_runs (permitted-unended set cycle h key may) s told

-- a lawful history, and a slot more in which something runs that may, whatever is late after it
pub permitted-longer : (set : TaskSet) (cycle : ℕ) (h : History) (ran : Ran) → LawfulEntries set cycle h → IsPermitted set cycle h ran → Entries (IsPermitted set cycle) set cycle (told_of_slot ran ∷ h)
permitted-longer set cycle h ran told may =
    data-ran set cycle h ran may may (entries-weaker (λ h ran s. s.may) told)

-- an entry that may be told of an occurrence that may come
data-lawful : (set : TaskSet) (cycle : ℕ) (h : History) (what : What) (next : Occurrence) → MayCome set h next → MayTell set cycle h next what → LawfulEntries set cycle h → LawfulEntries set cycle (what ∷ h)
data-lawful set cycle h what (arrive row event) may is before =
    subst (λ w. LawfulEntries set cycle (w ∷ h)) (sym is) (data-answer set cycle h before row event may)
data-lawful set cycle h what slot may (ran, is, permitted, in_time) before =
    let own = subst (λ w. is_in_time (scene_of set cycle (w ∷ h)) ≡ true) is in_time in
    subst (λ w. LawfulEntries set cycle (w ∷ h)) (sym is) (data-ran set cycle h ran permitted (record { may = permitted; in_time = own }) before)

-- so a lawful history is lawful entry by entry
pub lawful-as_data : (set : TaskSet) (cycle : ℕ) (h : History) → IsLawful set cycle h → LawfulEntries set cycle h
lawful-as_data set cycle [] lawful = empty
lawful-as_data set cycle (Start ∷ h) lawful = at_start (lawful-as_data set cycle h lawful)
lawful-as_data set cycle (End ∷ h) lawful = at_end (lawful-as_data set cycle h lawful)
lawful-as_data set cycle (what ∷ h) ((next, may, tells), rest) = data-lawful set cycle h what next may tells (lawful-as_data set cycle h rest)
