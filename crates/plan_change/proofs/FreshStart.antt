-- Where no slot has passed and no row has come, a legal history has starts and ends, and early ends and withdrawals that
-- end nothing.
use Rattle.std.proofs.Common.{◌≡◌, ℕ, ◌+◌, ◌-◌, ◌/◌, ◌<◌, true, [], ◌++◌, refl, sym, ap, ◌∙◌, subst, inl, inr, arith}
use Rattle.slot_core.specs.declared.jobs.Job.{Job}
use Rattle.slot_core.specs.declared.jobs.Key.{Key}
use Rattle.slot_core.specs.declared.jobs.Key.TheVariants.{Firm as FirmKey}
use Rattle.slot_core.specs.declared.tasks.TaskSet.{TaskSet}
use Rattle.slot_core.specs.Keeping.Executives.{Executive, StandsFor, StandsForSome}
use Rattle.slot_core.specs.Offline.Keys.{is_offline}
use Rattle.slot_core.specs.Offline.OfflineJobs.{offline_jobs}
use Rattle.slot_core.specs.Runs.Histories.{History, last_row, time_of}
use Rattle.slot_core.specs.Runs.Matches.{IsSameScene}
use Rattle.slot_core.specs.Runs.Scenes.{Scene, guaranteed, remaining, scene_of}
use Rattle.slot_core.specs.Runs.Traces.{started}
use Rattle.slot_facts.proofs.Legal.Data.{at_end, at_start, Entries, idles, job_freed, legal-as_data, no_job, not_running, slot_runs, Slots, soft_freed, soft_full, soft_taken, soon, sporadic_taken, withdrawn, accepted, far, late, no_room, empty, Remains, RunningSoft}
use Rattle.slot_facts.proofs.Choice.Earliest.{same_from_key}
use Rattle.slot_facts.proofs.Histories.Unended.{unended_own}
use Rattle.slot_facts.proofs.Legal.Jobs.{offline-key}
use Rattle.slot_facts.proofs.Lists.Members.{Has, Has-append_cases}

-- before the first entry offline jobs alone remain, and none of them has run
record IsWhole (job : Job) : Type 0 where
  offline : is_offline job.key ≡ true
  whole : job.left ≡ job.declared

jobs-fresh : (set : TaskSet) (cycle : ℕ) (job : Job) → Has (remaining set cycle started) job → IsWhole job
jobs-fresh set cycle job at =
    let own = unended_own started (guaranteed set cycle started) job at in
    let planned = offline_jobs set cycle (0 / cycle + 3) in
    let key : job.key ≡ own.0.key = ap (λ (j : Job). j.key) own.1.same in
    let left : job.left ≡ own.0.declared - 0 = ap (λ (j : Job). j.left) own.1.same in
    let declared : job.declared ≡ own.0.declared = ap (λ (j : Job). j.declared) own.1.same in
    elim (Has-append_cases (planned ++ []) [] own.0 own.1.listed) [
      | inl early ↦ elim (Has-append_cases planned [] own.0 early) [
        | inl listed ↦
            record { offline = ap is_offline key ∙ offline-key set cycle (0 / cycle + 3) own.0 listed; whole = omega (arith, left, declared) }
        | inr none ↦ absurd none
      ]
      | inr none ↦ absurd none
    ]

-- so none is ended there
module _ (set : TaskSet) (cycle : ℕ) (h : History) (same : scene_of set cycle h ≡ scene_of set cycle started) where
  none-freed : (key : Key) (n : ℕ) (j : Remains set cycle h key n) → j.job.left < j.job.declared → ⊥
  none-freed key n j run =
      let at = subst (λ (s : Scene). Has s.jobs j.job) same j.among in
      omega (arith, run, (jobs-fresh set cycle j.job at).whole)

  none-withdrawn : (firm n : ℕ) → Remains set cycle h (FirmKey firm) n → ⊥
  none-withdrawn firm n j =
      let at = subst (λ (s : Scene). Has s.jobs j.job) same j.among in
      let key = ap is_offline (same_from_key j.job.key (FirmKey firm) j.keyed) in
      cc (sym key ∙ (jobs-fresh set cycle j.job at).offline)

  none-running : (key : Key) (n : ℕ) → RunningSoft h key n → ⊥
  none-running key n r = subst (λ (s : Scene). Has s.soft r.soft) same r.among

-- so its scene is that before the first entry
scene-fresh : {S : Slots} {set : TaskSet} {cycle : ℕ} {h : History} → Entries S set cycle h → time_of h ≡ 0 → last_row h ≡ 0 → scene_of set cycle h ≡ scene_of set cycle started
scene-fresh empty early none = refl
scene-fresh (at_start l) early none = scene-fresh l early none
scene-fresh (at_end l) early none = scene-fresh l early none
scene-fresh (slot_runs r s l) early none = absurd (omega (arith, early))
scene-fresh (idles r l) early none = absurd (omega (arith, early))
scene-fresh (soft_taken r l) early none = absurd (omega (arith, r.above, none))
scene-fresh (soft_full r l) early none = absurd (omega (arith, r, none))
scene-fresh (accepted r l) early none = absurd (omega (arith, r.above, none))
scene-fresh (late r l) early none = absurd (omega (arith, r, none))
scene-fresh (far r l) early none = absurd (omega (arith, r, none))
scene-fresh (no_room r l) early none = absurd (omega (arith, r, none))
scene-fresh (sporadic_taken r l) early none = absurd (omega (arith, r.above, none))
scene-fresh (soon r l) early none = absurd (omega (arith, r, none))
scene-fresh {set = set} {cycle = cycle} (job_freed {h = h} {n = n} {key = key} r j s l) early none =
    absurd (none-freed set cycle h (scene-fresh l early (omega (arith, r, none))) key n j s)
scene-fresh {set = set} {cycle = cycle} (soft_freed {h = h} {n = n} {key = key} r s l) early none =
    absurd (none-running set cycle h (scene-fresh l early (omega (arith, r, none))) key n s)
scene-fresh (not_running r l) early none = scene-fresh l early (omega (arith, r, none))
scene-fresh {set = set} {cycle = cycle} (withdrawn {h = h} {firm = firm} {n = n} r j l) early none =
    absurd (none-withdrawn set cycle h (scene-fresh l early (omega (arith, r, none))) firm n j)
scene-fresh (no_job r l) early none = scene-fresh l early (omega (arith, r, none))

-- and the executive stands for the start alone
pub StandsFor-fresh : (exec : Executive) → StandsForSome exec → exec.scene.time ≡ 0 → exec.last_row ≡ 0 → StandsFor exec started
StandsFor-fresh exec (h, stands) early none =
    let set = exec.plan.tasks in
    let cycle = exec.plan.cycle in
    let same = scene-fresh (legal-as_data set cycle h stands.legal) (sym stands.same.time ∙ early) (sym stands.last ∙ none) in
    record {
      legal = tt;
      same = subst (IsSameScene exec.scene) same stands.same;
      last = none;
    }
