-- Every legal history of a feasible set carries that no deadline is at risk, and that each run is owned.
use Rattle.std.proofs.Common.{◌≡◌, ℕ, ◌*◌, true, [], ◌∷◌, ◌++◌, append-nil, sym, ap, ◌∙◌, subst, inl, inr}
use Rattle.slot_core.specs.declared.tasks.TaskSet.{TaskSet}
use Rattle.slot_core.specs.declared.events.What.{What}
use Rattle.slot_core.specs.Sets.Cycles.{cycle_of}
use Rattle.slot_core.specs.Sets.Ranges.{is_sound}
use Rattle.slot_core.specs.Offline.OfflineJobs.{offline_jobs}
use Rattle.slot_core.specs.Feasibility.Feasible.{IsFeasible}
use Rattle.slot_core.specs.Runs.Histories.{History, time_of}
use Rattle.slot_core.specs.Runs.Scenes.{guaranteed_in, unended, next_arrivals}
use Rattle.slot_core.specs.Claims.Safety.{IsSafe}
use Rattle.slot_facts.proofs.Histories.Unended.{unended-start}
use Rattle.slot_facts.proofs.Lists.Members.{Contains-from_Has}
use Rattle.slot_facts.proofs.Offline.Jobs.{cycle-positive}
use Rattle.slot_facts.proofs.Offline.Windows.{IsOfCycle-from_offline}
use Rattle.slot_facts.proofs.Legal.Data.{LegalEntries, empty, at_start, at_end, slot_runs, idles, soft_taken, soft_full, accepted, late, far, no_room, sporadic_taken, soon, job_freed, soft_freed, not_running, withdrawn, no_job}
use Rattle.slot_facts.proofs.Legal.Bounds.{Reaches, reaches-before, IsCarried}
use Rattle.slot_facts.proofs.Legal.Rows.{time-rises}
use Rattle.slot_facts.proofs.Bounds.SafeStart.{offline_jobs-safe}
use Rattle.slot_facts.proofs.Legal.Steps.{carried-idle, carried-job_run, carried-soft_run, carried-freed, carried-withdrawn, carried-soft_freed, carried-accepted, carried-sporadic}

-- before the first entry
carried-empty : (set : TaskSet) (cycles : ℕ) → is_sound set ≡ true → IsFeasible set (cycle_of set) → IsCarried set cycles []
carried-empty set cycles sound feasible =
    let jobs = offline_jobs set (cycle_of set) cycles in
    let fresh = unended-start jobs (λ job at.
    let of_cycle = IsOfCycle-from_offline set cycles job sound (Contains-from_Has jobs job at) in
    (of_cycle.2.some, of_cycle.2.whole)) in
    let nexts = next_arrivals set.sporadics [] in
    let whole : unended [] (guaranteed_in set (cycle_of set) cycles []) ≡ jobs =
    ap (unended []) (append-nil (jobs ++ []) ∙ append-nil jobs) ∙ fresh in
    record {
      safe = subst (λ js. IsSafe set.sporadics nexts js 0 (cycles * cycle_of set)) (sym whole) (offline_jobs-safe set cycles nexts sound feasible);
      owned = tt;
    }

-- what reaches past the longer history reaches past the one before
pub reaches-tail : (set : TaskSet) (what : What) (h : History) (cycles : ℕ) → is_sound set ≡ true → Reaches set (what ∷ h) cycles → Reaches set h cycles
reaches-tail set what h cycles sound reaches =
    reaches-before (time_of h) (time_of (what ∷ h)) (cycle_of set) cycles (cycle-positive set sound) (time-rises what h) reaches

-- entries that neither run nor end a job, and bring none, keep it
module _ (set : TaskSet) (sound : is_sound set ≡ true) (feasible : IsFeasible set (cycle_of set)) where
  pub carried-legal : {h : History} → LegalEntries set (cycle_of set) h → (cycles : ℕ) → Reaches set h cycles → IsCarried set cycles h
  carried-legal empty cycles reaches = carried-empty set cycles sound feasible
  carried-legal (at_start l) cycles reaches = let c = carried-legal l cycles reaches in record { safe = c.safe; owned = c.owned }
  carried-legal (at_end l) cycles reaches = let c = carried-legal l cycles reaches in record { safe = c.safe; owned = c.owned }
  carried-legal {h = what ∷ h} (slot_runs {key = key} known (inl r) l) cycles reaches =
      let before = reaches-tail set what h cycles sound reaches in
      carried-soft_run set cycles h sound feasible l before (carried-legal l cycles before) key r
  carried-legal {h = what ∷ h} (slot_runs {key = key} known (inr r) l) cycles reaches =
      let before = reaches-tail set what h cycles sound reaches in
      carried-job_run set cycles h sound feasible l before (carried-legal l cycles before) key r
  carried-legal {h = what ∷ h} (idles none l) cycles reaches =
      let before = reaches-tail set what h cycles sound reaches in
      carried-idle set cycles h sound feasible l before (carried-legal l cycles before) none
  carried-legal (soft_taken r l) cycles reaches = let c = carried-legal l cycles reaches in record { safe = c.safe; owned = c.owned }
  carried-legal (soft_full above l) cycles reaches = let c = carried-legal l cycles reaches in record { safe = c.safe; owned = c.owned }
  carried-legal {h = what ∷ h} (accepted {row = row} {slots = slots} {within = within} r l) cycles reaches =
      carried-accepted set cycles h sound feasible l reaches (carried-legal l cycles reaches) row slots within r
  carried-legal (late above l) cycles reaches = let c = carried-legal l cycles reaches in record { safe = c.safe; owned = c.owned }
  carried-legal (far above l) cycles reaches = let c = carried-legal l cycles reaches in record { safe = c.safe; owned = c.owned }
  carried-legal (no_room above l) cycles reaches = let c = carried-legal l cycles reaches in record { safe = c.safe; owned = c.owned }
  carried-legal {h = what ∷ h} (sporadic_taken {row = row} {index = index} {due = due} r l) cycles reaches =
      carried-sporadic set cycles h sound feasible l reaches (carried-legal l cycles reaches) row index due r
  carried-legal (soon above l) cycles reaches = let c = carried-legal l cycles reaches in record { safe = c.safe; owned = c.owned }
  carried-legal {h = what ∷ h} (job_freed {row = row} {n = n} {key = key} above j started l) cycles reaches =
      carried-freed set cycles h sound feasible l reaches (carried-legal l cycles reaches) row n key j started
  carried-legal {h = what ∷ h} (soft_freed {row = row} {n = n} {key = key} above r l) cycles reaches =
      carried-soft_freed set cycles h sound feasible l reaches (carried-legal l cycles reaches) row n key r
  carried-legal (not_running above l) cycles reaches = let c = carried-legal l cycles reaches in record { safe = c.safe; owned = c.owned }
  carried-legal {h = what ∷ h} (withdrawn {row = row} {firm = firm} {n = n} above j l) cycles reaches =
      carried-withdrawn set cycles h sound feasible l reaches (carried-legal l cycles reaches) row firm n j
  carried-legal (no_job above l) cycles reaches = let c = carried-legal l cycles reaches in record { safe = c.safe; owned = c.owned }
