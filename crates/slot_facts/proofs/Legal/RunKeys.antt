-- The key of each run of a history has its numbers in range.
use Rattle.std.proofs.Common.{◌≡◌, ℕ, ◌+◌, ◌*◌, ◌/◌, ◌≤◌, ◌^◌, true, false, ◌∷◌, refl, ap, ◌∙◌, mul-le-mul_left, div-le_self, div-mul-le_self, inl, inr, arith}
use Rattle.std.specs.Prelude.{nat_le}
use Rattle.std.proofs.lemmas.Bool.{le-leb, and_from}
use Rattle.slot_core.specs.declared.TheConstants.{ARRIVAL_LIMIT, NUMBER_LIMIT}
use Rattle.slot_core.specs.declared.jobs.Key.{Key}
use Rattle.slot_core.specs.declared.jobs.Key.TheVariants.{Offline, Sporadic as SporadicKey, Firm as FirmKey, Soft as SoftKey}
use Rattle.slot_core.specs.declared.jobs.Job.{Job}
use Rattle.slot_core.specs.declared.jobs.SoftJob.{SoftJob}
use Rattle.slot_core.specs.declared.tasks.TaskSet.{TaskSet}
use Rattle.slot_core.specs.declared.events.What.TheVariants.{Run}
use Rattle.slot_core.specs.Offline.Keys.{is_offline, row_of}
use Rattle.slot_core.specs.Offline.OfflineJobs.{offline_jobs}
use Rattle.slot_core.specs.Runs.Arrivals.{key_in_range}
use Rattle.slot_core.specs.Runs.Histories.{History, time_of, last_row}
use Rattle.slot_core.specs.Runs.Scenes.{guaranteed_in}
use Rattle.slot_core.specs.Sets.Cycles.{cycle_of}
use Rattle.slot_core.specs.Sets.Ranges.{is_sound, is_between}
use Rattle.slot_facts.proofs.Histories.Unended.{unended_own}
use Rattle.slot_facts.proofs.Legal.Data.{Slots, Entries, slot_runs}
use Rattle.slot_facts.proofs.Legal.Jobs.{guaranteed-cases, soft-come}
use Rattle.slot_facts.proofs.Legal.Steps.{waiting_own}
use Rattle.slot_facts.proofs.Lists.Members.{Has, Contains-from_Has}
use Rattle.slot_facts.proofs.Offline.Jobs.{offline_from_cycles, cycle-at_most}

-- a row from 1 to the limit is in range
row_in_range : (row : ℕ) → 1 ≤ row → row ≤ ARRIVAL_LIMIT → is_between 1 ARRIVAL_LIMIT row ≡ true
row_in_range row some few =
    and_from (nat_le 1 row) (nat_le row ARRIVAL_LIMIT) (le-leb 1 row some) (le-leb row ARRIVAL_LIMIT few)

-- so is a key of such a row that is not offline
key_in_range-row : (key : Key) → is_offline key ≡ false → 1 ≤ row_of key → row_of key ≤ ARRIVAL_LIMIT → key_in_range key ≡ true
key_in_range-row (Offline g t k) other some few = absurd (cc other)
key_in_range-row (SporadicKey index row) other some few = row_in_range row some few
key_in_range-row (FirmKey row) other some few = row_in_range row some few
key_in_range-row (SoftKey row) other some few = row_in_range row some few

-- and the key of an offline job of few cycles
key_in_range-offline : (set : TaskSet) (cycles : ℕ) (job : Job) → is_sound set ≡ true → cycles * cycle_of set ≤ NUMBER_LIMIT → Has (offline_jobs set (cycle_of set) cycles) job → key_in_range job.key ≡ true
key_in_range-offline set cycles job sound few at =
    let o = offline_from_cycles set (cycle_of set) cycles job (Contains-from_Has (offline_jobs set (cycle_of set) cycles) job at) in
    let key : job.key ≡ Offline o.g o.t o.k = ap (λ (j : Job). j.key) o.instance_of.derived in
    let most : cycles * (cycle_of set / o.graph.period) ≤ cycles * cycle_of set = mul-le-mul_left cycles (div-le_self (cycle_of set) o.graph.period) in
    ap key_in_range key ∙ le-leb o.k NUMBER_LIMIT (omega (arith, o.below, most))

module _ {S : Slots} (set : TaskSet) (h : History) (sound : is_sound set ≡ true) (told : Entries S set (cycle_of set) h) (early : time_of h ≤ 2 ^ 31) (rows : last_row h ≤ ARRIVAL_LIMIT) where
  -- so the key of a guaranteed job is in range
  guaranteed-in_range : (job : Job) → Has (guaranteed_in set (cycle_of set) (time_of h / cycle_of set + 3) h) job → key_in_range job.key ≡ true
  guaranteed-in_range job at =
      let cycles = time_of h / cycle_of set + 3 in
      elim (guaranteed-cases set cycles h job sound told at) [
        | inl planned ↦ key_in_range-offline set cycles job sound (omega (arith, cycle-at_most set sound, div-mul-le_self (time_of h) (cycle_of set))) planned
        | inr come ↦ key_in_range-row job.key come.not_offline come.row_some (omega (arith, come.row_at_most))
      ]

-- so is the key of each run
pub run-in_range : {S : Slots} {set : TaskSet} {key : Key} {h : History} → is_sound set ≡ true → time_of h ≤ 2 ^ 31 → last_row h ≤ ARRIVAL_LIMIT → Entries S set (cycle_of set) (Run key ∷ h) → key_in_range key ≡ true
run-in_range {set = set} {h = h} sound early rows (slot_runs (inl r) s told) =
    let own = unended_own h (guaranteed_in set (cycle_of set) (time_of h / cycle_of set + 3) h) r.job r.among in
    ap key_in_range (r.keyed ∙ ap (λ (j : Job). j.key) own.1.same) ∙ guaranteed-in_range set h sound told early rows own.0 own.1.listed
run-in_range {set = set} {h = h} sound early rows (slot_runs (inr r) s told) =
    let own = waiting_own h r.soft r.among in
    let row_is : r.soft.row ≡ own.0.row = ap (λ (s : SoftJob). s.row) own.1.same in
    let come = soft-come set (cycle_of set) h own.0 told own.1.listed in
    ap key_in_range r.keyed ∙ key_in_range-row (SoftKey r.soft.row) refl (omega (arith, come.row_some)) (omega (arith, come.row_at_most))
