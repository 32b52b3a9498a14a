-- Every legal history of a feasible set keeps its bounds, the order of its soft jobs and its rows.
use Rattle.std.proofs.Common.{◌≡◌, ℕ, ◌≤◌, true, refl, ap, inl, inr, arith}
use Rattle.std.proofs.lemmas.List.Elements.{All-from_recursion}
use Rattle.slot_core.specs.declared.jobs.Key.{Key}
use Rattle.slot_core.specs.declared.jobs.Key.TheVariants.{Offline, Sporadic, Firm, Soft}
use Rattle.slot_core.specs.declared.jobs.Job.{Job}
use Rattle.slot_core.specs.declared.jobs.SoftJob.{SoftJob}
use Rattle.slot_core.specs.declared.tasks.TaskSet.{TaskSet}
use Rattle.slot_core.specs.Offline.Keys.{is_offline, row_of}
use Rattle.slot_core.specs.Sets.Cycles.{cycle_of}
use Rattle.slot_core.specs.Sets.Ranges.{is_sound}
use Rattle.slot_core.specs.Runs.Histories.{History, last_row}
use Rattle.slot_core.specs.Runs.Scenes.{guaranteed_in, unended, waiting_soft, scene_in}
use Rattle.slot_core.specs.Keeping.Kept.{KeepsRows}
use Rattle.slot_facts.specs.Bounds.{EveryLegalHistoryIsKept}
use Rattle.slot_facts.proofs.Histories.Unended.{unended_own}
use Rattle.slot_facts.proofs.Lists.Members.{Has, AllByRecursion-from_Has}
use Rattle.slot_facts.proofs.Legal.Bounds.{bounds-carried}
use Rattle.slot_facts.proofs.Legal.Carried.{carried-legal}
use Rattle.slot_facts.proofs.Legal.Data.{LegalEntries, legal-as_data}
use Rattle.slot_facts.proofs.Legal.Jobs.{guaranteed-cases, offline-key, soft-come}
use Rattle.slot_facts.proofs.Legal.SoftOrder.{soft_order-kept}
use Rattle.slot_facts.proofs.Legal.Steps.{waiting_own}

-- an offline key names no row
pub no_row : (key : Key) → is_offline key ≡ true → row_of key ≡ 0
no_row (Offline g t k) e = refl
no_row (Sporadic i r) e = absurd (cc e)
no_row (Firm r) e = absurd (cc e)
no_row (Soft r) e = absurd (cc e)

-- no row in a key is above the last row
rows-kept : (set : TaskSet) (cycles : ℕ) (h : History) → is_sound set ≡ true → LegalEntries set (cycle_of set) h → KeepsRows (last_row h) (scene_in set (cycle_of set) cycles h)
rows-kept set cycles h sound legal =
    let guaranteed = guaranteed_in set (cycle_of set) cycles h in
    let below = λ (j : Job) (at : Has (unended h guaranteed) j).
    let own = unended_own h guaranteed j at in
    let row_is : row_of j.key ≡ row_of own.0.key = ap (λ (j : Job). row_of j.key) own.1.same in
    let most : row_of own.0.key ≤ last_row h =
    elim (guaranteed-cases set cycles h own.0 sound legal own.1.listed) [
      | inl planned ↦ omega (arith, no_row own.0.key (offline-key set (cycle_of set) cycles own.0 planned))
      | inr come ↦ come.row_at_most
    ] in
    let le : row_of j.key ≤ last_row h = omega arith in
    le in
    let soft_below = λ (s : SoftJob) (at : Has (waiting_soft h) s).
    let own = waiting_own h s at in
    let row_is : s.row ≡ own.0.row = ap (λ (s : SoftJob). s.row) own.1.same in
    let le : s.row ≤ last_row h = omega (arith, (soft-come set (cycle_of set) h own.0 legal own.1.listed).row_at_most) in
    le in
    record {
      jobs = All-from_recursion (λ (j : Job). row_of j.key ≤ last_row h) (unended h guaranteed) (AllByRecursion-from_Has (λ (j : Job). row_of j.key ≤ last_row h) (unended h guaranteed) below);
      soft = All-from_recursion (λ (s : SoftJob). s.row ≤ last_row h) (waiting_soft h) (AllByRecursion-from_Has (λ (s : SoftJob). s.row ≤ last_row h) (waiting_soft h) soft_below);
    }

-- every legal history keeps all this, for any number of cycles that reaches its horizon
pub every_legal_history_is_kept : EveryLegalHistoryIsKept
every_legal_history_is_kept set h cycles sound feasible legal reaches =
    let entries = legal-as_data set (cycle_of set) h legal in
    let carried = carried-legal set sound feasible entries cycles reaches in
    record {
      bounds = bounds-carried set cycles h sound entries reaches carried;
      safe = carried.safe;
      soft = soft_order-kept set sound h entries;
      rows = rows-kept set cycles h sound entries;
    }
