-- Slots that can be spared for soft work, and one that is needed.
use Rattle.std.specs.Prelude.{◌≡◌, ℕ, ◌+◌, ◌≤◌, ◌<◌, [], ◌∷◌, count_by, Some, None, refl}
use Rattle.std.proofs.Common.{arith, ap, ◌∙◌}
use Rattle.std.proofs.lemmas.List.Elements.{All-head}
use Rattle.slot_core.specs.declared.jobs.Job.{Job}
use Rattle.slot_core.specs.declared.jobs.Key.TheVariants.{Offline, Soft}
use Rattle.slot_core.specs.declared.events.Soft.TheVariants.{Taken}
use Rattle.slot_core.specs.declared.events.What.TheVariants.{Soft as SoftEntry, Run}
use Rattle.slot_core.specs.Claims.Schedules.{holds}
use Rattle.slot_core.specs.Runs.Histories.{History}
use Rattle.slot_core.specs.Runs.Traces.{started}
use Rattle.service_laws.specs.SoftWork.{SlotCanBeSpared, SlotIsNeeded, densest_next, RunsSoftWork}
use Rattle.slot_facts.proofs.Scheduling.Counts.{count_in_window, held_number}
use Rattle.sample_sets.specs.Sets.{half_set, shared_set}
use Rattle.slot_examples.proofs.Futures.{no_arrivals}
use Rattle.slot_examples.proofs.Schedules.{IsSchedule-from_tests}

-- two slots of soft work come before the first slot, beside one slot of work in every two
abbrev pub soft_waits : History
soft_waits = SoftEntry 1 2 Taken ∷ started

-- the first slot runs soft work
pub first_slot_runs_soft : RunsSoftWork half_set 2 soft_waits
first_slot_runs_soft = (1, refl)

-- it can be spared: with it gone, the jobs of three cycles have a schedule
pub first_slot_can_be_spared : SlotCanBeSpared half_set 2 soft_waits
first_slot_can_be_spared [] legal =
    (Some 0 ∷ Some 1 ∷ None ∷ Some 2 ∷ None ∷ [], IsSchedule-from_tests half_set _ 1 6 _ refl refl refl refl refl)
first_slot_can_be_spared (a ∷ pattern) legal =
    let none = All-head (λ (a : ℕ × ℕ). a.0 < 0) a pattern legal.named in
    absurd (omega (arith, none))

-- after it the job of the first two slots has to run
abbrev pub soft_ran : History
soft_ran = Run (Soft 1) ∷ soft_waits

not_soft : (row : ℕ) → Run (Offline 0 0 0) ≡ Run (Soft row) → ⊥
not_soft row e = cc

-- so the second slot does not run soft work
pub second_slot_holds_soft_back : RunsSoftWork half_set 2 soft_ran → ⊥
second_slot_holds_soft_back (row, told) = not_soft row told

-- it is needed: with it gone, that job has no slot before its deadline
abbrev first_job : Job
first_job = record { key = Offline 0 0 0; est = 0; dl = 2; left = 1; declared = 1 }

pub second_slot_is_needed : SlotIsNeeded half_set 2 soft_ran
second_slot_is_needed = (
  [],
  record {
    legal = no_arrivals;
    none = λ (slots, schedule).
        let one : count_by (holds 0) slots ≡ 1 = schedule.served 0 first_job refl (omega arith) in
        let late : count_by (holds 0) slots ≤ 0 = count_in_window (holds 0) slots 2 0 2 (λ v slot at passes.
        let window = schedule.within v 0 first_job (at ∙ ap Some (held_number 0 slot passes)) refl in
        let early : 2 + v < 2 = window.1 in
        absurd (omega arith)) in
        absurd (omega arith);
  },
)

-- of a sporadic task that may come in every second slot, two arrivals from the next slot on are due
-- by the horizon
pub densest_arrivals_next : densest_next shared_set 2 soft_waits ≡ (0, 1) ∷ (0, 3) ∷ []
densest_arrivals_next = refl
