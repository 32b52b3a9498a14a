-- What a length of a slot comes to.
use Rattle.std.specs.Prelude.{ℕ, ◌+◌, ◌-◌, ◌*◌, ◌/◌, ◌^◌, min, Option, Some, None, Ok, Err}
use Rattle.slot_core.specs.declared.faults.TaskFault.{TaskFault}
use Rattle.slot_core.specs.declared.jobs.Window.{Window}
use Rattle.slot_core.specs.declared.tasks.TaskSet.{TaskSet}
use Rattle.slot_core.specs.Feasibility.Feasible.{counterexample}
use Rattle.slot_core.specs.Sets.Cycles.{cycle_of}
use Rattle.slot_core.specs.Sets.Faults.{set_fault}
use Rattle.clock_units.specs.declared.sets.PhysicalSet.{PhysicalSet}
use Rattle.clock_units.specs.Derived.{derived_set, Derived}
use Rattle.slot_lengths.specs.declared.checks.LengthRow.{LengthRow}
use Rattle.slot_lengths.specs.declared.checks.SlotCheck.{SlotCheck}
use Rattle.slot_lengths.specs.declared.checks.SlotCheck.TheVariants.{Fits, Infeasible, BadTasks, NoSlots}
use Rattle.slot_lengths.specs.declared.loads.Load.{Load}
use Rattle.slot_lengths.specs.Growths.{least_growth}
use Rattle.slot_lengths.specs.Loads.{load_of}
use Rattle.slot_lengths.specs.Shorter.{shorter_for}

-- of a sound set: what it needs, with the least margin, or the window that fails
abbrev pub window_check : PhysicalSet → TaskSet → Option Window → SlotCheck
window_check physical set (Some window) = Infeasible (load_of physical set) window
window_check physical set None = Fits (load_of physical set) (least_growth set)

-- the same by the test of all windows
abbrev pub sound_check : PhysicalSet → TaskSet → SlotCheck
sound_check physical set = window_check physical set (counterexample set (cycle_of set))

-- of a set in slots: its first fault, with a shorter separation where that is a cycle that is too
-- long, or what it comes to as a sound set
abbrev pub fault_check : PhysicalSet → TaskSet → Option TaskFault → SlotCheck
fault_check physical set (Some fault) = BadTasks fault (shorter_for fault set)
fault_check physical set None = sound_check physical set

-- the same by its own fault
abbrev pub tasks_check : PhysicalSet → TaskSet → SlotCheck
tasks_check physical set = fault_check physical set (set_fault set)

-- of what stands for a set in physical time
abbrev pub derived_check : PhysicalSet → Derived TaskSet → SlotCheck
derived_check physical (Ok set) = tasks_check physical set
derived_check physical (Err fault) = NoSlots fault

-- of a set in physical time, with its own slots
abbrev pub set_check : PhysicalSet → SlotCheck
set_check set = derived_check set (derived_set set)

-- the set with slots of another length
abbrev pub with_slot : ℕ → PhysicalSet → PhysicalSet
with_slot slot set = record set { slot = slot }

-- of a set in physical time, with slots of a length
abbrev pub slot_check : PhysicalSet → ℕ → SlotCheck
slot_check set slot = set_check (with_slot slot set)

-- the share of the cycle that is needed, so fine that no two shares of a cycle are told alike
abbrev pub share_of : Load → ℕ
share_of load = min (10 ^ 8) (load.needed * 10 ^ 8 / load.cycle)

-- the rank of a length: this share, or more where the set does not fit
abbrev pub rank_of : SlotCheck → ℕ
rank_of (Fits load growth) = share_of load
rank_of _ = 10 ^ 8 + 1

-- its place among the others: by its rank, and the longer one of two with one rank first
abbrev pub place_of : ℕ → SlotCheck → ℕ
place_of slot check = rank_of check * 2 ^ 64 + (2 ^ 64 - 1 - slot)

-- the row of a length
abbrev pub row_of : PhysicalSet → ℕ → LengthRow
row_of set slot =
    record {
      slot = slot;
      check = slot_check set slot;
      place = place_of slot (slot_check set slot);
    }
