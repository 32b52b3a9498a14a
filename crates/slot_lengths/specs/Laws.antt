-- What the lengths of a slot are, and how their rows are ordered.
use Rattle.std.specs.Prelude.{◌≡◌, ◌≤◌, ◌<◌, ◌*◌, ◌^◌, ◌⊎◌, ◌↔◌, ℕ, Contains, length, Ok}
use Rattle.slot_core.specs.declared.TheConstants.{SLOT_LIMIT}
use Rattle.slot_core.specs.declared.tasks.TaskSet.{TaskSet}
use Rattle.clock_units.specs.declared.sets.PhysicalSet.{PhysicalSet}
use Rattle.clock_units.specs.Derived.{derived_set}
use Rattle.slot_lengths.specs.declared.checks.SlotCheck.{SlotCheck}
use Rattle.slot_lengths.specs.declared.loads.Load.{Load}
use Rattle.slot_lengths.specs.Checks.{place_of, rank_of, share_of, with_slot}
use Rattle.slot_lengths.specs.Lengths.{slot_lengths}

-- of a set with a graph, each length within the range with which there is a set in slots is listed
abbrev pub EachLengthIsListed : Type 0
EachLengthIsListed =
    (set : PhysicalSet) (tasks : TaskSet) (slot from to : ℕ)
    → 0 < length set.graphs
    → derived_set (with_slot slot set) ≡ Ok tasks → from ≤ slot → slot ≤ to
    → Contains (slot_lengths from to set.graphs) slot

-- what a set needs that fits, in a cycle of a sound set
pub record IsWithinCycle (load : Load) : Type 0 where
  pub some : 0 < load.cycle
  pub few : load.cycle ≤ SLOT_LIMIT
  pub within : load.needed ≤ load.cycle

-- of two that need different shares of their cycles, the lesser share is told as less
abbrev pub SharesAreToldApart : Type 0
SharesAreToldApart =
    (load other : Load)
    → IsWithinCycle load → IsWithinCycle other
    → load.needed * other.cycle < other.needed * load.cycle
    → share_of load < share_of other

-- a row stands before another by a lesser rank, or with the same by a slot that is no shorter
abbrev pub PlacesOrderRows : Type 0
PlacesOrderRows =
    (slot other : ℕ) (check other_check : SlotCheck)
    → slot < 2 ^ 64 → other < 2 ^ 64
    → (place_of slot check ≤ place_of other other_check)
    ↔ ((rank_of check < rank_of other_check)
    ⊎ ((rank_of check ≡ rank_of other_check) × (other ≤ slot)))
