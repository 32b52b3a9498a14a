-- What the search for a margin keeps.
use Rattle.std.specs.Prelude.{◌≡◌, ℕ, ◌+◌, ◌<◌, ◌≤◌, true, Option, Some}
use Rattle.slot_core.specs.declared.TheConstants.{SLOT_LIMIT}
use Rattle.slot_core.specs.declared.faults.Part.{Part}
use Rattle.slot_core.specs.declared.jobs.Window.{Window}
use Rattle.slot_core.specs.declared.tasks.TaskSet.{TaskSet}
use Rattle.slot_core.specs.Sets.Cycles.{cycle_of}
use Rattle.slot_core.specs.Sets.Ranges.{is_sound}
use Rattle.slot_core.specs.Feasibility.Feasible.{counterexample, demand}
use Rattle.slot_core.specs.Claims.Growth.{grown, StillFits}
use Rattle.margin_find.specs.declared.search.Bounds.{Bounds}
use Rattle.margin_find.specs.Parts.{wcet_at}

-- the counterexample to the set with so much growth of a part
abbrev pub counterexample_of : TaskSet → Part → ℕ → Option Window
counterexample_of set part growth =
    counterexample (grown set part growth) (cycle_of (grown set part growth))

-- with the less growth the set fits, and the window is the counterexample with the greater
pub record AreBounds (set : TaskSet) (part : Part) (bounds : Bounds) : Type 0 where
  pub above : bounds.fits < bounds.fails
  pub holds : StillFits set part bounds.fits
  pub found : counterexample_of set part bounds.fails ≡ Some bounds.window

-- the set with this growth is sound, its worst case within the limit, and its demand fits the cycle
-- as a whole
pub record StaysSound (set : TaskSet) (part : Part) (growth : ℕ) : Type 0 where
  pub sound : is_sound (grown set part growth) ≡ true
  pub within : wcet_at set part + growth ≤ SLOT_LIMIT
  pub fits : demand (grown set part growth) (cycle_of set) 0 (cycle_of set) ≤ cycle_of set
