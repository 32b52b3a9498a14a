-- Turns whose keys have names.
use Rattle.std.specs.Prelude.{Bool, true}
use Rattle.slot_core.specs.declared.tasks.TaskSet.{TaskSet}
use Rattle.slot_core.specs.Runs.Arrivals.{key_in_set}
use Rattle.mode_switch.specs.declared.turns.Turn.{Turn}
use Rattle.mode_switch.specs.declared.turns.Turn.TheVariants.{Idle, Old, New}

-- the key of a turn lies in the set that names it: the first one where it is that of a carried job
abbrev pub turn_in_sets : TaskSet → TaskSet → Turn → Bool
turn_in_sets first second Idle = true
turn_in_sets first second (Old key) = key_in_set first key
turn_in_sets first second (New key) = key_in_set second key
