-- Sound sets, and the first faults of others: each holds by computing the definitions.
use Rattle.std.specs.Prelude.{◌≡◌, ℕ, true, false, List, [], ◌∷◌, codes, Option, Some, None, option_map, refl}
use Rattle.std.specs.Fmt.{digits}
use Rattle.slot_core.specs.declared.tasks.Task.{Task}
use Rattle.slot_core.specs.declared.tasks.TaskSet.{TaskSet}
use Rattle.slot_core.specs.Sets.Ranges.{is_in_range, is_sound}
use Rattle.slot_core.specs.Sets.Faults.{set_fault}
use Rattle.slot_core.specs.Output.FaultTexts.{task_fault_text}
use Rattle.sample_sets.specs.Sets.{task, plain_graph, lone_task, set_of, pair_set, overlong_set, two_periods_set}

-- a set is sound, whether or not it can be scheduled
pub pair_is_sound : is_sound pair_set ≡ true
pair_is_sound = refl

pub overlong_is_sound : is_sound overlong_set ≡ true
overlong_is_sound = refl

-- a graph of these tasks, alone in its set
abbrev set_of_tasks : List Task → TaskSet
set_of_tasks tasks = set_of 64 (plain_graph (codes "g") 8 tasks ∷ []) []

-- two tasks, each after the other
abbrev loop_set : TaskSet
loop_set = set_of_tasks (task (codes "a") 2 (1 ∷ []) ∷ task (codes "b") 1 (0 ∷ []) ∷ [])

-- two tasks of one name
abbrev doubled_set : TaskSet
doubled_set = set_of_tasks (task (codes "a") 2 [] ∷ task (codes "a") 1 [] ∷ [])

-- a task after one that is not there
abbrev lost_set : TaskSet
lost_set = set_of_tasks (task (codes "a") 2 [] ∷ task (codes "b") 1 (2 ∷ []) ∷ [])

-- a deadline past the period, a name that begins with a digit, and no graph
abbrev late_set : TaskSet
late_set = set_of 64 (lone_task (codes "g") 8 0 9 1 ∷ []) []

abbrev misnamed_set : TaskSet
misnamed_set = set_of 64 (lone_task (codes "9x") 8 0 8 1 ∷ []) []

abbrev empty_set : TaskSet
empty_set = set_of 64 [] []

-- none of these is sound
pub loop_is_unsound : is_sound loop_set ≡ false
loop_is_unsound = refl

pub doubled_is_unsound : is_sound doubled_set ≡ false
doubled_is_unsound = refl

pub lost_is_unsound : is_sound lost_set ≡ false
lost_is_unsound = refl

pub late_is_unsound : is_sound late_set ≡ false
late_is_unsound = refl

pub misnamed_is_unsound : is_sound misnamed_set ≡ false
misnamed_is_unsound = refl

pub empty_is_unsound : is_sound empty_set ≡ false
empty_is_unsound = refl

-- the text of the first fault of a set in range
abbrev fault_text : TaskSet → Option (List ℕ)
fault_text set = option_map task_fault_text (set_fault set)

pub pair_has_no_fault : fault_text pair_set ≡ None
pair_has_no_fault = refl

pub loop_fault : fault_text loop_set ≡ Some (codes "loop graph 0 task 0")
unfolding digits
loop_fault = refl

pub doubled_fault : fault_text doubled_set ≡ Some (codes "doubled graph 0 task 1 name")
unfolding digits
doubled_fault = refl

pub lost_fault : fault_text lost_set ≡ Some (codes "no such task graph 0 task 1 after")
unfolding digits
lost_fault = refl

-- two periods whose least common multiple is too long
abbrev long_cycle_set : TaskSet
long_cycle_set = two_periods_set 4096 4095

pub long_cycle_is_in_range : is_in_range long_cycle_set ≡ true
long_cycle_is_in_range = refl

pub long_cycle_fault : fault_text long_cycle_set ≡ Some (codes "cycle too long 16773120")
unfolding digits
long_cycle_fault = refl
