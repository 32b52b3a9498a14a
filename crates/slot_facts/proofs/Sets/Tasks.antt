-- The tasks of a graph of a sound set, and their slots.
use Rattle.std.proofs.Common.{◌≡◌, ℕ, zero, suc, ◌<◌, ◌≤◌, true, List, [], ◌∷◌, length, Some, refl, ap, arith}
use Rattle.std.specs.Prelude.{slice_get}
use Rattle.std.specs.Option.{option_map_or}
use Rattle.std.proofs.lemmas.Option.{slice_get_past}
use Rattle.slot_core.specs.declared.TheConstants.{SLOT_LIMIT}
use Rattle.slot_core.specs.declared.tasks.Task.{Task}
use Rattle.slot_core.specs.declared.tasks.Graph.{Graph}
use Rattle.slot_core.specs.declared.tasks.TaskSet.{TaskSet}
use Rattle.slot_core.specs.Offline.OfflineJobs.{tasks_of}
use Rattle.slot_core.specs.Offline.Precedence.{wcet_of}
use Rattle.slot_core.specs.Sets.Ranges.{is_sound}
use Rattle.slot_facts.proofs.Offline.Jobs.{task_in_range-from_sound}
use Rattle.slot_facts.proofs.Sets.Ranges.{bounds, TaskRanges-from_test}

-- the tasks of a graph of the set are those at its place
pub tasks_at : (set : TaskSet) (g : ℕ) (graph : Graph) → slice_get set.graphs g ≡ Some graph → tasks_of set g ≡ graph.tasks
tasks_at set g graph at = ap (λ o. option_map_or (λ (x : Graph). x.tasks) o []) at

pub wcet_at : (tasks : List Task) (t : ℕ) (task : Task) → slice_get tasks t ≡ Some task → wcet_of tasks t ≡ task.wcet
wcet_at tasks t task at = ap (λ o. option_map_or (λ (x : Task). x.wcet) o 0) at

pub wcet_past : (tasks : List Task) (t : ℕ) → length tasks ≤ t → wcet_of tasks t ≡ 0
wcet_past tasks t past = ap (λ o. option_map_or (λ (x : Task). x.wcet) o 0) (slice_get_past tasks t past)

-- what stands within a list
pub slice_get-within : {X : Type 0} (xs : List X) (i : ℕ) → i < length xs → (x : X) × (slice_get xs i ≡ Some x)
slice_get-within [] i within = absurd (omega arith)
slice_get-within (x ∷ xs) zero within = (x, refl)
slice_get-within (x ∷ xs) (suc i) within = slice_get-within xs i (omega arith)

-- the slots of a task of a graph of a sound set
pub task_slots : (set : TaskSet) (g : ℕ) (graph : Graph) → is_sound set ≡ true → slice_get set.graphs g ≡ Some graph → (t : ℕ) → t < length graph.tasks → (1 ≤ wcet_of graph.tasks t) × (wcet_of graph.tasks t ≤ SLOT_LIMIT)
task_slots set g graph sound at t within =
    let task = slice_get-within graph.tasks t within in
    let fits = bounds 1 SLOT_LIMIT task.0.wcet (TaskRanges-from_test task.0 (task_in_range-from_sound set g t graph task.0 sound at task.1)).wcet in
    let value = wcet_at graph.tasks t task.0 task.1 in
    (omega arith, omega arith)
