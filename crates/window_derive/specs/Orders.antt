-- An order of the tasks of a graph in which predecessors go first.
use Rattle.std.specs.Prelude.{◌≡◌, ℕ, ◌<◌, Bool, ◌&&◌, ◌==◌, not, List, length, find, take, Option, Some, slice_get, Contains}
use Rattle.std.specs.List.{list_any, list_all, range_with_len}
use Rattle.slot_core.specs.declared.tasks.Task.{Task}
use Rattle.slot_core.specs.Offline.Precedence.{predecessors, is_on_loop}

-- the task is listed
abbrev pub is_listed : List ℕ → ℕ → Bool
is_listed listed t = list_any (λ l. l == t) listed

-- the least task that is not listed and whose predecessors all are, or none
abbrev pub next_task : List Task → List ℕ → Option ℕ
next_task tasks listed =
    find
    (λ t. not (is_listed listed t) && list_all (is_listed listed) (predecessors tasks t))
    (range_with_len 0 (length tasks))

-- every task stands in the order, as many places as there are tasks, and at each place the next
-- task after those before it
pub record IsOrder (tasks : List Task) (order : List ℕ) : Type 0 where
  pub places : length order ≡ length tasks
  pub all_listed : (t : ℕ) → t < length tasks → Contains order t
  pub each_next : (i t : ℕ) → slice_get order i ≡ Some t → next_task tasks (take i order) ≡ Some t

-- the least task that stands on a loop, or none
abbrev pub first_on_loop : List Task → Option ℕ
first_on_loop tasks = find (is_on_loop tasks) (range_with_len 0 (length tasks))
