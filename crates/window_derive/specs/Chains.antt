-- The longest chains before and after the tasks of a graph, as arrays.
use Rattle.std.specs.Prelude.{◌≡◌, ℕ, ◌<◌, ◌≤◌, true, List, length, slice_index, None}
use Rattle.slot_core.specs.declared.TheConstants.{SLOT_LIMIT, TASK_LIMIT}
use Rattle.slot_core.specs.declared.tasks.Task.{Task}
use Rattle.slot_core.specs.Offline.Precedence.{comes_after, wcet_of, longest_before, longest_after}
use Rattle.window_derive.specs.Orders.{first_on_loop}

-- few tasks, whose entries each name a task, none of them on a loop, and that each take a slot up
-- to the limit
pub record AreOrderable (tasks : List Task) : Type 0 where
  pub count : length tasks ≤ TASK_LIMIT
  pub named : (t p : ℕ) → comes_after tasks t p ≡ true → p < length tasks
  pub loopless : first_on_loop tasks ≡ None
  pub some : (t : ℕ) → t < length tasks → 1 ≤ wcet_of tasks t
  pub few : (t : ℕ) → wcet_of tasks t ≤ SLOT_LIMIT

-- the longest chain before each task
pub record AreChainsBefore (tasks : List Task) (before : List ℕ) : Type 0 where
  pub at : (t : ℕ) → t < length tasks → slice_index before t ≡ longest_before tasks t

-- the longest chain after each task
pub record AreChainsAfter (tasks : List Task) (after : List ℕ) : Type 0 where
  pub at : (t : ℕ) → t < length tasks → slice_index after t ≡ longest_after tasks t
