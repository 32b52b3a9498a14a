-- Marks of tasks: one truth value a task, false past the end.
use Rattle.std.specs.Prelude.{ℕ, Bool, false, ◌&&◌, not, List, length, find, Option, slice_index_or}
use Rattle.std.specs.List.{list_all, range_with_len}
use Rattle.slot_core.specs.declared.tasks.Task.{Task}
use Rattle.slot_core.specs.Offline.Precedence.{predecessors}

-- the task is marked
abbrev pub is_marked : List Bool → ℕ → Bool
is_marked marks t = slice_index_or marks t false

-- the task is not marked, and its predecessors all are
abbrev pub is_next_by : List Task → List Bool → ℕ → Bool
is_next_by tasks marks t =
    not (is_marked marks t) && list_all (is_marked marks) (predecessors tasks t)

-- the least such task, or none
abbrev pub next_by : List Task → List Bool → Option ℕ
next_by tasks marks = find (is_next_by tasks marks) (range_with_len 0 (length tasks))
