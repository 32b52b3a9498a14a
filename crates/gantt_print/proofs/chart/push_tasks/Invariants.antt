-- The rows of the first tasks are appended.
use Rattle.std.proofs.Common.{◌≡◌, ◌++◌, map}
use Rattle.std.specs.List.{range_with_len}
use Rattle.slot_core.specs.Output.Charts.{task_row}
use Rattle.gantt_print.specs.Drawings.{unmarked}
use Rattle.gantt_print.proofs.chart.push_tasks.Given as goal

abbrev pub invariant-loop-task : goal.invariant-loop-task
invariant-loop-task l =
    l.tracks.items ≡ l.initial.tracks.items ++ map (λ t. unmarked l.slots (task_row l.index t)) (range_with_len 0 l.task)
