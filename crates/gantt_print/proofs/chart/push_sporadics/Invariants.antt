-- The rows of the first sporadic tasks are appended.
use Rattle.std.proofs.Common.{◌≡◌, ◌++◌, map}
use Rattle.std.specs.List.{range_with_len}
use Rattle.slot_core.specs.Output.Charts.{sporadic_row}
use Rattle.gantt_print.specs.Drawings.{unmarked}
use Rattle.gantt_print.proofs.chart.push_sporadics.Given as goal

abbrev pub invariant-loop-index : goal.invariant-loop-index
invariant-loop-index l =
    l.tracks.items ≡ l.initial.tracks.items ++ map (λ s. unmarked l.slots (sporadic_row s)) (range_with_len 0 l.index)
