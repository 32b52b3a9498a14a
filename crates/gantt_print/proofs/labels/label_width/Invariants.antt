-- The longest label so far, and at most the limit.
use Rattle.std.proofs.Common.{◌≡◌, ◌≤◌, map, take, length, max, fold}
use Rattle.slot_core.specs.Output.Charts.{row_label}
use Rattle.gantt_print.specs.declared.labels.TheConstants.{LABEL_LIMIT}
use Rattle.gantt_print.specs.Drawings.{MarkedRow}
use Rattle.gantt_print.proofs.labels.label_width.Given as goal

abbrev pub invariant-loop-track : goal.invariant-loop-track
invariant-loop-track l = record {
  longest : l.width ≡ fold max 0 (map (λ (t : MarkedRow). length (row_label l.tasks t.row)) (take l.track-index l.tracks));
  short : l.width ≤ LABEL_LIMIT;
}
