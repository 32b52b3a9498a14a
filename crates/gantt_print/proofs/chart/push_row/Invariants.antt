-- The label, and spaces so far.
use Rattle.std.proofs.Common.{◌≡◌, ◌≤◌, ◌++◌, ◌-◌, max, length}
use Rattle.std.specs.Prelude.{replicate}
use Rattle.gantt_print.proofs.chart.push_row.Given as goal

abbrev pub invariant-loop : goal.invariant-loop
invariant-loop l = record {
  text : l.line ≡ l.initial.line ++ replicate (l.counter - length l.initial.line) 32;
  count : length l.line ≡ l.counter;
  within : l.counter ≤ max l.width (length l.initial.line);
}
