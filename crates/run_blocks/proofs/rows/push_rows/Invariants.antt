-- The jobs of the lines so far have rows, which are not too many.
use Rattle.std.proofs.Common.{◌≤◌, length, take}
use Rattle.trace_lines.specs.Traces.{runs_of}
use Rattle.run_blocks.specs.declared.TheConstants.{ROW_LIMIT}
use Rattle.run_blocks.specs.Rows.{AreRowsSoFar}
use Rattle.run_blocks.proofs.rows.push_rows.Given as goal

abbrev pub invariant-loop-line : goal.invariant-loop-line
invariant-loop-line l = record {
  rows : AreRowsSoFar l.apart l.rows.items (runs_of (take l.line-index l.lines));
  few : length l.rows.items ≤ ROW_LIMIT;
}
