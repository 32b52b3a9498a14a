-- The firm jobs of the lines so far are these, and few.
use Rattle.std.proofs.Common.{◌≡◌, ◌≤◌, [], length, take}
use Rattle.trace_lines.specs.Traces.{runs_of}
use Rattle.run_blocks.specs.declared.TheConstants.{FIRM_ROW_LIMIT}
use Rattle.run_blocks.specs.Rows.{firms_from}
use Rattle.run_blocks.proofs.rows.has_few_firm_jobs.Given as goal

abbrev pub invariant-loop-line : goal.invariant-loop-line
invariant-loop-line l = record {
  seen : l.firms.items ≡ firms_from [] (runs_of (take l.line-index l.lines));
  few : length l.firms.items ≤ FIRM_ROW_LIMIT;
}
