-- The lines so far are read, and what tells of the slots is kept.
use Rattle.std.proofs.Common.{◌≤◌, ◌+◌, List, length}
use Rattle.trace_lines.specs.declared.line.TraceLine.{TraceLine}
use Rattle.trace_lines.specs.Parts.{IsKept}
use Rattle.trace_lines.specs.Traces.{IsRead}
use Rattle.trace_lines.proofs.trace.push_lines.Given as goal

abbrev pub invariant-loop-rest : goal.invariant-loop-rest
invariant-loop-rest l = record {
  read : (lines : List TraceLine) × IsRead l.text lines l.reached l.rest × IsKept l.slots lines l.kept.before l.kept.last l.kept.within.items l.kept.end l.kept.count;
  room : l.kept.count + length l.rest ≤ length l.text;
}

abbrev pub decreases-loop-rest : goal.decreases-loop-rest
decreases-loop-rest l = length l.rest
