use Rattle.std.proofs.Common.{take}
use Rattle.trace_lines.specs.Traces.{runs_of}
use Rattle.run_blocks.specs.Blocks.{AreBlocksOf}
use Rattle.run_blocks.proofs.blocks.push_runs.Given as goal

abbrev pub invariant-loop-line : goal.invariant-loop-line
invariant-loop-line l = AreBlocksOf l.rows l.blocks.items (runs_of (take l.line-index l.lines))
