use Rattle.trace_lines.proofs.PartRuns.{part-runs}
use Rattle.trace_lines.proofs.laws.parts_run_their_slots.Goals as goal

pub returns : goal.returns
returns c = part-runs
