use Rattle.slot_exec.proofs.CycleEnds.{two_cycles-left}
use Rattle.slot_exec.proofs.cycles.ends_cycle.Goals as goal

pub returns : goal.returns
returns c = two_cycles-left c.args.time c.args.end c.args.cycle c.requires.later c.requires.some c.requires.end
