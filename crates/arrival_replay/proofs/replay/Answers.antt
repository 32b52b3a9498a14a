use Rattle.std.proofs.Common.{rules}
use Rattle.slot_core.specs.Runs.Traces.{trace}
use Rattle.arrival_replay.proofs.BrokenTexts.{OnErr-part}
use Rattle.arrival_replay.proofs.replay.Goals as goal

pub returns-clause-broke : goal.returns-clause-broke
returns-clause-broke g c = search rules

pub returns-clause-part : goal.returns-clause-part
returns-clause-part g c = OnErr-part c.tell_all.result c.args.exec.now.plan.tasks _ _ c.tell_all.new.exec (trace c.args.exec.now.plan.tasks c.args.arrivals.now c.args.slots) (returns-clause-broke g c)
