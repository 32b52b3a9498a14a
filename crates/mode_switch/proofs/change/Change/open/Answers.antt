-- The executive stands for a history, and what it keeps tells of its jobs.
use Rattle.mode_switch.proofs.Openings.{carried-named, carried-of_history}
use Rattle.mode_switch.proofs.change.Change.open.Goals as goal

pub returns-clause-of_history : goal.returns-clause-of_history
returns-clause-of_history g c = carried-of_history c.args.exec.now c.now.ensures.kept

pub returns-clause-named : goal.returns-clause-named
returns-clause-named g c = carried-named c.args.exec.now c.now.ensures.kept c.now.ensures.stands
