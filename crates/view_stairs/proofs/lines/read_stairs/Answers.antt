use Rattle.view_stairs.proofs.StepReads.{small-stairs}
use Rattle.view_stairs.proofs.lines.read_stairs.Goals as goal

pub returns-clause-small : goal.returns-clause-small
returns-clause-small c = small-stairs c.push_steps.new.steps.items c.in_ok-push_steps.ensures.stairs
