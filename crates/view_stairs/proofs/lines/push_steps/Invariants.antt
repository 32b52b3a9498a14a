-- The lines so far are read.
use Rattle.std.proofs.Common.{length}
use Rattle.view_stairs.specs.Steps.{IsRead}
use Rattle.view_stairs.proofs.lines.push_steps.Given as goal

abbrev pub invariant-loop-rest : goal.invariant-loop-rest
invariant-loop-rest l = IsRead l.text l.steps.items l.last l.rest

abbrev pub decreases-loop-rest : goal.decreases-loop-rest
decreases-loop-rest l = length l.rest
