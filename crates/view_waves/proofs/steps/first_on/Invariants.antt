-- No slot is among the lines so far.
use Rattle.std.proofs.Common.{◌≡◌, drop}
use Rattle.view_waves.specs.Steps.{first_on}
use Rattle.view_waves.proofs.steps.first_on.Given as goal

abbrev pub invariant-loop-line : goal.invariant-loop-line
invariant-loop-line l = first_on l.rows l.lines ≡ first_on l.rows (drop l.line-index l.lines)
