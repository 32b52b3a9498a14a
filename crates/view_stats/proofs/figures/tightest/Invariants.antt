-- The tightest so far.
use Rattle.std.proofs.Common.{◌≡◌, take}
use Rattle.view_stats.specs.Figures.{tightest}
use Rattle.view_stats.proofs.figures.tightest.Given as goal

abbrev pub invariant-loop-outcome : goal.invariant-loop-outcome
invariant-loop-outcome l = l.least ≡ tightest (take l.outcome-index l.outcomes)
