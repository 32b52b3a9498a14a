-- The sum so far.
use Rattle.std.proofs.Common.{◌≡◌, take}
use Rattle.view_stats.specs.Figures.{total}
use Rattle.view_stats.proofs.figures.total.Given as goal

abbrev pub invariant-loop-n : goal.invariant-loop-n
invariant-loop-n l = l.sum ≡ total (take l.n-index l.numbers)
