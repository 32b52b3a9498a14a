use Rattle.std.proofs.Common.{◌-◌, ◌≤◌}
use Rattle.margin_find.specs.Search.{AreBounds}
use Rattle.margin_find.proofs.search.narrowed.Given as goal

abbrev pub invariant-loop-bounds : goal.invariant-loop-bounds
invariant-loop-bounds l = AreBounds l.plan.tasks l.at l.bounds × (l.bounds.fails ≤ l.whole.fails)

abbrev pub decreases-loop-bounds : goal.decreases-loop-bounds
decreases-loop-bounds l = l.bounds.fails - l.bounds.fits
