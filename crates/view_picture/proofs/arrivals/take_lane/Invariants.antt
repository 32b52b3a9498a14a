use Rattle.std.proofs.Common.{◌<◌}
use Rattle.view_picture.specs.declared.arrivals.TheConstants.{LANES}
use Rattle.view_picture.proofs.arrivals.take_lane.Given as goal

abbrev pub invariant-loop-lane : goal.invariant-loop-lane
invariant-loop-lane l = l.best < LANES
