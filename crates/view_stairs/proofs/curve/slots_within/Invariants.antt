-- What is read of the lines that are left is what is read of all.
use Rattle.std.proofs.Common.{◌≡◌, drop, map}
use Rattle.supply_lines.specs.Lines.{read_at, read_from}
use Rattle.view_stairs.specs.Steps.{pair_of}
use Rattle.view_stairs.proofs.curve.slots_within.Given as goal

abbrev pub invariant-loop-step : goal.invariant-loop-step
invariant-loop-step l = read_from l.low l.slots (map pair_of (drop l.step-index l.steps)) l.within ≡ read_at (map pair_of l.steps) l.within
