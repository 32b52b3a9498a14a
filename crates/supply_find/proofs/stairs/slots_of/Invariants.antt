use Rattle.std.proofs.Common.{◌≡◌, take}
use Rattle.supply_find.specs.Stairs.{slots_of}
use Rattle.supply_find.proofs.stairs.slots_of.Given as goal

abbrev pub invariant-loop-supply : goal.invariant-loop-supply
invariant-loop-supply l = l.slots ≡ slots_of (take l.supply-index l.table)
