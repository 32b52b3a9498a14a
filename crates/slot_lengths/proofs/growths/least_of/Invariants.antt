use Rattle.std.proofs.Common.{◌≡◌, drop, fold, map, min}
use Rattle.slot_lengths.specs.Growths.{growth_in, least_of}
use Rattle.slot_lengths.proofs.growths.least_of.Given as goal

abbrev pub invariant-loop-found : goal.invariant-loop-found
invariant-loop-found l =
    fold min l.least (map growth_in (drop l.found-index l.margins)) ≡ least_of (map growth_in l.margins)
