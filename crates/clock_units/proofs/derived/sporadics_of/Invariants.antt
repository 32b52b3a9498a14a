use Rattle.std.proofs.Common.{◌≡◌, drop}
use Rattle.clock_units.specs.Derived.{each, sporadic_of}
use Rattle.clock_units.proofs.EachLoop.{with_before}
use Rattle.clock_units.proofs.derived.sporadics_of.Given as goal

abbrev pub invariant-loop-s : goal.invariant-loop-s
invariant-loop-s l =
    each (sporadic_of l.slot l.worth) 0 l.physical ≡ with_before l.sporadics (each (sporadic_of l.slot l.worth) l.s (drop l.s l.physical))
