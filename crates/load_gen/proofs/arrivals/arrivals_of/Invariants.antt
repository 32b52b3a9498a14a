-- What arrived so far, and what arrives in the slots that are left, are the arrivals of the load.
use Rattle.std.proofs.Common.{◌≡◌, ◌+◌, ◌-◌, ◌^◌, ◌<◌, ◌≤◌, ◌++◌, length}
use Rattle.load_gen.specs.LoadArrivals.{arrivals_from, load_arrivals}
use Rattle.load_gen.proofs.arrivals.arrivals_of.Given as goal

abbrev pub invariant-loop-slot : goal.invariant-loop-slot
invariant-loop-slot l = record {
  all : l.arrivals.items ++ arrivals_from (l.fn.slots - l.slot) l.slot (length l.arrivals.items + 1) l.x ≡ load_arrivals l.fn.n l.fn.slots;
  few : length l.arrivals.items ≤ l.slot;
  small : l.x < 2 ^ 31;
}
