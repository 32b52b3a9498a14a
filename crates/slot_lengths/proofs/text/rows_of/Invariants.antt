use Rattle.std.proofs.Common.{◌≡◌, take, map}
use Rattle.slot_lengths.specs.Checks.{row_of}
use Rattle.slot_lengths.proofs.text.rows_of.Given as goal

abbrev pub invariant-loop-slot : goal.invariant-loop-slot
invariant-loop-slot l =
    (l.rows.items ≡ map (row_of l.initial.set) (take l.slot-index l.lengths))
    × (l.set ≡ l.initial.set)
