-- The longest of the entries so far.
use Rattle.std.proofs.Common.{◌≡◌, ◌+◌, max, fold, map, take}
use Rattle.std.specs.Prelude.{slice_index}
use Rattle.slot_core.specs.Offline.Precedence.{wcet_of}
use Rattle.window_derive.proofs.chains.longest_of.Given as goal

abbrev pub invariant-loop-entry : goal.invariant-loop-entry
invariant-loop-entry l =
    l.longest ≡ fold max 0 (map (λ p. slice_index l.before p + wcet_of l.tasks p) (take l.entry-index l.entries))
