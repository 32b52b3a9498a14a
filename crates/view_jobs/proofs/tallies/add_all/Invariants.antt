-- What the deeds so far tell is added.
use Rattle.std.proofs.Common.{◌≡◌, take}
use Rattle.slot_core.specs.declared.jobs.Key.{Key}
use Rattle.view_jobs.specs.Tallies.{tally_in, told_from}
use Rattle.view_jobs.proofs.tallies.add_all.Given as goal

abbrev pub invariant-loop-deed : goal.invariant-loop-deed
invariant-loop-deed l =
    (key : Key) → tally_in l.tallies key ≡ told_from key (tally_in l.initial.tallies key) (take l.deed-index l.deeds)
