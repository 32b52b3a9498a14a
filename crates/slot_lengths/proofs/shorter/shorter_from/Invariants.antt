use Rattle.std.proofs.Common.{◌≡◌, true, drop}
use Rattle.slot_core.specs.declared.TheConstants.{SLOT_LIMIT}
use Rattle.slot_core.specs.Sets.Ranges.{is_between}
use Rattle.slot_lengths.specs.Shorter.{shorter_from}
use Rattle.slot_lengths.proofs.shorter.shorter_from.Given as goal

abbrev pub invariant-loop-index : goal.invariant-loop-index
invariant-loop-index l =
    (is_between 1 SLOT_LIMIT l.cycle ≡ true)
    × (shorter_from l.cycle l.index (drop l.index l.sporadics) ≡ shorter_from l.fn.cycle 0 l.sporadics)
