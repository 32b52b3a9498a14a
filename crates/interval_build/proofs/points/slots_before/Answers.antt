-- One more slot.
use Rattle.std.proofs.Common.{◌++◌, ◌∷◌, [], ap, sym, ◌∙◌}
use Rattle.slot_facts.proofs.Lists.RangeFilters.{range-more}
use Rattle.interval_build.proofs.points.slots_before.Goals as goal

pub loop-slot-preserved : goal.loop-slot-preserved
loop-slot-preserved c =
    c.in_ok-push.ensures.items ∙ (ap (λ xs. xs ++ c.loop-slot.slot ∷ []) c.loop-slot.invariant ∙ sym (range-more c.loop-slot.slot))
