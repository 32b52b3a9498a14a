use Rattle.std.proofs.Common.{take}
use Rattle.margin_find.specs.Kept.{IsKept}
use Rattle.margin_find.specs.Margins.{AreMargins}
use Rattle.margin_find.proofs.all.find_each.Given as goal

abbrev pub invariant-loop-part : goal.invariant-loop-part
invariant-loop-part l =
    AreMargins l.plan.tasks (take l.part-index l.parts) l.found × IsKept l.plan.tasks l.kept
