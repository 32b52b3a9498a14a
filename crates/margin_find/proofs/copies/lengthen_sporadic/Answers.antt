use Rattle.slot_core.specs.Claims.Growth.{longer_sporadic}
use Rattle.margin_find.proofs.Pairs.{changed_at-set}
use Rattle.margin_find.proofs.copies.lengthen_sporadic.Goals as goal

pub returns : goal.returns
returns c =
    changed_at-set (longer_sporadic c.args.by) c.args.index c.args.sporadics.now c.item_mut.result.now c.item_mut.ensures.item
