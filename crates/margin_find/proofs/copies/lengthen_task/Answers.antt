use Rattle.slot_core.specs.Claims.Growth.{longer_task}
use Rattle.margin_find.proofs.Pairs.{changed_at-set}
use Rattle.margin_find.proofs.copies.lengthen_task.Goals as goal

pub returns : goal.returns
returns c =
    changed_at-set (longer_task c.args.by) c.args.task c.args.tasks.now c.item_mut.result.now c.item_mut.ensures.item
