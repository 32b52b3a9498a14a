-- The predecessors of a task are its entries.
use Rattle.std.proofs.Common.{◌≡◌, ◌&&◌, true, not, sym, ap, ◌∙◌}
use Rattle.std.specs.List.{list_all}
use Rattle.slot_core.specs.declared.TheConstants.{TASK_LIMIT}
use Rattle.slot_core.specs.Offline.Precedence.{predecessors}
use Rattle.window_derive.specs.Marks.{is_marked}
use Rattle.window_derive.proofs.LoopLemmas.{after_of-at, entries_below}
use Rattle.window_derive.proofs.OrderLemmas.{list_all-predecessors}
use Rattle.window_derive.proofs.places.is_next.Goals as goal

pub are_placed-requires : goal.are_placed-requires
are_placed-requires c =
    let tasks = c.args.tasks.now in
    entries_below tasks c.args.task TASK_LIMIT c.items.result.now c.requires.named c.requires.count (c.items.ensures ∙ sym (after_of-at tasks c.args.task c.index-tasks-task.result c.requires.task))

pub returns-then-not-placed-task : goal.returns-then-not-placed-task
returns-then-not-placed-task c =
    let tasks = c.args.tasks.now in
    let test = is_marked c.args.placed.now in
    let entries = c.items.ensures ∙ sym (after_of-at tasks c.args.task c.index-tasks-task.result c.requires.task) in
    let fresh : not (test c.args.task) ≡ true = ap not c.if-not-placed-task.true in
    c.are_placed.ensures ∙ ap (list_all test) entries ∙ sym (list_all-predecessors tasks test c.args.task c.requires.named) ∙ sym (ap (λ b. b && list_all test (predecessors tasks c.args.task)) fresh)
