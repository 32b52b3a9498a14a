-- The entries of the task.
use Rattle.std.proofs.Common.{◌≡◌, ◌+◌, ◌<◌, ◌==◌, max, cond, length, get_or, sym, ap, ◌∙◌}
use Rattle.std.specs.Prelude.{slice_index}
use Rattle.std.specs.List.{list_any}
use Rattle.slot_core.specs.declared.TheConstants.{TASK_LIMIT}
use Rattle.slot_core.specs.declared.tasks.Task.{Task}
use Rattle.slot_core.specs.Offline.Precedence.{after_of, wcet_of, comes_after}
use Rattle.window_derive.proofs.LoopLemmas.{after_of-at, wcet_of-at, entries_below}
use Rattle.window_derive.proofs.chains.raise_predecessors.Goals as goal

pub raise-requires : goal.raise-requires
raise-requires c =
    let tasks = c.args.tasks.now in
    let within : c.from-place.result < length tasks = rw c.from-place.ensures c.requires.task in
    entries_below tasks c.from-place.result TASK_LIMIT c.items.result.now c.requires.orderable.named c.requires.orderable.count (c.items.ensures ∙ sym (after_of-at tasks c.from-place.result c.index-tasks-place-2.result within))

pub returns : goal.returns
returns c = λ t.
    let tasks = c.args.tasks.now in
    let after = c.args.after.now in
    let within : c.from-place.result < length tasks = rw c.from-place.ensures c.requires.task in
    let entries : c.items.result.now ≡ after_of tasks c.args.task =
    c.items.ensures ∙ sym (after_of-at tasks c.from-place.result c.index-tasks-place-2.result within) ∙ ap (after_of tasks) c.from-place.ensures in
    let slots = λ (task : Task). task.wcet in
    let wcet = wcet_of-at tasks c.from-place.result c.index-tasks-place.result within c.index-tasks-place.is ∙ ap slots c.index-tasks-place.is in
    let before = slice_index after in
    let chain = ap (λ n. slice_index after c.from-place.result + n) (sym wcet) ∙ ap (λ k. slice_index after k + wcet_of tasks k) c.from-place.ensures in
    let through = slice_index after c.from-place.result + slots (get_or tasks c.from-place.result c.index-tasks-place.result) in
    c.raise.ensures t ∙ ap (λ xs. cond (list_any (λ a. a == t) xs) (max (before t) through) (before t)) entries ∙ ap (λ n. cond (comes_after tasks c.args.task t) (max (before t) n) (before t)) chain
