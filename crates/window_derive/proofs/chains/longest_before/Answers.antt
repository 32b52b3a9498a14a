-- The entries of the task.
use Rattle.std.proofs.Common.{◌≡◌, ℕ, ◌+◌, ◌<◌, max, fold, map, length, sym, ap, ◌∙◌, arith}
use Rattle.std.specs.Prelude.{slice_index}
use Rattle.slot_core.specs.Offline.Precedence.{after_of, wcet_of}
use Rattle.window_derive.proofs.LoopLemmas.{after_of-at, entries_below}
use Rattle.window_derive.proofs.chains.longest_before.Goals as goal

pub longest_of-requires-clause-entries : goal.longest_of-requires-clause-entries
longest_of-requires-clause-entries c =
    let tasks = c.args.tasks.now in
    let within : c.from.result < length tasks = rw c.from.ensures c.requires.task in
    entries_below tasks c.from.result (length tasks) c.items.result.now c.requires.orderable.named (omega arith) (c.items.ensures ∙ sym (after_of-at tasks c.from.result c.index-tasks-from.result within))

pub returns : goal.returns
returns c =
    let tasks = c.args.tasks.now in
    let f = λ (p : ℕ). slice_index c.args.before.now p + wcet_of tasks p in
    let within : c.from.result < length tasks = rw c.from.ensures c.requires.task in
    let entries : c.items.result.now ≡ after_of tasks c.args.task =
    c.items.ensures ∙ sym (after_of-at tasks c.from.result c.index-tasks-from.result within) ∙ ap (after_of tasks) c.from.ensures in
    c.longest_of.ensures ∙ ap (λ xs. fold max 0 (map f xs)) entries
