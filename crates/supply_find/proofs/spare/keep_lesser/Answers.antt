-- One number of slots more.
use Rattle.std.proofs.Common.{◌≡◌, ◌<◌, max, min, fold, length, map, slice_index, zero-add, refl, sym, ap, ◌∙◌, arith}
use Rattle.std.specs.List.{range_with_len}
use Rattle.std.proofs.lemmas.Grind.{get_or_default_zero}
use Rattle.std.proofs.lemmas.List.{length-set}
use Rattle.supply_find.specs.Spare.{most_by, spare_by}
use Rattle.supply_find.proofs.Least.{greatest-more}
use Rattle.supply_find.proofs.SpareTables.{kept-step}
use Rattle.supply_find.proofs.spare.keep_lesser.Goals as goal

pub loop-slots-preserved : goal.loop-slots-preserved
loop-slots-preserved c =
    let inv = c.loop-slots.invariant in
    let due = c.args.due.now in
    let arriving = c.args.arriving.now in
    let time = c.args.time in
    let slots = c.loop-slots.slots in
    let table = c.loop-slots.table.items in
    let f = spare_by due arriving time in
    let start = fold max 0 (map f (range_with_len 0 slots)) in
    let most =
    c.greater-most.ensures
    ∙ ap (max c.loop-slots.most) c.spare_at.ensures
    ∙ ap (λ n. max n (f slots)) inv.most
    ∙ ap (λ k. max start (f k)) (sym (zero-add slots))
    ∙ sym (greatest-more f 0 0 slots) in
    let inside : slots < length table = omega (arith, inv.len, c.loop-slots-test.true) in
    let read : c.index.result.now ≡ slice_index table slots = c.index.ensures ∙ get_or_default_zero table slots c.index.result.now inside in
    record {
      len = length-set table slots c.lesser.result ∙ inv.len;
      most = most;
      kept = kept-step c.args.table.now.items table _ (λ k. most_by due arriving k time) slots c.lesser.result inside inv.len inv.kept (c.lesser.ensures ∙ ap (λ n. min n c.greater-most.result) read ∙ ap (min (slice_index table slots)) most) refl;
    }
