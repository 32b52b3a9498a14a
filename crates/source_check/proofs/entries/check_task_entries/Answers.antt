-- The entry at this place stands a second time, or it is right.
use Rattle.std.proofs.Common.{◌≡◌, false, get_or, nat_le, sym, ◌∙◌, arith}
use Rattle.std.proofs.lemmas.Bool.Decides.{nat_tests}
use Rattle.source_check.proofs.FaultSteps.{entries_step, told, told_later}
use Rattle.source_check.proofs.entries.check_task_entries.Goals as goal

pub returns-then-is_entry : goal.returns-then-is_entry
returns-then-is_entry c =
    let step = entries_step c.args.place c.args.count c.args.entries.now c.loop-index.index c.loop-index-test.true in
    let low : nat_le c.args.count (get_or c.args.entries.now c.loop-index.index 0) ≡ false = grind (arith, nat_tests) in
    sym c.loop-index.invariant ∙ told _ _ _ _ (told_later _ _ _ _ step low) (sym c.is_entry.ensures ∙ c.if-is_entry.true)

pub loop-index-preserved : goal.loop-index-preserved
loop-index-preserved c =
    let step = entries_step c.args.place c.args.count c.args.entries.now c.loop-index.index c.loop-index-test.true in
    let low : nat_le c.args.count (get_or c.args.entries.now c.loop-index.index 0) ≡ false = grind (arith, nat_tests) in
    sym (told_later _ _ _ _ (told_later _ _ _ _ step low) (sym c.is_entry.ensures ∙ c.if-is_entry.false)) ∙ c.loop-index.invariant
