-- One entry more.
use Rattle.std.proofs.Common.{ℕ, ◌+◌, ◌<◌, length, get_or, arith}
use Rattle.std.specs.Prelude.{slice_index}
use Rattle.std.proofs.lemmas.Grind.{common_steps}
use Rattle.slot_core.specs.Offline.Precedence.{wcet_of}
use Rattle.window_derive.proofs.ChainSteps.{longest-push}
use Rattle.window_derive.proofs.LoopLemmas.{wcet_of-at}
use Rattle.window_derive.proofs.chains.longest_of.Goals as goal

pub loop-entry-preserved : goal.loop-entry-preserved
loop-entry-preserved c =
    let f = λ (p : ℕ). slice_index c.args.before.now p + wcet_of c.args.tasks.now p in
    let entry = get_or c.args.entries.now c.loop-entry.entry-index 0 in
    let at : c.from-entry.result < length c.args.tasks.now = rw c.from-entry.ensures (c.requires.entries c.loop-entry.entry-index 0 c.loop-entry-test.true) in
    let wcet = wcet_of-at c.args.tasks.now c.from-entry.result c.index-tasks-entry.result at c.index-tasks-entry.is in
    let more = longest-push f c.args.entries.now c.loop-entry.entry-index c.loop-entry-test.true in
    grind (arith, common_steps, more, wcet)
