use Rattle.std.proofs.Common.{◌+◌, ◌*◌, ◌/◌, ap, subst, arith}
use Rattle.trace_verify.specs.Dues.{due_before, IsStretch}
use Rattle.trace_verify.proofs.DueFacts.{AreBlocks-put}
use Rattle.trace_verify.proofs.dues.put.Goals as goal

pub stretch_of-requires-clause-few : goal.stretch_of-requires-clause-few
stretch_of-requires-clause-few c =
    λ n. omega (arith, ap (λ xs. due_before xs n) c.deref.ensures.value, c.requires.few n)

pub returns-clause-blocks : goal.returns-clause-blocks
returns-clause-blocks c =
    let due = c.args.due.now.items in
    let blocks = c.args.blocks.now.items in
    let k = c.args.at / 64 in
    let told = subst (λ xs. IsStretch (due_before xs) (64 * k) (64 * k + 64) c.stretch_of.result) c.deref.ensures.value c.stretch_of.ensures in
    AreBlocks-put due blocks c.args.at c.args.slots k c.stretch_of.result c.requires.blocks (omega arith) (omega arith) (omega (arith, c.requires.within)) told c.requires.few
