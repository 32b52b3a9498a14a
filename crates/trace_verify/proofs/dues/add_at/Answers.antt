use Rattle.std.proofs.Common.{◌+◌, ◌<◌, length, ap, ◌∙◌, arith}
use Rattle.trace_verify.specs.Dues.{due_before}
use Rattle.trace_verify.proofs.DueFacts.{counts-le, due_before-more}
use Rattle.trace_verify.proofs.dues.add_at.Goals as goal

pub put-requires-clause-few : goal.put-requires-clause-few
put-requires-clause-few c =
    let due = c.args.due.now.items in
    let inside : c.args.at < length due = omega (arith, c.requires.within, c.requires.blocks.within) in
    λ n. omega (arith, c.requires.few n, due_before-more due c.args.at c.index.result.now (c.index.result.now + c.from.result) c.args.slots n inside c.index.ensures (omega (arith, c.from.ensures)), counts-le c.args.at n c.args.slots)

pub returns-clause-more : goal.returns-clause-more
returns-clause-more c =
    let due = c.args.due.now.items in
    let inside : c.args.at < length due = omega (arith, c.requires.within, c.requires.blocks.within) in
    λ n. ap (λ xs. due_before xs n) c.put.ensures.due ∙ due_before-more due c.args.at c.index.result.now (c.index.result.now + c.from.result) c.args.slots n inside c.index.ensures (omega (arith, c.from.ensures))
