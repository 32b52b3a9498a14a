use Rattle.std.proofs.Common.{◌-◌, ◌<◌, ◌≤◌, length, ap, arith}
use Rattle.trace_verify.specs.Dues.{due_before}
use Rattle.trace_verify.proofs.DueFacts.{due_before-at, due_before-fewer}
use Rattle.trace_verify.proofs.dues.take_at.Goals as goal

pub put-requires-clause-few : goal.put-requires-clause-few
put-requires-clause-few c =
    let due = c.args.due.now.items in
    let inside : c.args.at < length due = omega (arith, c.requires.within, c.requires.blocks.within) in
    let there : c.args.slots ≤ c.index.result.now = omega (arith, c.requires.due, due_before-at due c.args.at c.index.result.now inside c.index.ensures) in
    λ n. omega (arith, c.requires.blocks.few n, due_before-fewer due c.args.at c.index.result.now (c.index.result.now - c.from.result) c.args.slots n inside c.index.ensures (omega (arith, c.from.ensures, there)))

pub returns-clause-fewer : goal.returns-clause-fewer
returns-clause-fewer c =
    let due = c.args.due.now.items in
    let inside : c.args.at < length due = omega (arith, c.requires.within, c.requires.blocks.within) in
    let there : c.args.slots ≤ c.index.result.now = omega (arith, c.requires.due, due_before-at due c.args.at c.index.result.now inside c.index.ensures) in
    λ n. omega (arith, due_before-fewer due c.args.at c.index.result.now (c.index.result.now - c.from.result) c.args.slots n inside c.index.ensures (omega (arith, c.from.ensures, there)), ap (λ xs. due_before xs n) c.put.ensures.due)
