-- A block more is appended.
use Rattle.std.proofs.Common.{◌+◌, ◌-◌, ◌≤◌, ◌++◌, drop, length, take, ap, ◌∙◌, append_assoc, arith}
use Rattle.trace_text.specs.declared.line.TheConstants.{COPY_SIZE}
use Rattle.trace_text.proofs.Blocks.{block_after}
use Rattle.trace_text.proofs.line.Line.push_from.Goals as goal

pub loop-place-preserved : goal.loop-place-preserved
loop-place-preserved c =
    let first = c.args.self.now in
    let from = c.args.from in
    let xs = c.args.other.now in
    let l = c.loop-place in
    let count = c.min-count.result in
    let end = ap length c.bytes-end.ensures in
    let few : count ≤ COPY_SIZE = omega (arith, c.min-count.ensures) in
    let inside : l.place + count ≤ length xs = omega (arith, end, c.min-count.ensures, l.invariant.within) in
    let before = take (l.place - from) (drop from xs) in
    let block = take count (drop l.place xs) in
    record {
      text =
          c.push_block.ensures
          ∙ ap (λ ys. l.self ++ ys) (c.block_from.ensures.front count few inside)
          ∙ ap (λ ys. ys ++ block) l.invariant.text
          ∙ append_assoc first before block
          ∙ ap (λ ys. first ++ ys) (block_after xs from l.place count l.invariant.from);
      from = omega (arith, l.invariant.from);
      within = inside;
    }
