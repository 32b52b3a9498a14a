-- Its row stands in the table at its place.
use Rattle.std.proofs.Common.{◌≡◌, ◌*◌, ap, ◌∙◌, arith, drop, take}
use Rattle.trace_text.specs.declared.threes.TheConstants.{THREES}
use Rattle.trace_text.proofs.ThreeDigits.{table-row}
use Rattle.trace_text.proofs.threes.block_of.Goals as goal

pub returns : goal.returns
returns c =
    let n = c.args.n in
    let place : n * 4 ≡ 4 * n = omega arith in
    c.block_at.ensures ∙ ap (λ m. take 4 (drop m THREES)) place ∙ table-row n c.requires
