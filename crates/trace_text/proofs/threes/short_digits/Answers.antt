-- The digits that are told stand after the zeros.
use Rattle.std.proofs.Common.{◌≡◌, ◌+◌, ◌-◌, ◌*◌, ap, ◌∙◌, arith, drop, take, get_or}
use Rattle.trace_text.specs.Threes.{zeros_before}
use Rattle.trace_text.specs.declared.threes.TheConstants.{THREES}
use Rattle.trace_text.proofs.ThreeDigits.{short-text}
use Rattle.trace_text.proofs.threes.short_digits.Goals as goal

pub returns-clause-digits : goal.returns-clause-digits
returns-clause-digits c =
    let n = c.args.n in
    let digit : c.from.result ≡ 48 + zeros_before n = c.from.ensures ∙ ap (λ row. get_or row 3 0) c.block_of.ensures in
    let zeros : c.from.result - c.from-2.result ≡ zeros_before n = omega (arith, digit, c.from-2.ensures) in
    let place : n * 4 + (c.from.result - c.from-2.result) ≡ 4 * n + zeros_before n = omega (arith, zeros) in
    ap (take (3 - (c.from.result - c.from-2.result))) (c.block_at.ensures ∙ ap (λ m. take 4 (drop m THREES)) place)
    ∙ ap (λ z. take (3 - z) (take 4 (drop (4 * n + zeros_before n) THREES))) zeros
    ∙ short-text n c.requires
