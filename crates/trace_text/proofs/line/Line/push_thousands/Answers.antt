-- The thousands stand before three digits.
use Rattle.std.proofs.Common.{◌++◌, ◌/◌, ◌%◌, ap, sym, ◌∙◌, append_assoc, decimal, take}
use Rattle.trace_text.specs.Threes.{three_digits}
use Rattle.trace_text.proofs.ThreeDigits.{thousands}
use Rattle.trace_text.proofs.line.Line.push_thousands.Goals as goal

pub returns : goal.returns
returns c =
    let n = c.args.n in
    c.push_block.ensures
    ∙ ap (λ row. c.push_short.new.self ++ take 3 row) c.block_of.ensures
    ∙ ap (λ xs. xs ++ three_digits (n % 1000)) c.push_short.ensures.text
    ∙ append_assoc c.args.self.now (decimal (n / 1000)) (three_digits (n % 1000))
    ∙ ap (λ xs. c.args.self.now ++ xs) (sym (thousands n c.requires.from c.requires.below))
