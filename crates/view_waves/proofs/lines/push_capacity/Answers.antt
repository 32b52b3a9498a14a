-- The bits stand between the first letter and the name of the capacity.
use Rattle.std.proofs.Common.{◌≡◌, ℕ, ◌-◌, ◌++◌, List, codes, map, append_assoc, ap, ◌∙◌}
use Rattle.std.specs.List.{range_with_len}
use Rattle.view_waves.specs.declared.lines.TheConstants.{BITS}
use Rattle.view_waves.specs.WaveTexts.{bit_digit}
use Rattle.view_waves.proofs.lines.push_capacity.Goals as goal

-- three pieces, appended one after the other
three : (old a b c : List ℕ) → ((old ++ a) ++ b) ++ c ≡ old ++ (a ++ (b ++ c))
three old a b c = append_assoc (old ++ a) b c ∙ append_assoc old a (b ++ c)

pub returns-clause-text : goal.returns-clause-text
returns-clause-text c =
    let old : List ℕ = c.args.line.now in
    let bits = map (λ (i : ℕ). bit_digit c.args.bits (BITS - 1 - i)) (range_with_len 0 BITS) in
    c.push-2.ensures
    ∙ ap (λ (l : List ℕ). l ++ codes " c\n") (c.push_bits.ensures.text ∙ ap (λ (l : List ℕ). l ++ bits) c.push.ensures)
    ∙ three old (codes "b") bits (codes " c\n")
