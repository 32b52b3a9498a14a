-- One more bit is appended.
use Rattle.std.proofs.Common.{ℕ, ◌-◌, ◌++◌, List, [], ◌∷◌, length, map, zero-add, append_assoc, length-append, sym, ap, ◌∙◌, arith}
use Rattle.std.specs.List.{range_with_len}
use Rattle.std.proofs.lemmas.List.FromFn.{map-range_with_len_more}
use Rattle.view_waves.specs.declared.lines.TheConstants.{BITS}
use Rattle.view_waves.specs.WaveTexts.{bit_digit}
use Rattle.view_waves.proofs.lines.push_bits.Goals as goal

pub loop-i-preserved : goal.loop-i-preserved
loop-i-preserved c =
    let old : List ℕ = c.args.line.now in
    let i = c.loop-i.i in
    let digit = λ (k : ℕ). bit_digit c.args.n (BITS - 1 - k) in
    let so_far = map digit (range_with_len 0 i) in
    let long = length-append c.loop-i.line (c.bit_digit.result ∷ []) in
    let size = ap (λ (l : List ℕ). length l) c.push.ensures in
    record {
      text =
          c.push.ensures
          ∙ ap (λ (l : List ℕ). l ++ c.bit_digit.result ∷ []) c.loop-i.invariant.text
          ∙ append_assoc old so_far (c.bit_digit.result ∷ [])
          ∙ ap (λ (d : ℕ). old ++ (so_far ++ d ∷ [])) c.bit_digit.ensures
          ∙ ap (λ ds. old ++ ds) (sym (map-range_with_len_more digit 0 i i (zero-add i)));
      long = omega (arith, size, long, c.loop-i.invariant.long);
    }
