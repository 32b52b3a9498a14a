-- The bits so far are appended.
use Rattle.std.proofs.Common.{◌≡◌, ◌+◌, ◌-◌, ◌++◌, length, map}
use Rattle.std.specs.List.{range_with_len}
use Rattle.view_waves.specs.declared.lines.TheConstants.{BITS}
use Rattle.view_waves.specs.WaveTexts.{bit_digit}
use Rattle.view_waves.proofs.lines.push_bits.Given as goal

abbrev pub invariant-loop-i : goal.invariant-loop-i
invariant-loop-i l = record {
  text : l.line ≡ l.initial.line ++ map (λ k. bit_digit l.n (BITS - 1 - k)) (range_with_len 0 l.i);
  long : length l.line ≡ length l.initial.line + l.i;
}
