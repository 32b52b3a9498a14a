use Rattle.std.proofs.Common.{◌≡◌, ℕ, ◌+◌, length, slice_index}
use Rattle.std.specs.Prelude.{nat_le, nat_lt, ◌&&◌, if◌then◌else◌}
use Rattle.supply_find.proofs.due.raise.Given as goal

abbrev pub invariant-loop-place : goal.invariant-loop-place
invariant-loop-place l =
    record {
      left : length l.numbers.items ≡ length l.initial.numbers.items;
      more : (k : ℕ) → slice_index l.numbers.items k ≡ slice_index l.initial.numbers.items k + (if nat_le l.from k && nat_lt k l.place then l.by else 0);
    }
