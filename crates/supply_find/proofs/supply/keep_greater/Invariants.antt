use Rattle.std.proofs.Common.{◌≡◌, ℕ, ◌+◌, ◌*◌, max, length, slice_index}
use Rattle.std.specs.Prelude.{nat_le, nat_lt, ◌&&◌, if◌then◌else◌}
use Rattle.supply_find.specs.declared.supply.TheConstants.{WEIGHT}
use Rattle.supply_find.proofs.supply.keep_greater.Given as goal

abbrev pub invariant-loop-slots : goal.invariant-loop-slots
invariant-loop-slots l =
    record {
      len : length l.most.items ≡ length l.initial.most.items;
      kept : (n : ℕ) → slice_index l.most.items n ≡ (if nat_le l.low n && nat_lt n l.slots then max (slice_index l.initial.most.items n) ((slice_index l.numbers (l.from + n) + l.work) * WEIGHT + l.early) else slice_index l.initial.most.items n);
    }
