use Rattle.std.proofs.Common.{◌≡◌, ℕ, ◌+◌, ◌<◌, ◌≤◌, length, take, sum, slice_index}
use Rattle.demand_test.proofs.ends.add_up.Given as goal

abbrev pub invariant-loop-place : goal.invariant-loop-place
invariant-loop-place l =
    record {
      left : length l.numbers.items ≡ length l.initial.numbers.items;
      summed : l.sum ≡ sum (take l.place l.initial.numbers.items);
      before : (b : ℕ) → b < l.place → slice_index l.numbers.items b ≡ sum (take (b + 1) l.initial.numbers.items);
      after : (b : ℕ) → l.place ≤ b → slice_index l.numbers.items b ≡ slice_index l.initial.numbers.items b;
    }
