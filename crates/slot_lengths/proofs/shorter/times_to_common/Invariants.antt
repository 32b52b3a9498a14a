-- No number of times so far is the least.
use Rattle.std.proofs.Common.{◌≡◌, ◌+◌, ◌-◌, unwrap_or}
use Rattle.std.specs.Prelude.{find}
use Rattle.std.specs.List.{range_with_len}
use Rattle.graph_unroll.specs.Multiples.{is_common, times_to_common}
use Rattle.slot_lengths.proofs.shorter.times_to_common.Given as goal

abbrev pub invariant-loop-times : goal.invariant-loop-times
invariant-loop-times l =
    unwrap_or (find (is_common l.cycle l.length) (range_with_len l.times (l.length + 1 - l.times))) l.length ≡ times_to_common l.cycle l.length
