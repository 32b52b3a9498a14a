-- The tightest of the windows so far, and what is due by their ends.
use Rattle.std.proofs.Common.{◌≡◌, ◌+◌, ◌-◌, sum, take}
use Rattle.std.specs.Prelude.{fold, slice_index}
use Rattle.std.specs.List.{range_with_len}
use Rattle.plan_answers.specs.Tightest.{tighter, window_of}
use Rattle.plan_answers.proofs.tightest.tightest_from.Given as goal

abbrev pub invariant-loop-until : goal.invariant-loop-until
invariant-loop-until l = record {
  summed : l.offline ≡ sum (take l.until l.due);
  tightest : l.best ≡ fold (λ best b. tighter best (window_of l.from b (sum (take (b + 1) l.due) + slice_index l.arrivals (b - l.from)))) l.fn.kept (range_with_len (l.from + 1) (l.until - (l.from + 1)));
}
