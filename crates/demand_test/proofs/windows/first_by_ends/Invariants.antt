use Rattle.std.proofs.Common.{◌≡◌, ℕ, ◌<◌, None}
use Rattle.demand_test.specs.EndTables.{failing_in}
use Rattle.demand_test.proofs.windows.first_by_ends.Given as goal

abbrev pub invariant-loop-until : goal.invariant-loop-until
invariant-loop-until l = (k : ℕ) → l.from < k → k < l.until → failing_in l.ends l.arrivals l.from k ≡ None
