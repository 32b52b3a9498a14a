use Rattle.std.proofs.Common.{ℕ, ◌+◌, ◌-◌, ◌<◌, ◌≤◌}
use Rattle.demand_test.specs.EndTables.{needed_in}
use Rattle.demand_test.specs.declared.windows.TheConstants.{MARGIN}
use Rattle.demand_test.proofs.windows.known_beyond.Given as goal

abbrev pub invariant-loop-after : goal.invariant-loop-after
invariant-loop-after l =
    (l.after ≤ l.last) × ((b : ℕ) → l.after < b → l.from < b → b ≤ l.last → needed_in l.ends l.arrivals l.from b + MARGIN ≤ b - l.from)

abbrev pub decreases-loop-after : goal.decreases-loop-after
decreases-loop-after l = l.after
