use Rattle.std.proofs.Common.{ℕ, ◌-◌, ◌<◌, ◌≤◌}
use Rattle.demand_test.specs.EndTables.{needed_in}
use Rattle.demand_test.proofs.windows.fits_by.Given as goal

abbrev pub invariant-loop-until : goal.invariant-loop-until
invariant-loop-until l =
    (l.until ≤ l.last) × ((b : ℕ) → l.until < b → l.from < b → b ≤ l.last → needed_in l.ends l.arrivals l.from b ≤ b - l.from)

abbrev pub decreases-loop-until : goal.decreases-loop-until
decreases-loop-until l = l.until
