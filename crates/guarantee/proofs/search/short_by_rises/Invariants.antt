use Rattle.std.proofs.Common.{◌≡◌, ◌+◌, ◌-◌, ◌≤◌}
use Rattle.guarantee.specs.Stretches.{IsLevelFrom, LeavesBetween, MostBetween}
use Rattle.guarantee.proofs.Segments.{found_from}
use Rattle.guarantee.proofs.search.short_by_rises.Given as goal

-- what is left to search gives the same, the level holds from here on, before here and from the end
-- on so much is left, and no greater number is at all those times
abbrev pub invariant-loop-at : goal.invariant-loop-at
invariant-loop-at l = record {
  low : l.from ≤ l.at;
  high : l.end ≤ l.until;
  rises : l.rises + l.from ≤ l.at;
  same : found_from l.reserve l.ask.now l.ask.arrivals (l.ask.slots + l.due) l.from l.until ≡ found_from l.reserve l.ask.now l.ask.arrivals (l.ask.slots + l.due) l.at l.end;
  here : IsLevelFrom l.reserve l.ask.arrivals l.at l.tried.level;
  left : LeavesBetween l.reserve l.ask l.due l.tried.left l.from l.at;
  later : LeavesBetween l.reserve l.ask l.due l.tried.left l.end l.until;
  greatest : MostBetween l.reserve l.ask l.due l.initial.tried.left l.tried.left l.from l.until;
  least : l.tried.left ≤ l.initial.tried.left;
}

abbrev pub decreases-loop-at : goal.decreases-loop-at
decreases-loop-at l = l.until - l.at
