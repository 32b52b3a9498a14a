use Rattle.std.proofs.Common.{◌+◌, ◌-◌, ◌≤◌, length}
use Rattle.interval_row.proofs.ShortTimes.{HasRoom}
use Rattle.interval_row.proofs.pages.first_short.Given as goal

-- each time so far leaves room, and each span before this one took at most a step
abbrev pub invariant-loop-next : goal.invariant-loop-next
invariant-loop-next g l =
    HasRoom (g.S.Store.spans l.store) l.fn.span l.asked l.front l.span
    × (l.fn.steps ≤ l.steps)
    × (l.steps + l.fn.front.count ≤ l.fn.steps + l.front.count)

-- the spans that are left
abbrev pub decreases-loop-next : goal.decreases-loop-next
decreases-loop-next g l = length (g.S.Store.spans l.store) - l.front.count
