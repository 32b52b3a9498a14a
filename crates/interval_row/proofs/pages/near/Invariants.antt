use Rattle.std.proofs.Common.{◌*◌, ◌≤◌}
use Rattle.interval_row.specs.Changes.{ends_before}
use Rattle.interval_row.proofs.CutTimes.{IsBefore}
use Rattle.interval_row.proofs.pages.near.Given as goal

-- the spans so far end before this page, and so before x
abbrev pub invariant-loop-page : goal.invariant-loop-page
invariant-loop-page g l = record {
  before : IsBefore (l.page * 64) (g.S.Store.spans l.store) l.front;
  early : l.front.count ≤ ends_before l.x (g.S.Store.spans l.store);
}
