use Rattle.std.proofs.Common.{◌≡◌, ◌+◌, ◌*◌, ◌≤◌, ◌<◌, length, take}
use Rattle.std.specs.Prelude.{slice_get, IfSome}
use Rattle.interval_row.specs.Walks.{after_walk}
use Rattle.interval_row.specs.Stores.{Keeps}
use Rattle.interval_row.proofs.walk_back.follow_all.Given as goal

-- the spans from this place on have followed, and the first of them starts at this end
abbrev pub invariant-loop-walk : goal.invariant-loop-walk
invariant-loop-walk g l = record {
  spans : after_walk l.walk (g.S.Store.spans l.store) ≡ after_walk l.fn.from (g.S.Store.spans l.fn.store);
  within : l.walk.index < length (g.S.Store.spans l.store);
  front : take l.walk.index (g.S.Store.spans l.store) ≡ take l.walk.index (g.S.Store.spans l.fn.store);
  before : l.walk.index ≤ l.fn.from.index;
  start : IfSome (slice_get (g.S.Store.spans l.store) l.walk.index) (λ s. s.start ≡ l.end);
  kept : Keeps g.S.Store.room g.S.Store.marks l.fn.store l.store;
  low : l.fn.steps ≤ l.steps;
  high : l.steps + 2 * l.walk.index ≤ l.fn.steps + 2 * l.fn.from.index;
}

abbrev pub decreases-loop-walk : goal.decreases-loop-walk
decreases-loop-walk g l = l.walk.index
