use Rattle.std.proofs.Common.{◌≡◌, ◌+◌, ◌*◌, ◌≤◌, pos, take}
use Rattle.interval_row.specs.Changes.{ends_before}
use Rattle.interval_row.specs.Walks.{after_walk}
use Rattle.interval_row.specs.Stores.{Keeps}
use Rattle.interval_row.proofs.walk_back.follow_pages.Given as goal

-- the spans of the pages from this one on have followed, unless nothing is repaid
abbrev pub invariant-loop-last : goal.invariant-loop-last
invariant-loop-last g l = record {
  spans : after_walk l.last.walk (g.S.Store.spans l.store) ≡ after_walk l.fn.from.walk (g.S.Store.spans l.fn.store);
  place : (l.last.walk.more ≡ pos 0 → ⊥) → l.last.walk.index ≡ ends_before (l.last.page * 64) (g.S.Store.spans l.store);
  front : take l.last.walk.index (g.S.Store.spans l.store) ≡ take l.last.walk.index (g.S.Store.spans l.fn.store);
  passed : l.last.walk.index ≤ l.fn.from.walk.index;
  first : l.first_page ≤ l.last.page;
  before : l.last.page ≤ l.fn.from.page;
  kept : Keeps g.S.Store.room g.S.Store.marks l.fn.store l.store;
  low : l.fn.steps ≤ l.steps;
  high : l.steps + 2 * l.last.walk.index ≤ l.fn.steps + 2 * l.fn.from.walk.index;
}

abbrev pub decreases-loop-last : goal.decreases-loop-last
decreases-loop-last g l = l.last.page
