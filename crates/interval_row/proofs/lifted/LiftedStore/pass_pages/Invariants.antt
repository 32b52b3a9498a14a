use Rattle.std.proofs.Common.{◌≡◌, ◌*◌, ◌≤◌, drop, take}
use Rattle.interval_row.specs.Changes.{ends_before}
use Rattle.interval_row.specs.Lifts.{lifted, AreCovered}
use Rattle.interval_row.specs.Walks.{after_walk}
use Rattle.interval_row.proofs.lifted.LiftedStore.pass_pages.Given as goal

-- the spans of the pages from this one on have followed
abbrev pub invariant-loop-last : goal.invariant-loop-last
invariant-loop-last g l =
    let shelf = l.self-inside.shelf in
    let kept = g.S.Shelf.spans shelf in
    record {
      spans : after_walk l.last.walk (lifted (g.S.Shelf.laps shelf).lifts kept) ≡ after_walk l.fn.from.walk l.fn.self.spans;
      more : l.last.walk.more ≡ l.fn.from.walk.more;
      place : l.last.walk.index ≡ ends_before (l.last.page * 64) kept;
      first : l.fn.first_page ≤ l.last.page;
      last : l.last.page ≤ l.fn.from.page;
      before : l.last.walk.index ≤ l.fn.from.walk.index;
      front : take l.last.walk.index (lifted (g.S.Shelf.laps shelf).lifts kept) ≡ take l.last.walk.index l.fn.self.spans;
      covered : AreCovered (g.S.Shelf.laps shelf).lifts (drop 1 kept);
      room : g.S.Shelf.room shelf ≡ l.fn.self.room;
      marks : (g.S.Shelf.laps shelf).marks ≡ l.fn.self.marks;
    }

abbrev pub decreases-loop-last : goal.decreases-loop-last
decreases-loop-last g l = l.last.page
