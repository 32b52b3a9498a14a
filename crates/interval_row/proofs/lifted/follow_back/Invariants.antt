use Rattle.std.proofs.Common.{◌≡◌, pos, ◌+◌, ◌*◌, ◌≤◌, ◌<◌, drop, take, IfSome, slice_get}
use Rattle.slot_core.specs.declared.jobs.Span.{Span}
use Rattle.interval_row.specs.Changes.{ends_before}
use Rattle.interval_row.specs.Lifts.{lifted}
use Rattle.interval_row.specs.Walks.{after_walk, others_between, HaveAtMost}
use Rattle.interval_row.specs.Stores.{Keeps}
use Rattle.interval_row.proofs.lifted.follow_back.Given as goal

-- the spans from this place on have followed, as a run's would; before the first turn there are none
abbrev pub invariant-loop-last : goal.invariant-loop-last
invariant-loop-last g l = record {
  spans :
      after_walk l.last.walk (lifted (g.S.Shelf.laps l.fn.shelf).lifts (g.S.Shelf.spans l.shelf))
      ≡ after_walk l.fn.from (lifted (g.S.Shelf.laps l.fn.shelf).lifts (g.S.Shelf.spans l.fn.shelf));
  within : l.last.walk.index ≤ l.fn.from.index;
  before : ((l.last.walk.more ≡ pos 0 → ⊥) → 0 < l.last.walk.index → l.fn.page * 64 ≤ l.last.start → ⊥) → l.last.walk.index < l.fn.from.index;
  reached : ends_before (l.fn.page * 64) (g.S.Shelf.spans l.fn.shelf) ≤ l.last.walk.index;
  some : 0 < l.last.walk.index → l.fn.page * 64 ≤ l.last.start → ends_before (l.fn.page * 64) (g.S.Shelf.spans l.fn.shelf) < l.last.walk.index;
  border : l.last.start < l.fn.page * 64 → l.last.walk.index ≡ ends_before (l.fn.page * 64) (g.S.Shelf.spans l.fn.shelf);
  start : l.last.walk.index < l.fn.from.index → IfSome (slice_get (g.S.Shelf.spans l.shelf) l.last.walk.index) (λ (s : Span). s.start ≡ l.last.start);
  high : HaveAtMost l.last.high (others_between l.last.walk.index l.fn.from.index (lifted (g.S.Shelf.laps l.fn.shelf).lifts (g.S.Shelf.spans l.shelf)));
  front : take l.last.walk.index (g.S.Shelf.spans l.shelf) ≡ take l.last.walk.index (g.S.Shelf.spans l.fn.shelf);
  rest : drop l.fn.from.index (g.S.Shelf.spans l.shelf) ≡ drop l.fn.from.index (g.S.Shelf.spans l.fn.shelf);
  kept : Keeps g.S.Shelf.room g.S.Shelf.laps l.fn.shelf l.shelf;
  steps : l.steps + 2 * l.last.walk.index ≡ l.fn.steps + 2 * l.fn.from.index;
}

abbrev pub decreases-loop-last : goal.decreases-loop-last
decreases-loop-last g l = l.last.walk.index
