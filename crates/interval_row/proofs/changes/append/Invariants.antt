use Rattle.std.proofs.Common.{◌≡◌, ◌+◌, ◌*◌, ◌++◌, length, map, take}
use Rattle.spare_capacity.specs.Recurrence.{first_start}
use Rattle.interval_row.specs.Changes.{shifted}
use Rattle.interval_row.specs.Marks.{AreMarked}
use Rattle.interval_row.proofs.Marked.{AreLight}
use Rattle.interval_row.proofs.changes.append.Given as goal

-- the spans so far are appended, two steps each
abbrev pub invariant-loop-span : goal.invariant-loop-span
invariant-loop-span g l = record {
  spans : g.S.Store.spans l.store ≡ g.S.Store.spans l.fn.store ++ map (shifted l.by) (take l.span-index l.spans);
  count : length (g.S.Store.spans l.store) ≡ length (g.S.Store.spans l.fn.store) + l.span-index;
  light : AreLight (g.S.Store.spans l.store);
  marked : AreMarked (first_start (g.S.Store.spans l.fn.store)) (g.S.Store.spans l.store) (g.S.Store.marks l.store);
  room : g.S.Store.room l.store ≡ g.S.Store.room l.fn.store;
  steps : l.steps ≡ l.fn.steps + 2 * l.span-index;
}
