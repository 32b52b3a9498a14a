use Rattle.std.proofs.Common.{◌≡◌}
use Rattle.interval_row.proofs.Marked.{AreFirst}
use Rattle.interval_row.proofs.marks.put_first_marks.Given as goal

-- the marks so far are the first ones
abbrev pub invariant-loop-index : goal.invariant-loop-index
invariant-loop-index g l = record {
  first : AreFirst (g.S.Store.marks l.store) l.index;
  spans : g.S.Store.spans l.store ≡ g.S.Store.spans l.fn.store;
  room : g.S.Store.room l.store ≡ g.S.Store.room l.fn.store;
}
