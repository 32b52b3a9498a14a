use Rattle.std.proofs.Common.{◌≡◌}
use Rattle.spare_capacity.specs.Recurrence.{last_end}
use Rattle.interval_row.specs.Changes.{copies_of}
use Rattle.interval_row.specs.Marks.{AreMarked}
use Rattle.interval_row.proofs.span_table.filled_table.Given as goal

-- so many copies stand there, up to this end
abbrev pub invariant-loop-copy : goal.invariant-loop-copy
invariant-loop-copy g l = record {
  spans : g.S.Store.spans l.chain ≡ copies_of l.spans l._copy;
  end : l.end ≡ last_end 0 (copies_of l.spans l._copy);
  marked : AreMarked 0 (g.S.Store.spans l.chain) (g.S.Store.marks l.chain);
  room : g.S.Store.room l.chain ≡ l.room;
}
