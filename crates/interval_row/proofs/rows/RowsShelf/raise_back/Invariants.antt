use Rattle.std.proofs.Common.{◌≡◌, ◌+◌, ◌*◌, ◌≤◌}
use Rattle.node_chain.specs.Raises.{lifted_by, map_between}
use Rattle.node_chain.proofs.WalksBack.{AreUpTo, PassOn}
use Rattle.interval_row.proofs.rows.RowsShelf.raise_back.Given as goal

-- the spans from this place on are raised, and each passes on to the one before it
abbrev pub invariant-loop-index : goal.invariant-loop-index
invariant-loop-index g l = record {
  some : 1 ≤ l.index;
  spans : l.self.spans ≡ map_between (lifted_by l.raise.more) l.index l.from l.fn.self.spans;
  room : l.self.room ≡ l.fn.self.room;
  laps : l.self.laps ≡ l.fn.self.laps;
  passed : PassOn l.raise l.fn.self.spans l.index l.from;
  high : AreUpTo l.raise l.fn.self.spans l.high l.index l.from;
  steps : l.steps + 2 * l.index ≡ l.fn.steps + 2 * l.from;
}
