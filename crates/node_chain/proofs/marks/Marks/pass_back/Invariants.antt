use Rattle.std.proofs.Common.{◌≡◌, ◌+◌, ◌-◌, ◌*◌, ◌^◌, ◌≤◌}
use Rattle.node_chain.specs.Laps.{lift_over, paired}
use Rattle.node_chain.specs.Passes.{lifts_passed, spans_ending}
use Rattle.node_chain.proofs.PassedLifts.{AreUnder}
use Rattle.node_chain.proofs.marks.Marks.pass_back.Given as goal

-- the lifts from this index on are passed, and the spans that end in their pages counted
abbrev pub invariant-loop-index : goal.invariant-loop-index
invariant-loop-index l = record {
  from : l.first ≤ l.index;
  lifts : paired lift_over l.tops l.adds ≡ lifts_passed l.pass.more l.fn.self.marks l.index (l.end - l.index) l.fn.self.lifts;
  passed : AreUnder l.pass.limit l.fn.self.marks l.fn.self.lifts l.index l.end;
  count : l.count ≡ spans_ending l.fn.self.marks l.index (l.end - l.index);
  room : l.count + l.index * 2 ^ 32 ≤ 512 * 2 ^ 32;
}
