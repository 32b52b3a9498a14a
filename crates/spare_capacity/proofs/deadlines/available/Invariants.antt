use Rattle.std.proofs.Common.{◌≡◌, ◌*◌, ◌^◌, ◌≤◌, pos, ◌+ℤ◌, drop}
use Rattle.spare_capacity.proofs.Free.{free, StartBy}
use Rattle.spare_capacity.proofs.deadlines.available.Given as goal

-- what is free in the spans so far and in those to come is all; the next one starts by the deadline
abbrev pub invariant-loop-row : goal.invariant-loop-row
invariant-loop-row l = record {
  sum : pos l.free +ℤ free l.dl (drop l.row-index l.rows) ≡ free l.dl l.rows;
  small : l.free ≤ l.row-index * 2 ^ 40;
  rest : StartBy l.dl (drop l.row-index l.rows);
}
