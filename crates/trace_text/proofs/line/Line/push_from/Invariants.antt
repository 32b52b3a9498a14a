use Rattle.std.proofs.Common.{◌≡◌, ◌-◌, ◌≤◌, ◌++◌, drop, length, take}
use Rattle.trace_text.proofs.line.Line.push_from.Given as goal

-- what stands before the place was appended
abbrev pub invariant-loop-place : goal.invariant-loop-place
invariant-loop-place l = record {
  text : l.self ≡ l.initial.self ++ take (l.place - l.from) (drop l.from l.other);
  from : l.from ≤ l.place;
  within : l.place ≤ length l.other;
}

-- the bytes that are left
abbrev pub decreases-loop-place : goal.decreases-loop-place
decreases-loop-place l = length l.other - l.place
