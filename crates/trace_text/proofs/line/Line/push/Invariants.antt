use Rattle.std.proofs.Common.{◌≡◌, ◌+◌, ◌++◌, take}
use Rattle.trace_text.proofs.line.Line.push.Given as goal

abbrev pub invariant-loop-i : goal.invariant-loop-i
invariant-loop-i l =
    take (l.start + l.i) l.self-inside.bytes ≡ take l.start l.initial.self-inside.bytes ++ take l.i l.bytes
