use Rattle.std.proofs.Common.{◌≡◌, ◌++◌, take}
use Rattle.trace_lines.proofs.keys.KeyText.push.Given as goal

abbrev pub invariant-loop-byte : goal.invariant-loop-byte
invariant-loop-byte l =
    l.self-inside.text.items ≡ l.initial.self-inside.text.items ++ take l.byte-index l.bytes
