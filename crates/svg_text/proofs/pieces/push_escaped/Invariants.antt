use Rattle.std.proofs.Common.{◌≡◌, ◌++◌, take}
use Rattle.svg_text.specs.Content.{escaped}
use Rattle.svg_text.proofs.pieces.push_escaped.Given as goal

abbrev pub invariant-loop-byte : goal.invariant-loop-byte
invariant-loop-byte l = l.text.items ≡ l.initial.text.items ++ escaped (take l.byte-index l.bytes)
