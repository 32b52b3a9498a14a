use Rattle.std.proofs.Common.{◌≡◌, ◌++◌, take, map}
use Rattle.plan_answers.specs.Headers.{c_byte}
use Rattle.plan_answers.proofs.header.push_name.Given as goal

abbrev pub invariant-loop-byte : goal.invariant-loop-byte
invariant-loop-byte l = l.text.items ≡ l.initial.text.items ++ map c_byte (take l.byte-index l.name)
