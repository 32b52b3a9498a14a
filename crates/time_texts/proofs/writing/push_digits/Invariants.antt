use Rattle.std.proofs.Common.{◌≡◌, ◌^◌, ◌<◌, ◌≤◌, ◌++◌}
use Rattle.time_texts.specs.Writing.{fraction_text}
use Rattle.time_texts.proofs.writing.push_digits.Given as goal

abbrev pub invariant-loop-rest : goal.invariant-loop-rest
invariant-loop-rest l = record {
  few : l.left ≤ 9;
  below : l.rest < 10 ^ l.left;
  text : l.text.items ++ fraction_text l.left l.rest ≡ l.fn.text.items ++ fraction_text l.places l.fraction;
}

abbrev pub decreases-loop-rest : goal.decreases-loop-rest
decreases-loop-rest l = l.left
