-- What is appended, and the items that are left, are the items of all.
use Rattle.std.proofs.Common.{◌≡◌, ◌++◌, drop}
use Rattle.std.specs.Prelude.{flat_map}
use Rattle.std.specs.List.{enumerate_from}
use Rattle.plan_answers.specs.Headers.{item_text}
use Rattle.plan_answers.proofs.array.push_array.Given as goal

abbrev pub invariant-loop-place : goal.invariant-loop-place
invariant-loop-place l =
    l.text.items ++ flat_map item_text (enumerate_from l.place (drop l.place l.bytes)) ≡ l.initial.text.items ++ flat_map item_text (enumerate_from 0 l.bytes)
