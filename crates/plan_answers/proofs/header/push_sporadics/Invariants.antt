-- What is appended, and the items that are left, are the items of all.
use Rattle.std.proofs.Common.{◌≡◌, ◌++◌, drop}
use Rattle.std.specs.Prelude.{flat_map}
use Rattle.std.specs.List.{enumerate_from}
use Rattle.plan_answers.specs.Headers.{sporadic_lines}
use Rattle.plan_answers.proofs.header.push_sporadics.Given as goal

abbrev pub invariant-loop-index : goal.invariant-loop-index
invariant-loop-index l =
    l.text.items ++ flat_map sporadic_lines (enumerate_from l.index (drop l.index l.sporadics)) ≡ l.initial.text.items ++ flat_map sporadic_lines (enumerate_from 0 l.sporadics)
