-- The lines of the tasks so far are appended.
use Rattle.std.proofs.Common.{◌≡◌, ◌+◌, ◌*◌, ◌++◌, take}
use Rattle.std.specs.Prelude.{flat_map}
use Rattle.plan_answers.specs.Who.{arrived_lines}
use Rattle.plan_answers.proofs.who.push_arrivals.Given as goal

abbrev pub invariant-loop-sporadic : goal.invariant-loop-sporadic
invariant-loop-sporadic l = l.text.items ≡ l.initial.text.items ++ flat_map (arrived_lines l.from (l.from + l.slots)) (take l.sporadic-index l.sporadics)
