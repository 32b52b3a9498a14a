-- The lines of the tasks so far are appended.
use Rattle.std.proofs.Common.{◌≡◌, ◌+◌, ◌*◌, ◌++◌, take}
use Rattle.std.specs.Prelude.{flat_map}
use Rattle.plan_answers.specs.Loads.{sporadic_line}
use Rattle.plan_answers.proofs.load.push_sporadics.Given as goal

abbrev pub invariant-loop-sporadic : goal.invariant-loop-sporadic
invariant-loop-sporadic l = l.text.items ≡ l.initial.text.items ++ flat_map (sporadic_line l.cycle) (take l.sporadic-index l.sporadics)
