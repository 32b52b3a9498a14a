use Rattle.std.proofs.Common.{◌≡◌, take}
use Rattle.std.specs.Prelude.{sum_by}
use Rattle.plan_answers.specs.Loads.{sporadic_load}
use Rattle.plan_answers.proofs.load.reserved_load.Given as goal

abbrev pub invariant-loop-sporadic : goal.invariant-loop-sporadic
invariant-loop-sporadic l = l.slots ≡ sum_by (sporadic_load l.cycle) (take l.sporadic-index l.sporadics)
