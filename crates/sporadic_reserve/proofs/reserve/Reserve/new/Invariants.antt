use Rattle.std.proofs.Common.{◌≡◌, take, map}
use Rattle.sporadic_reserve.specs.Rates.{first_rate}
use Rattle.sporadic_reserve.proofs.reserve.Reserve.new.Given as goal

abbrev pub invariant-loop-task : goal.invariant-loop-task
invariant-loop-task l = l.kept.items ≡ map first_rate (take l.task-index l.tasks)
