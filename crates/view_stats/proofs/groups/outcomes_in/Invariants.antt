-- The outcomes so far of the jobs of the group.
use Rattle.std.proofs.Common.{◌≡◌, take}
use Rattle.view_stats.specs.Groups.{outcomes_in}
use Rattle.view_stats.proofs.groups.outcomes_in.Given as goal

abbrev pub invariant-loop-outcome : goal.invariant-loop-outcome
invariant-loop-outcome l = l.own.items ≡ outcomes_in l.group (take l.outcome-index l.outcomes)
