-- No entry so far is wrong.
use Rattle.std.proofs.Common.{◌≡◌}
use Rattle.source_check.proofs.FaultSteps.{entries_from}
use Rattle.source_check.proofs.entries.check_task_entries.Given as goal

abbrev pub invariant-loop-index : goal.invariant-loop-index
invariant-loop-index l =
    entries_from l.place l.count l.entries l.index ≡ entries_from l.place l.count l.entries 0
