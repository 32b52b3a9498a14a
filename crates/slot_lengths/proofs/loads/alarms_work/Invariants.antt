use Rattle.std.proofs.Common.{◌≡◌, ◌*◌, ◌^◌, ◌≤◌, take}
use Rattle.std.specs.Prelude.{sum_by}
use Rattle.slot_lengths.specs.Loads.{alarm_work}
use Rattle.slot_lengths.proofs.loads.alarms_work.Given as goal

abbrev pub invariant-loop-sporadic : goal.invariant-loop-sporadic
invariant-loop-sporadic l =
    (l.work ≡ sum_by (alarm_work l.time) (take l.sporadic-index l.sporadics))
    × (l.work ≤ l.sporadic-index * 2 ^ 78)
