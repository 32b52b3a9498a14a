-- The time at which a replay ends.
use Rattle.std.proofs.Common.{◌≡◌, ℕ, List, ◌∙◌}
use Rattle.std.specs.Prelude.{Err, Ok, OnOk, Result}
use Rattle.slot_core.specs.declared.faults.Failed.{Failed}
use Rattle.slot_core.specs.declared.events.Arrival.{Arrival}
use Rattle.slot_core.specs.declared.tasks.TaskSet.{TaskSet}
use Rattle.slot_core.specs.Keeping.Executives.{Executive, StandsFor}
use Rattle.slot_core.specs.Runs.Traces.{history_of, trace}
use Rattle.slot_facts.proofs.Replays.Times.{time_of-trace}

-- an executive that stands for the trace of n slots is at time n
pub time-from_stands : (result : Result (Unit {0}) Failed) (exec : Executive) (set : TaskSet) (arrivals : List Arrival) (n : ℕ) → OnOk result (StandsFor exec (history_of (trace set arrivals n))) → OnOk result (exec.scene.time ≡ n)
time-from_stands (Ok u) exec set arrivals n stands = stands.same.time ∙ time_of-trace set arrivals n
time-from_stands (Err e) exec set arrivals n stands = tt
