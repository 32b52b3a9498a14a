use Rattle.std.proofs.Common.{◌≡◌, ◌≤◌, ◌+◌, ◌-◌, length, drop}
use Rattle.slot_core.specs.Runs.Traces.{trace}
use Rattle.arrival_replay.proofs.UnderWay.{IsUnderWay, TookShown}
use Rattle.arrival_replay.proofs.go_to.Given as goal

-- the replay is under way with the arrivals from the next one on, those before it were answered, and
-- the spans of the last entry are those after it, of which the taker keeps the text
abbrev pub invariant-loop-entry : goal.invariant-loop-entry
invariant-loop-entry g l = record {
  under_way :
      IsUnderWay
      (TookShown
      (g.W.Taker.took l.fn.exec.plan.tasks l.fn.taker l.taker)
      l.fn.exec.plan
      l.entry.shown)
      l.fn.exec.plan
      l.exec
      (trace l.fn.exec.plan.tasks l.arrivals l.slots)
      l.slots
      (drop l.next l.arrivals);
  last : l.exec.last_row ≡ l.next;
  within : l.next ≤ l.place;
  counted : g.W.Taker.faults l.fn.taker ≤ g.W.Taker.faults l.taker;
  keeps : g.W.Teller.keeps l.taker l.entry.shown;
}

-- the slots and the arrivals that are left
abbrev pub decreases-loop-entry : goal.decreases-loop-entry
decreases-loop-entry g l = (l.slots - l.exec.scene.time) + (length l.arrivals - l.next)
