-- No line so far tells more.
use Rattle.std.proofs.Common.{ℕ, ◌<◌, ◌≤◌, get_or}
use Rattle.slot_core.specs.declared.TheConstants.{SLOT_LIMIT}
use Rattle.view_stairs.specs.declared.lines.Step.{Step}
use Rattle.view_stairs.proofs.curve.most_slots.Given as goal

abbrev pub invariant-loop-step : goal.invariant-loop-step
invariant-loop-step l =
    (l.most ≤ SLOT_LIMIT) × ((k : ℕ) (d : Step) → k < l.step-index → (get_or l.steps k d).supply.slots ≤ l.most)
