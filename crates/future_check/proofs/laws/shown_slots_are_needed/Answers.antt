use Rattle.future_check.proofs.Needs.{shown_slots_are_needed}
use Rattle.future_check.proofs.laws.shown_slots_are_needed.Goals as goal

pub returns : goal.returns
returns c = shown_slots_are_needed
