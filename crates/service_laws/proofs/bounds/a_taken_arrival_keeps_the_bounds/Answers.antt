use Rattle.slot_facts.proofs.Bounds.TakenArrival.{a_taken_arrival_keeps_the_bounds}
use Rattle.service_laws.proofs.bounds.a_taken_arrival_keeps_the_bounds.Goals as goal

pub returns : goal.returns
returns c = a_taken_arrival_keeps_the_bounds
