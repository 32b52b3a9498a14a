-- What windows leave free is accepted, but for what requests used and have left.
use Rattle.std.proofs.Common.{ℕ, ◌+◌, ◌/◌, arith}
use Rattle.slot_core.specs.Sets.Cycles.{cycle_of}
use Rattle.slot_core.specs.Runs.Demand.{HasRoom}
use Rattle.slot_core.specs.Runs.Histories.{time_of}
use Rattle.slot_core.specs.Runs.Scenes.{guaranteed, scene_of}
use Rattle.slot_facts.proofs.Legal.Data.{legal-as_data}
use Rattle.slot_facts.proofs.Legal.Left.{due_by, work_by-unended}
use Rattle.slot_facts.proofs.Offers.Answers.{accepted_exactly}
use Rattle.supply_laws.specs.Laws.{SupplyIsGuaranteed}
use Rattle.supply_laws.specs.Requests.{used}
use Rattle.supply_laws.proofs.Kept.{supplied-legal}
use Rattle.supply_laws.proofs.Lefts.{firm_left-le, left_in-guaranteed_parts}

pub supply_is_guaranteed : SupplyIsGuaranteed
supply_is_guaranteed set h offer within slots sound feasible legal some near free fits =
    let cycle = cycle_of set in
    let t = time_of h in
    let cycles : ℕ = t / cycle + 3 in
    let supplied = supplied-legal set (within + used h) slots cycles sound free (legal-as_data set cycle h legal) (omega arith) in
    let room : HasRoom set.sporadics cycle (scene_of set cycle h) offer within = λ x low high.
    omega (
      arith,
      supplied.1 x (omega arith),
      work_by-unended h (guaranteed set cycle h) x,
      left_in-guaranteed_parts (due_by x) set cycles h,
      firm_left-le (due_by x) set h,
    ) in
    (accepted_exactly set.sporadics cycle (scene_of set cycle h) offer within some near).1 room
