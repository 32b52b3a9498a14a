-- Sets with a task that grows, and its margin.
use Rattle.std.specs.Prelude.{◌≡◌, ◌≤◌, None, Some, refl}
use Rattle.std.proofs.Common.{arith}
use Rattle.slot_core.specs.declared.faults.Part.{Part}
use Rattle.slot_core.specs.declared.faults.Part.TheVariants.{Task as TaskPart, Sporadic as SporadicPart}
use Rattle.slot_core.specs.declared.jobs.Window.{Window}
use Rattle.slot_core.specs.Claims.Growth.{IsMargin, StillFits, grown}
use Rattle.slot_core.specs.Feasibility.Feasible.{counterexample}
use Rattle.slot_facts.proofs.Demand.Feasible.{IsFeasible-from_none}
use Rattle.sample_sets.specs.Sets.{half_set, late_half_set}
use Rattle.margin_find.proofs.Growths.{IsMargin-from_search}

-- the one task of a set that needs one slot of two
abbrev half_task : Part
half_task = TaskPart 0 0

-- with one slot more it needs both
pub one_more : counterexample (grown half_set half_task 1) 2 ≡ None
one_more = refl

-- with two slots more it needs three of two
pub two_more : counterexample (grown half_set half_task 2) 2 ≡ Some (record { from = 0; until = 2; demand = 3 })
two_more = refl

-- a sporadic task grows alone
pub longer_alarm : (grown late_half_set (SporadicPart 0) 2).graphs ≡ late_half_set.graphs
longer_alarm = refl

-- no other part grows
pub no_such_task : grown half_set (TaskPart 0 1) 5 ≡ half_set
no_such_task = refl

both_slots : StillFits half_set half_task 1
both_slots = IsFeasible-from_none (grown half_set half_task 1) 2 one_more

-- its margin is one slot
pub half_margin : IsMargin half_set half_task 1 (record { from = 0; until = 2; demand = 3 })
half_margin =
    IsMargin-from_search half_set half_task 1 (record { from = 0; until = 2; demand = 3 }) (omega arith) both_slots two_more

-- none is too little
pub margin_one_too_low : (window : Window) → IsMargin half_set half_task 0 window → ⊥
margin_one_too_low window is = is.fails 1 (omega arith) both_slots

-- and two are too many
pub margin_one_too_high : (window : Window) → IsMargin half_set half_task 2 window → ⊥
margin_one_too_high window is =
    let needs : 3 ≤ 2 = is.fits 2 (omega arith) 0 2 (omega arith) (omega arith) (omega arith) in
    absurd (omega (arith, needs))
