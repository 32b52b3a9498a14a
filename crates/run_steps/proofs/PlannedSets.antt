-- The plan of a sound set that passes the cycle test.
use Rattle.std.proofs.Common.{◌≡◌, ℕ, ◌<◌, true, None, Ok, refl, sym, ap, subst, ◌∙◌, arith}
use Rattle.slot_core.specs.declared.tasks.TaskSet.{TaskSet}
use Rattle.slot_core.specs.Sets.Cycles.{cycle_of}
use Rattle.slot_core.specs.Feasibility.Feasible.{IsFeasible, counterexample}
use Rattle.slot_core.specs.Keeping.Plans.{PlanParts, IsPlan, planned}
use Rattle.slot_core.specs.Sets.Ranges.{is_sound}
use Rattle.slot_facts.proofs.Demand.Feasible.{none-from_feasible}
use Rattle.slot_facts.proofs.Offline.Jobs.{cycle-positive}
use Rattle.slot_facts.proofs.Plans.Planned.{planned-from_plan}
use Rattle.run_steps.specs.Readings.{feasible_plan}

-- a sound and feasible set has no counterexample
none-from_sound : (set : TaskSet) → is_sound set ≡ true → IsFeasible set (cycle_of set) → counterexample set (cycle_of set) ≡ None
none-from_sound set sound feasible =
    let positive : 0 < cycle_of set = omega (arith, cycle-positive set sound) in
    none-from_feasible set (cycle_of set) positive feasible

feasible_plan-from_none : (set : TaskSet) → counterexample set (cycle_of set) ≡ None → feasible_plan set ≡ Ok (planned set)
feasible_plan-from_none set none = rw none refl

-- so it passes the cycle test with the plan that is made of it
pub feasible_plan-from_feasible : (set : TaskSet) → is_sound set ≡ true → IsFeasible set (cycle_of set) → feasible_plan set ≡ Ok (planned set)
feasible_plan-from_feasible set sound feasible = feasible_plan-from_none set (none-from_sound set sound feasible)

-- the set of a plan passes the cycle test with that plan
pub feasible_plan-from_plan : (plan : PlanParts) (set : TaskSet) → plan.tasks ≡ set → IsPlan plan → feasible_plan set ≡ Ok plan
feasible_plan-from_plan plan set same is =
    let P : ℕ → Type 0 = IsFeasible plan.tasks in
    let passes = feasible_plan-from_feasible plan.tasks is.sound (subst P is.cycle is.feasible) in
    ap feasible_plan (sym same) ∙ passes ∙ ap Ok (sym (planned-from_plan plan is))
