-- The plan of a set is the one that a table is compared with.
use Rattle.std.proofs.Common.{◌≡◌, ◌<◌, Ok, ap, sym, subst, arith}
use Rattle.slot_core.specs.Sets.Cycles.{cycle_of}
use Rattle.slot_core.specs.Feasibility.Feasible.{IsFeasible}
use Rattle.slot_core.specs.Keeping.Plans.{PlanParts, IsPlan}
use Rattle.slot_facts.proofs.Demand.Feasible.{none-from_feasible}
use Rattle.slot_facts.proofs.Offline.Jobs.{cycle-positive}
use Rattle.slot_facts.proofs.Plans.Planned.{planned-from_plan}
use Rattle.table_codec.specs.Grammar.{plan_of}

-- the set of a plan has that plan
pub plan_of-plan : (plan : PlanParts) → IsPlan plan → plan_of plan.tasks ≡ Ok plan
plan_of-plan plan is_plan =
    let set = plan.tasks in
    let positive : 0 < cycle_of set = omega (arith, cycle-positive set is_plan.sound) in
    let none = none-from_feasible set (cycle_of set) positive (subst (IsFeasible set) is_plan.cycle is_plan.feasible) in
    rw none (ap (λ (p : PlanParts). Ok p) (sym (planned-from_plan plan is_plan)))
