-- The texts of faults.
use Rattle.std.specs.Prelude.{ℕ, List, codes}
use Rattle.slot_core.specs.Output.FaultTexts.{infeasible_text}
use Rattle.cycle_plan.specs.declared.plan.PlanFault.{PlanFault}
use Rattle.cycle_plan.specs.declared.plan.PlanFault.TheVariants.{Memory, Infeasible}

-- why a set has no plan
abbrev pub plan_fault_text : PlanFault → List ℕ
plan_fault_text Memory = codes "out of memory"
plan_fault_text (Infeasible window) = infeasible_text window
