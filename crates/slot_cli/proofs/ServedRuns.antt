-- The plan of a run is sound and feasible, so that every trace of it is served.
use Rattle.std.proofs.Common.{◌≡◌, ℕ, true, List, length, Ok, sym, subst}
use Rattle.std.proofs.Math.Seq.{take-length}
use Rattle.slot_core.specs.declared.events.Arrival.{Arrival}
use Rattle.slot_core.specs.Runs.Arrivals.{are_fitting}
use Rattle.slot_core.specs.Sets.Cycles.{cycle_of}
use Rattle.slot_core.specs.Feasibility.Feasible.{IsFeasible}
use Rattle.slot_core.specs.Claims.Futures.{CyclesCanBeServed, OffersAreExact}
use Rattle.slot_core.specs.Keeping.Plans.{PlanParts, IsPlan}
use Rattle.slot_core.specs.Claims.Service.{IsServed, IsOrdered}
use Rattle.slot_core.specs.Runs.Traces.{trace, history_of, IsLegal}
use Rattle.slot_io.specs.Files.{Held}
use Rattle.slot_facts.proofs.Legal.Served.{every_trace_is_served}
use Rattle.slot_facts.proofs.Legal.Traces.{every_trace_is_legal}
use Rattle.slot_facts.proofs.Offers.Exact.{offers_are_always_exact}
use Rattle.slot_facts.proofs.Offers.Verdicts.{feasible_sets_can_be_served_for_ever}
use Rattle.slot_cli.specs.Changed.{history_to, IsChangeExact}
use Rattle.slot_cli.specs.Due.{plan_of_run}
use Rattle.slot_cli.proofs.ChangedRuns.{change-exact_after}
use Rattle.slot_cli.proofs.RunPlans.{IsPlan-run}

-- any number of cycles of the plan's set can be served
pub cycles-run : (held : Held) (words : List (List ℕ)) (plan : PlanParts) → plan_of_run held words ≡ Ok plan → (cycles : ℕ) → CyclesCanBeServed plan.tasks cycles
cycles-run held words plan is cycles =
    let is_plan = IsPlan-run held words plan is in
    feasible_sets_can_be_served_for_ever plan.tasks cycles is_plan.sound (subst (IsFeasible plan.tasks) is_plan.cycle is_plan.feasible)

-- in every trace of the plan with arrivals that fit, each firm offer is answered exactly
pub offers-run : (held : Held) (words : List (List ℕ)) (plan : PlanParts) (slots : ℕ) (arrivals : List Arrival) → plan_of_run held words ≡ Ok plan → are_fitting plan.tasks slots arrivals ≡ true → OffersAreExact plan.tasks plan.cycle (history_of (trace plan.tasks arrivals slots))
offers-run held words plan slots arrivals is fits =
    let set = plan.tasks in
    let is_plan = IsPlan-run held words plan is in
    let told = trace set arrivals slots in
    let cycle = is_plan.cycle in
    let legal = every_trace_is_legal set arrivals slots (length told) fits in
    let exact = offers_are_always_exact set (history_of told) is_plan.sound (subst (IsFeasible set) cycle is_plan.feasible) (subst (λ es. IsLegal set (cycle_of set) (history_of es)) (take-length told) legal) in
    let P : ℕ → Type 0 = λ n. OffersAreExact set n (history_of told) in
    subst P (sym cycle) exact

-- every trace of the plan with arrivals that fit is served and ordered
pub served-run : (held : Held) (words : List (List ℕ)) (plan : PlanParts) (slots : ℕ) (arrivals : List Arrival) → plan_of_run held words ≡ Ok plan → are_fitting plan.tasks slots arrivals ≡ true → IsServed plan.tasks plan.cycle (history_of (trace plan.tasks arrivals slots)) × IsOrdered plan.tasks plan.cycle (history_of (trace plan.tasks arrivals slots))
served-run held words plan slots arrivals is fits =
    let set = plan.tasks in
    let is_plan = IsPlan-run held words plan is in
    let cycle = is_plan.cycle in
    let P : ℕ → Type 0 = λ n. IsServed set n (history_of (trace set arrivals slots)) × IsOrdered set n (history_of (trace set arrivals slots)) in
    subst P (sym cycle) (every_trace_is_served set arrivals slots is_plan.sound (subst (IsFeasible set) cycle is_plan.feasible) fits)

-- a change from the plan of a run to another is answered exactly
pub changes-run : (held : Held) (words : List (List ℕ)) (plan second : PlanParts) (slots : ℕ) (arrivals : List Arrival) → plan_of_run held words ≡ Ok plan → IsPlan second → are_fitting plan.tasks slots arrivals ≡ true → IsChangeExact plan second (history_to plan arrivals slots) slots
changes-run held words plan second slots arrivals is is_second fits =
    change-exact_after plan second arrivals slots (IsPlan-run held words plan is) is_second fits
