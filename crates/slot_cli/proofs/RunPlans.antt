-- The plan of a run is a plan, and its arrivals fit.
use Rattle.std.proofs.Common.{◌≡◌, ℕ, true, List, Option, None, Some, Ok, Err, refl}
use Rattle.std.specs.Option.{option_map_or}
use Rattle.slot_core.specs.declared.events.Arrival.{Arrival}
use Rattle.slot_core.specs.Runs.Arrivals.{are_fitting}
use Rattle.slot_core.specs.Keeping.Plans.{PlanParts, IsPlan}
use Rattle.slot_io.specs.Files.{Held}
use Rattle.load_gen.specs.Loads.{load_set}
use Rattle.command_line.specs.declared.refusal.Refusal.TheVariants.{Usage}
use Rattle.command_line.specs.declared.commands.Arrivals.TheVariants.{Generated}
use Rattle.command_line.specs.declared.commands.Command.{Command}
use Rattle.command_line.specs.Commands.{command_of, slots_of}
use Rattle.command_line.proofs.CommandLemmas.{in_range-command}
use Rattle.run_steps.specs.Readings.{plan_from}
use Rattle.run_steps.proofs.GatheredArrivals.{fitting-from, set-of_load}
use Rattle.run_steps.proofs.SourcePlans.{IsPlan-from}
use Rattle.slot_cli.specs.Due.{arrivals_for, plan_of_run}

plan-of_command : (held : Held) (words : List (List ℕ)) (o : Option Command) (plan : PlanParts) → command_of words ≡ o → option_map_or (λ command. plan_from held words command.source) o (Err Usage) ≡ Ok plan → (command : Command) × (command_of words ≡ Some command) × (plan_from held words command.source ≡ Ok plan)
plan-of_command held words (Some command) plan writes is = (command, writes, is)
plan-of_command held words None plan writes is = cc

-- so the plan of a run is one
pub IsPlan-run : (held : Held) (words : List (List ℕ)) (plan : PlanParts) → plan_of_run held words ≡ Ok plan → IsPlan plan
IsPlan-run held words plan is =
    let (command, writes, from) = plan-of_command held words (command_of words) plan refl is in
    IsPlan-from held words command.source plan (in_range-command words command writes).source from

-- it comes from the source of the command
pub plan-from_run : (held : Held) (words : List (List ℕ)) (command : Command) (plan : PlanParts) → command_of words ≡ Some command → plan_of_run held words ≡ Ok plan → plan_from held words command.source ≡ Ok plan
plan-from_run held words command plan writes is = rw writes at is

-- the plan of a run is one, and its arrivals fit
pub fitting-run : (held : Held) (words : List (List ℕ)) (command : Command) (plan : PlanParts) (arrivals : List Arrival) → command_of words ≡ Some command → plan_of_run held words ≡ Ok plan → arrivals_for held words command plan.tasks ≡ Ok arrivals → IsPlan plan × (are_fitting plan.tasks (slots_of command) arrivals ≡ true)
fitting-run held words command plan arrivals writes is gathered = (
  IsPlan-run held words plan is,
  let from = plan-from_run held words command plan writes is in
      let load : (n : ℕ) → command.arrivals ≡ Generated n → load_set n ≡ plan.tasks = λ n same. set-of_load held words command.source plan n ((in_range-command words command writes).load n same) from in
      fitting-from held words command.arrivals plan.tasks arrivals load gathered,
)
