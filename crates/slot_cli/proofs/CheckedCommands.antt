-- What is asked of the arrivals holds where they are written.
use Rattle.std.proofs.Common.{◌≡◌, ℕ, List, refl, subst}
use Rattle.std.specs.Prelude.{⊤}
use Rattle.slot_core.specs.declared.events.Arrival.{Arrival}
use Rattle.slot_core.specs.Keeping.Plans.{PlanParts}
use Rattle.command_line.specs.declared.commands.Check.{Check}
use Rattle.command_line.specs.declared.commands.Check.TheVariants.{HasRow, AtCycleEnd}
use Rattle.command_line.specs.declared.commands.Command.{Command}
use Rattle.command_line.specs.declared.commands.Output.{Output}
use Rattle.command_line.specs.declared.commands.Output.TheVariants.{OfPlan, OfRun, Change}
use Rattle.command_line.specs.declared.commands.RunOutput.TheVariants.{Trace, Chart, Tally, Explanation}
use Rattle.command_line.specs.Commands.{slots_of, IsInRange}
use Rattle.run_steps.specs.Steps.{IsChecked}
use Rattle.slot_cli.specs.Due.{MayBeWritten}

may_be_written : (output : Output) (check : Check) (slots : ℕ) (plan : PlanParts) (arrivals : List Arrival) → ((row : ℕ) → output ≡ OfRun (Explanation row) → check ≡ HasRow row) → ((n : ℕ) → output ≡ Change n → check ≡ AtCycleEnd) → IsChecked check slots plan arrivals → MayBeWritten output slots plan arrivals
may_be_written (OfPlan output) check slots plan arrivals row turn checked = tt
may_be_written (OfRun Trace) check slots plan arrivals row turn checked = tt
may_be_written (OfRun Chart) check slots plan arrivals row turn checked = tt
may_be_written (OfRun (Tally n)) check slots plan arrivals row turn checked = tt
may_be_written (OfRun (Explanation r)) check slots plan arrivals row turn checked =
    subst (λ (c : Check). IsChecked c slots plan arrivals) (row r refl) checked
may_be_written (Change n) check slots plan arrivals row turn checked =
    subst (λ (c : Check). IsChecked c slots plan arrivals) (turn n refl) checked

-- so it is for a command
pub may_be_written-checked : (command : Command) (plan : PlanParts) (arrivals : List Arrival) → IsInRange command → IsChecked command.check (slots_of command) plan arrivals → MayBeWritten command.output (slots_of command) plan arrivals
may_be_written-checked command plan arrivals within checked =
    may_be_written command.output command.check (slots_of command) plan arrivals within.explained (λ n is. (within.changed n is).0) checked
