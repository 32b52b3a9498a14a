-- What a run that is done has printed, and what holds of it.
use Rattle.std.specs.Prelude.{◌≡◌, ℕ, true, List, Option, Some, Ok}
use Rattle.std.specs.Io.KnownBytes.{Appends}
use Rattle.slot_core.specs.declared.events.Arrival.{Arrival}
use Rattle.slot_core.specs.Runs.Arrivals.{are_fitting}
use Rattle.slot_core.specs.Claims.Futures.{OffersAreExact}
use Rattle.slot_core.specs.Runs.Histories.{History}
use Rattle.slot_core.specs.Keeping.Plans.{PlanParts, IsPlan}
use Rattle.slot_core.specs.Claims.Service.{IsServed, IsOrdered}
use Rattle.slot_core.specs.Runs.Traces.{trace, history_of}
use Rattle.slot_io.specs.Files.{Held}
use Rattle.command_line.specs.declared.commands.Command.{Command}
use Rattle.command_line.specs.declared.commands.Output.TheVariants.{OfRun, Change}
use Rattle.command_line.specs.declared.commands.RunOutput.TheVariants.{Explanation}
use Rattle.command_line.specs.Commands.{command_of, slots_of}
use Rattle.command_line.specs.Writings.{whole_of}
use Rattle.run_steps.specs.Readings.{second_from}
use Rattle.slot_cli.specs.Changed.{IsGranted}
use Rattle.slot_cli.specs.Explained.{RowShowsWhy}
use Rattle.slot_cli.specs.Due.{arrivals_for, plan_of_run, writing_from}

-- the history that the trace of a command tells
abbrev pub told_by : Command → PlanParts → List Arrival → History
told_by command plan arrivals = history_of (trace plan.tasks arrivals (slots_of command))

-- the change of a command to its second plan is granted
abbrev pub IsChangedRun : Command → PlanParts → Option PlanParts → List Arrival → Type 0
IsChangedRun command plan second arrivals =
    (other : PlanParts) × (second ≡ Some other) × IsPlan other
    × IsGranted plan other (told_by command plan arrivals) (slots_of command)

-- a run that is done: its command, its plan and its arrivals, the text that it has written of them,
-- and what their trace keeps
pub record IsPrinted (words : List (List ℕ)) (held : Held) (before after : Option (List ℕ)) : Type 0
  where
    pub command : Command
    pub asked : command_of words ≡ Some command
    -- the plan that the files or the load call for
    pub plan : PlanParts
    pub planned : plan_of_run held words ≡ Ok plan
    pub is_plan : IsPlan plan
    -- the arrivals that they call for, which fit it
    pub arrivals : List Arrival
    pub gathered : arrivals_for held words command plan.tasks ≡ Ok arrivals
    pub fitting : are_fitting plan.tasks (slots_of command) arrivals ≡ true
    -- the second plan, if there is one
    pub second : Option PlanParts
    pub seconded : second_from held words command.second ≡ Ok second
    -- the text that is written: what the command tells of these plans and arrivals
    pub text : List ℕ
    pub tells : whole_of (writing_from command plan second arrivals) ≡ Ok text
    pub written : Appends before after text
    -- in their trace every admitted job is served, after its predecessors
    pub served : IsServed plan.tasks plan.cycle (told_by command plan arrivals)
    pub ordered : IsOrdered plan.tasks plan.cycle (told_by command plan arrivals)
    -- and each firm offer is answered exactly
    pub offers : OffersAreExact plan.tasks plan.cycle (told_by command plan arrivals)
    -- where a row is explained, what is shown against its offer adds up and refuses it
    pub explains :
        (row : ℕ) → command.output ≡ OfRun (Explanation row)
        → RowShowsWhy plan arrivals (slots_of command) row
    -- where the plan is changed, there is a second one, the change is granted, and the run after it
    -- serves the jobs that are carried over and those of the second plan
    pub changes : (n : ℕ) → command.output ≡ Change n → IsChangedRun command plan second arrivals
