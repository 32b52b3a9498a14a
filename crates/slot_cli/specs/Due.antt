-- What is due of a run, where the files tell what they hold.
use Rattle.std.specs.Prelude.{◌≡◌, ℕ, ◌%◌, List, [], Option, None, Some, Ok, Err, ⊤}
use Rattle.std.specs.Option.{option_map_or}
use Rattle.slot_core.specs.Calls.Results.{◌>>=◌}
use Rattle.slot_core.specs.declared.events.Arrival.{Arrival}
use Rattle.slot_core.specs.declared.tasks.TaskSet.{TaskSet}
use Rattle.slot_core.specs.Keeping.Plans.{PlanParts}
use Rattle.slot_io.specs.Files.{Held}
use Rattle.command_line.specs.declared.refusal.Refusal.TheVariants.{Usage}
use Rattle.command_line.specs.Refusals.{Outcome}
use Rattle.command_line.specs.Writings.{Writing, in_whole, whole_of}
use Rattle.command_line.specs.declared.commands.Command.{Command}
use Rattle.command_line.specs.declared.commands.Output.{Output}
use Rattle.command_line.specs.declared.commands.Output.TheVariants.{OfPlan, OfRun, Change}
use Rattle.command_line.specs.Commands.{command_of, slots_of}
use Rattle.plan_reports.specs.Texts.{plan_text}
use Rattle.slot_cli.specs.RunTexts.{run_writing, HasRow}
use Rattle.run_steps.specs.Readings.{plan_from, second_from, arrivals_from, check_from}
use Rattle.slot_cli.specs.Changed.{changed}

-- the arrivals of a command
abbrev pub arrivals_for : Held → List (List ℕ) → Command → TaskSet → Outcome (List Arrival)
arrivals_for held words command set = arrivals_from held words command.arrivals set

-- what is asked of them
abbrev pub check_for : Held → List (List ℕ) → Command → PlanParts → List Arrival → Outcome ⊤
check_for held words command plan arrivals =
    check_from held words command.check (slots_of command) plan arrivals

-- what an output writes, of a plan, a second one and arrivals over so many slots
abbrev pub output_due : Output → ℕ → PlanParts → Option PlanParts → List Arrival → Writing
output_due (OfPlan output) slots plan second arrivals =
    in_whole (plan_text output slots plan arrivals)
output_due (OfRun output) slots plan second arrivals = run_writing output slots plan arrivals
output_due (Change n) slots plan second arrivals =
    option_map_or (λ other. changed plan other arrivals slots n) second (in_whole [])

-- what is asked of the arrivals before an output is written of them
abbrev pub MayBeWritten : Output → ℕ → PlanParts → List Arrival → Type 0
MayBeWritten (OfPlan output) slots plan arrivals = ⊤
MayBeWritten (OfRun output) slots plan arrivals = HasRow output arrivals
MayBeWritten (Change n) slots plan arrivals = slots % plan.cycle ≡ 0

-- what a command writes of them
abbrev pub writing_from : Command → PlanParts → Option PlanParts → List Arrival → Writing
writing_from command plan second arrivals =
    output_due command.output (slots_of command) plan second arrivals

-- what a command writes, or the refusal that ends the run before it
abbrev pub writing_of : Held → List (List ℕ) → Command → Outcome Writing
writing_of held words command = do
  plan ← plan_from held words command.source
  second ← second_from held words command.second
  arrivals ← arrivals_for held words command plan.tasks
  checked ← check_for held words command plan arrivals
  Ok (writing_from command plan second arrivals)

-- the same of the words' command, if they write one
abbrev pub writing_for : Held → List (List ℕ) → Option Command → Outcome Writing
writing_for held words command = option_map_or (writing_of held words) command (Err Usage)

abbrev pub writing_due : Held → List (List ℕ) → Outcome Writing
writing_due held words = writing_for held words (command_of words)

-- the whole text that a command is due, or the refusal before it or in it
abbrev pub due_of : Held → List (List ℕ) → Option Command → Outcome (List ℕ)
due_of held words command = do
  writing ← writing_for held words command
  whole_of writing

-- what the words call for: the text that they are due, or the refusal
abbrev pub expected : Held → List (List ℕ) → Outcome (List ℕ)
expected held words = due_of held words (command_of words)

-- the plan of a run
abbrev pub plan_of_run : Held → List (List ℕ) → Outcome PlanParts
plan_of_run held words =
    option_map_or
    (λ command. plan_from held words command.source)
    (command_of words)
    (Err Usage)
