-- What is written of the run of an executive.
use Rattle.std.specs.Prelude.{ℕ, ◌≤◌, List, length, ⊤}
use Rattle.slot_core.specs.declared.events.Arrival.{Arrival}
use Rattle.slot_core.specs.Keeping.Plans.{PlanParts}
use Rattle.slot_core.specs.Output.Charts.{chart_text, tally_text}
use Rattle.slot_core.specs.Output.Texts.{trace_text}
use Rattle.slot_core.specs.Runs.Traces.{trace}
use Rattle.command_line.specs.Writings.{Writing, in_whole}
use Rattle.command_line.specs.declared.commands.RunOutput.{RunOutput}
use Rattle.command_line.specs.declared.commands.RunOutput.TheVariants.{Trace, Chart, Tally, Explanation}
use Rattle.slot_cli.specs.Explained.{explained}

-- what is written of the run of a plan with these arrivals over so many slots
abbrev pub run_writing : RunOutput → ℕ → PlanParts → List Arrival → Writing
run_writing Trace slots plan arrivals =
    in_whole (trace_text plan.tasks (trace plan.tasks arrivals slots))
run_writing Chart slots plan arrivals =
    in_whole (chart_text plan.tasks slots (trace plan.tasks arrivals slots))
run_writing (Tally n) slots plan arrivals =
    in_whole (tally_text n slots (trace plan.tasks arrivals slots))
run_writing (Explanation row) slots plan arrivals = explained plan arrivals slots row

-- the arrivals have the row that is told
abbrev pub HasRow : RunOutput → List Arrival → Type 0
HasRow (Explanation row) arrivals = row ≤ length arrivals
HasRow _ arrivals = ⊤
