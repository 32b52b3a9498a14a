-- The table of the figures of a trace.
use Rattle.std.specs.Prelude.{ℕ, List, ◌∷◌, map}
use Rattle.csv_table.specs.Tables.{rows_text}
use Rattle.slot_core.specs.declared.tasks.TaskSet.{TaskSet}
use Rattle.slot_core.specs.Keeping.Plans.{PlanParts}
use Rattle.trace_lines.specs.declared.line.TraceLine.{TraceLine}
use Rattle.trace_lines.specs.Traces.{time_of_last}
use Rattle.view_stats.specs.declared.groups.Group.{Group}
use Rattle.view_stats.specs.declared.outcomes.Outcome.{Outcome}
use Rattle.view_stats.specs.Figures.{figures_of}
use Rattle.view_stats.specs.Groups.{groups_of, outcomes_in}
use Rattle.view_stats.specs.Outcomes.{outcomes_of}
use Rattle.view_stats.specs.StatRows.{stat_names, stat_row}

-- the row of a group, of the figures of its jobs
abbrev pub group_row : TaskSet → ℕ → List Outcome → Group → List (List ℕ)
group_row set slots outcomes group =
    stat_row set group (figures_of slots (outcomes_in group outcomes))

-- the text of a table of these outcomes: the header, and a row for each group
abbrev pub groups_text : TaskSet → ℕ → List Outcome → List ℕ
groups_text set slots outcomes =
    rows_text (stat_names ∷ map (group_row set slots outcomes) (groups_of set))

-- the text of the table of the figures of a trace over a plan
abbrev pub stats_text : PlanParts → List TraceLine → List ℕ
stats_text plan lines = groups_text plan.tasks (time_of_last lines) (outcomes_of plan lines)
