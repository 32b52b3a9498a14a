-- The text of the margins of a set.
use Rattle.std.specs.Prelude.{ℕ, List, [], ◌∷◌, ◌++◌, codes, flat_map}
use Rattle.std.specs.Option.{option_map_or}
use Rattle.slot_core.specs.declared.faults.Part.{Part}
use Rattle.slot_core.specs.declared.faults.Part.TheVariants.{Task as TaskPart, Sporadic as SporadicPart}
use Rattle.slot_core.specs.declared.tasks.TaskSet.{TaskSet}
use Rattle.slot_core.specs.Output.Charts.{ChartRow, task_row, sporadic_row, firm_row, row_label}
use Rattle.slot_core.specs.Output.Texts.{worded}
use Rattle.margin_find.specs.declared.margin.TaskMargin.{TaskMargin}
use Rattle.margin_find.specs.Margins.{margin_of, parts_of}

-- the row of a chart that is labelled by the task
abbrev pub row_at : Part → ChartRow
row_at (TaskPart graph task) = task_row graph task
row_at (SporadicPart index) = sporadic_row index
row_at _ = firm_row

-- the label of the task as in a chart, its margin, and the bounds and the demand of the window
abbrev pub margin_line : TaskSet → TaskMargin → List ℕ
margin_line set m =
    let window = m.margin.window in
    let growth = worded (codes "margin " ++ row_label set (row_at m.at)) m.margin.growth in
    worded (worded (worded growth window.from) window.until) window.demand ++ 10 ∷ []

-- a line for each margin
abbrev pub margin_lines : TaskSet → List TaskMargin → List ℕ
margin_lines set found = flat_map (margin_line set) found

-- the text of the margins of a set: a line for each task, and then for each sporadic task
abbrev pub margin_text : TaskSet → List ℕ
margin_text set =
    flat_map (λ part. option_map_or (margin_line set) (margin_of set part) []) (parts_of set)
