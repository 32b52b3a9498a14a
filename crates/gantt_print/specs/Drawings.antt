-- What contracts see of a chart: its rows with their marks, and its text.
use Rattle.std.specs.Prelude.{◌≡◌, ℕ, ◌+◌, ◌-◌, Bool, ◌&&◌, ◌==◌, List, [], ◌∷◌, ◌++◌, codes, length, map, flat_map, All, fold, max, replicate, if◌then◌else◌}
use Rattle.std.specs.List.{list_any}
use Rattle.slot_core.specs.declared.jobs.Key.{Key}
use Rattle.slot_core.specs.declared.tasks.TaskSet.{TaskSet}
use Rattle.slot_core.specs.Output.Charts.{ChartRow, chart_rows, is_in_row, row_label}
use Rattle.slot_core.specs.Output.Texts.{worded}

-- a row with its marks, one a slot
pub record MarkedRow : Type 0 where
  pub row : ChartRow
  pub marks : List ℕ

-- a chart of so many slots, with its rows
pub record Drawing : Type 0 where
  pub slots : ℕ
  pub rows : List MarkedRow

-- each of the rows has n marks
abbrev pub HasMarks : ℕ → List MarkedRow → Type 0
HasMarks n rows = All (λ (r : MarkedRow). length r.marks ≡ n) rows

-- the row over n slots in which no job of it ran
abbrev pub unmarked : ℕ → ChartRow → MarkedRow
unmarked n row = record { row = row; marks = replicate n 46 }

-- the chart of a task set over n slots, with no run
abbrev pub empty_chart : TaskSet → ℕ → Drawing
empty_chart set n = record { slots = n; rows = map (unmarked n) (chart_rows set) }

-- the chart has the rows of this task set
abbrev pub IsChartOf : TaskSet → Drawing → Type 0
IsChartOf set drawing = map (λ (r : MarkedRow). r.row) drawing.rows ≡ chart_rows set

-- one of the runs is at time u, of a job of the row
abbrev pub has_run : List (ℕ × Key) → ChartRow → ℕ → Bool
has_run runs row u = list_any (λ (r : ℕ × Key). r.0 == u && is_in_row row r.1) runs

-- marks from slot u on, and # where one of the runs is in the row
abbrev pub marks_with : List (ℕ × Key) → ChartRow → ℕ → List ℕ → List ℕ
marks_with runs row u [] = []
marks_with runs row u (mark ∷ marks) =
    (if has_run runs row u then 35 else mark) ∷ marks_with runs row (u + 1) marks

-- a row with the marks that it has, and one for each of the runs in its slots
abbrev pub with_runs : List (ℕ × Key) → MarkedRow → MarkedRow
with_runs runs r = record r { marks = marks_with runs r.row 0 r.marks }

-- a chart with marks for these runs, each in its row
abbrev pub drawing_with : List (ℕ × Key) → Drawing → Drawing
drawing_with runs drawing = record drawing { rows = map (with_runs runs) drawing.rows }

-- the line of a row: its label in this width, a space, and its marks
abbrev pub row_line : TaskSet → ℕ → MarkedRow → List ℕ
row_line set width r =
    let label = row_label set r.row in
    label ++ replicate (width - length label) 32 ++ 32 ∷ r.marks ++ 10 ∷ []

-- the first line
abbrev pub head_line : ℕ → List ℕ
head_line n = worded (codes "gantt") n ++ 10 ∷ []

-- the length of the longest label of these rows
abbrev pub rows_width : TaskSet → List MarkedRow → ℕ
rows_width set rows =
    fold max 0 (map (λ (r : MarkedRow). length (row_label set r.row)) rows)

-- their lines in this width
abbrev pub rows_text : TaskSet → List MarkedRow → List ℕ
rows_text set rows = flat_map (row_line set (rows_width set rows)) rows

-- the text of a chart, with the labels that this task set gives
abbrev pub drawing_text : TaskSet → Drawing → List ℕ
drawing_text set drawing = head_line drawing.slots ++ rows_text set drawing.rows
