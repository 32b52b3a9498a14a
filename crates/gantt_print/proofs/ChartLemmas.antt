-- The rows of the chart of a task set, and its text.
use Rattle.std.proofs.Common.{◌≡◌, ℕ, zero, suc, ◌+◌, ◌<◌, true, List, [], ◌∷◌, ◌++◌, length, map, fold, max, Some, codes, refl, sym, ap, ap₂, subst, ◌∙◌, inl, inr, append_assoc, arith}
use Rattle.std.specs.Prelude.{flat_map, replicate, slice_get, nat_lt}
use Rattle.std.specs.List.{list_all, enumerate_from, range_with_len}
use Rattle.std.specs.Option.{option_map_or}
use Rattle.std.proofs.lemmas.Bool.{lt-ltb, and_from}
use Rattle.std.proofs.lemmas.List.{length-replicate}
use Rattle.std.proofs.lemmas.List.Elements.{All-map, All-weaker}
use Rattle.slot_core.specs.declared.jobs.Key.{Key}
use Rattle.slot_core.specs.declared.tasks.Task.{Task}
use Rattle.slot_core.specs.declared.tasks.Graph.{Graph}
use Rattle.slot_core.specs.declared.tasks.Sporadic.{Sporadic}
use Rattle.slot_core.specs.declared.tasks.TaskSet.{TaskSet}
use Rattle.slot_core.specs.Offline.OfflineJobs.{tasks_of}
use Rattle.slot_core.specs.Output.Texts.{worded}
use Rattle.slot_core.specs.Output.Charts.{ChartRow, task_row, sporadic_row, firm_row, soft_row, chart_line, chart_of, chart_rows, graph_rows, label_width, mark_at, row_label}
use Rattle.slot_facts.proofs.Lists.Members.{Has, Has-append_cases, Has-enumerate_from_at, Has-flat_map_cases, Has-map_cases}
use Rattle.slot_facts.proofs.Lists.Tests.{list_all-from_Has}
use Rattle.gantt_print.specs.Drawings.{Drawing, IsChartOf, MarkedRow, HasMarks, drawing_text, drawing_with, empty_chart, marks_with, row_line, rows_text, rows_width, unmarked, with_runs}
use Rattle.gantt_print.specs.Rows.{is_row_of}
use Rattle.gantt_print.proofs.MarkLemmas.{length-marks_with}
use Rattle.std.proofs.lemmas.Option.{slice_get_within}

-- a place of a list is below its length
below : {X : Type 0} (xs : List X) (k : ℕ) (x : X) → slice_get xs k ≡ Some x → nat_lt k (length xs) ≡ true
below xs k x at = lt-ltb k (length xs) (slice_get_within xs k x at)

-- each row of the chart of a set is of the set
task_row-named : (set : TaskSet) (g : ℕ) (graph : Graph) (row : ChartRow) → slice_get set.graphs g ≡ Some graph → Has (graph_rows (g, graph)) row → is_row_of set row ≡ true
task_row-named set g graph row at h =
    let r = Has-map_cases (λ (t : ℕ × Task). task_row g t.0) (enumerate_from 0 graph.tasks) row h in
    let t : ℕ × Task = r.0 in
    let place = Has-enumerate_from_at 0 graph.tasks t.0 t.1 r.1 in
    let same : place.0 ≡ t.0 = omega (arith, place.1) in
    let tasks : tasks_of set g ≡ graph.tasks = ap (λ o. option_map_or (λ (x : Graph). x.tasks) o []) at in
    let task : nat_lt t.0 (length (tasks_of set g)) ≡ true = ap₂ (λ k (ts : List Task). nat_lt k (length ts)) (sym same) tasks ∙ below graph.tasks place.0 t.1 place.2 in
    sym (ap (is_row_of set) r.2) ∙ and_from _ _ (below set.graphs g graph at) task

sporadic_row-named : (set : TaskSet) (row : ChartRow) → Has (map (λ (s : ℕ × Sporadic). sporadic_row s.0) (enumerate_from 0 set.sporadics)) row → is_row_of set row ≡ true
sporadic_row-named set row h =
    let r = Has-map_cases (λ (s : ℕ × Sporadic). sporadic_row s.0) (enumerate_from 0 set.sporadics) row h in
    let s : ℕ × Sporadic = r.0 in
    let place = Has-enumerate_from_at 0 set.sporadics s.0 s.1 r.1 in
    let same : place.0 ≡ s.0 = omega (arith, place.1) in
    sym (ap (is_row_of set) r.2) ∙ ap (λ k. nat_lt k (length set.sporadics)) (sym same) ∙ below set.sporadics place.0 s.1 place.2

last-named : (set : TaskSet) (row : ChartRow) → Has (firm_row ∷ soft_row ∷ []) row → is_row_of set row ≡ true
last-named set row (inl e) = sym (ap (is_row_of set) e)
last-named set row (inr (inl e)) = sym (ap (is_row_of set) e)
last-named set row (inr (inr e)) = absurd e

row-named : (set : TaskSet) (row : ChartRow) → Has (chart_rows set) row → is_row_of set row ≡ true
row-named set row h =
    let tasks = flat_map graph_rows (enumerate_from 0 set.graphs) in
    let sporadics = map (λ (s : ℕ × Sporadic). sporadic_row s.0) (enumerate_from 0 set.sporadics) in
    elim (Has-append_cases (tasks ++ sporadics) (firm_row ∷ soft_row ∷ []) row h) [
      | inl front ↦ elim (Has-append_cases tasks sporadics row front) [
        | inl a ↦
            let r = Has-flat_map_cases graph_rows (enumerate_from 0 set.graphs) row a in
            let g : ℕ × Graph = r.0 in
            let place = Has-enumerate_from_at 0 set.graphs g.0 g.1 r.1 in
            let same : place.0 ≡ g.0 = omega (arith, place.1) in
            task_row-named set g.0 g.1 row (ap (slice_get set.graphs) (sym same) ∙ place.2) r.2
        | inr b ↦ sporadic_row-named set row b
      ]
      | inr last ↦ last-named set row last
    ]

pub chart_rows-named : (set : TaskSet) → list_all (is_row_of set) (chart_rows set) ≡ true
chart_rows-named set = list_all-from_Has (is_row_of set) (chart_rows set) (row-named set)

-- the rows of a chart keep their number of marks
pub HasMarks-unmarked : (n : ℕ) (rows : List ChartRow) → HasMarks n (map (unmarked n) rows)
HasMarks-unmarked n rows =
    All-map (λ (r : MarkedRow). length r.marks ≡ n) (unmarked n) rows (λ k d low. length-replicate n 46)

pub HasMarks-with_runs : (n : ℕ) (runs : List (ℕ × Key)) (rows : List MarkedRow) → HasMarks n rows → HasMarks n (map (with_runs runs) rows)
HasMarks-with_runs n runs rows all =
    All-map (λ (r : MarkedRow). length r.marks ≡ n) (with_runs runs) rows (
    All-weaker (λ (r : MarkedRow). length r.marks ≡ n) (λ (r : MarkedRow). length (with_runs runs r).marks ≡ n)
    (λ r e. length-marks_with runs r.row 0 r.marks ∙ e)
    rows all)

-- a chart that was made for a set has its rows, whatever runs it took
rows-with_runs : (runs : List (ℕ × Key)) (rows : List MarkedRow) → map (λ (r : MarkedRow). r.row) (map (with_runs runs) rows) ≡ map (λ (r : MarkedRow). r.row) rows
rows-with_runs runs [] = refl
rows-with_runs runs (r ∷ rows) = ap (λ rs. r.row ∷ rs) (rows-with_runs runs rows)

pub IsChartOf-with : (set : TaskSet) (drawing : Drawing) (runs : List (ℕ × Key)) → IsChartOf set drawing → IsChartOf set (drawing_with runs drawing)
IsChartOf-with set drawing runs is = rows-with_runs runs drawing.rows ∙ is

rows-unmarked : (n : ℕ) (rows : List ChartRow) → map (λ (r : MarkedRow). r.row) (map (unmarked n) rows) ≡ rows
rows-unmarked n [] = refl
rows-unmarked n (row ∷ rows) = ap (λ rs. row ∷ rs) (rows-unmarked n rows)

pub IsChartOf-empty : (set : TaskSet) (n : ℕ) → IsChartOf set (empty_chart set n)
IsChartOf-empty set n = rows-unmarked n (chart_rows set)

pub IsChartOf-taken : (set : TaskSet) (n : ℕ) (runs : List (ℕ × Key)) (drawing : Drawing) → drawing ≡ drawing_with runs (empty_chart set n) → IsChartOf set drawing
IsChartOf-taken set n runs drawing is =
    subst (IsChartOf set) (sym is) (IsChartOf-with set (empty_chart set n) runs (IsChartOf-empty set n))

-- the marks of runs over slots with no mark
marks_with-range : (runs : List (ℕ × Key)) (row : ChartRow) (u n : ℕ) → marks_with runs row u (replicate n 46) ≡ map (mark_at runs row) (range_with_len u n)
marks_with-range runs row u zero = refl
marks_with-range runs row u (suc n) = ap (λ ms. mark_at runs row u ∷ ms) (marks_with-range runs row (u + 1) n)

lines-of_runs : (set : TaskSet) (n : ℕ) (runs : List (ℕ × Key)) (rows : List ChartRow) → flat_map (row_line set (label_width set)) (map (with_runs runs) (map (unmarked n) rows)) ≡ flat_map (chart_line set n runs) rows
lines-of_runs set n runs [] = refl
lines-of_runs set n runs (row ∷ rows) =
    ap₂ (λ (xs ys : List ℕ). xs ++ ys)
    (ap (λ marks. row_line set (label_width set) (record { row = row; marks = marks })) (marks_with-range runs row 0 n))
    (lines-of_runs set n runs rows)

widths-of_runs : (set : TaskSet) (n : ℕ) (runs : List (ℕ × Key)) (rows : List ChartRow) → map (λ (r : MarkedRow). length (row_label set r.row)) (map (with_runs runs) (map (unmarked n) rows)) ≡ map (λ row. length (row_label set row)) rows
widths-of_runs set n runs [] = refl
widths-of_runs set n runs (row ∷ rows) = ap (λ ns. length (row_label set row) ∷ ns) (widths-of_runs set n runs rows)

-- the text of a chart of the set that took these runs is the chart of the runs
pub drawing_text-runs : (set : TaskSet) (n : ℕ) (runs : List (ℕ × Key)) → drawing_text set (drawing_with runs (empty_chart set n)) ≡ chart_of set n runs
drawing_text-runs set n runs =
    let rows = map (with_runs runs) (map (unmarked n) (chart_rows set)) in
    let width : rows_width set rows ≡ label_width set = ap (fold max 0) (widths-of_runs set n runs (chart_rows set)) in
    append_assoc (worded (codes "gantt") n) (10 ∷ []) (rows_text set rows)
    ∙ ap (λ xs. worded (codes "gantt") n ++ 10 ∷ xs) (ap (λ w. flat_map (row_line set w) rows) width ∙ lines-of_runs set n runs (chart_rows set))
