-- The chart of a trace, and the tally of its entries.
use Rattle.std.specs.Prelude.{ℕ, ◌-◌, Bool, true, false, ◌&&◌, ◌==◌, List, [], ◌∷◌, ◌++◌, codes, length, map, flat_map, fold, max, replicate, count_by, if◌then◌else◌}
use Rattle.std.specs.List.{list_any, enumerate_from, range_with_len}
use Rattle.slot_core.specs.declared.jobs.Key.{Key}
use Rattle.slot_core.specs.declared.jobs.Key.TheVariants.{Offline, Sporadic as SporadicKey, Firm as FirmKey, Soft as SoftKey}
use Rattle.slot_core.specs.declared.tasks.Task.{Task}
use Rattle.slot_core.specs.declared.tasks.Graph.{Graph}
use Rattle.slot_core.specs.declared.tasks.Sporadic.{Sporadic}
use Rattle.slot_core.specs.declared.tasks.TaskSet.{TaskSet}
use Rattle.slot_core.specs.declared.events.Entry.{Entry}
use Rattle.slot_core.specs.declared.events.What.{What}
use Rattle.slot_core.specs.declared.events.What.TheVariants.{Soft, Firm, Sporadic as SporadicEntry, Run, Idle}
use Rattle.slot_core.specs.declared.events.Soft.TheVariants.{Taken as SoftTaken, Full}
use Rattle.slot_core.specs.declared.events.Firm.TheVariants.{Accepted, Late, Far, NoRoom}
use Rattle.slot_core.specs.declared.events.Spo.TheVariants.{Taken as SporadicTaken, Soon}
use Rattle.slot_core.specs.Output.Texts.{worded, graph_name, task_name, sporadic_name}

-- a row of a chart: a task of a graph, a sporadic task, all firm jobs, or all soft ones
pub data ChartRow : Type 0 where
  task_row : ℕ → ℕ → ChartRow
  sporadic_row : ℕ → ChartRow
  firm_row : ChartRow
  soft_row : ChartRow

-- a job of this key is drawn in the row
abbrev pub is_in_row : ChartRow → Key → Bool
is_in_row (task_row g t) (Offline graph task instance) = g == graph && t == task
is_in_row (sporadic_row s) (SporadicKey index row) = s == index
is_in_row firm_row (FirmKey row) = true
is_in_row soft_row (SoftKey row) = true
is_in_row _ _ = false

-- the rows of a graph: its tasks in the order of the file
abbrev pub graph_rows : ℕ × Graph → List ChartRow
graph_rows (g, graph) = map (λ (t : ℕ × Task). task_row g t.0) (enumerate_from 0 graph.tasks)

-- the rows of a chart: the tasks of each graph and the sporadic tasks in the order of the file,
-- then firm and soft jobs
abbrev pub chart_rows : TaskSet → List ChartRow
chart_rows set =
    flat_map graph_rows (enumerate_from 0 set.graphs)
    ++ map (λ (s : ℕ × Sporadic). sporadic_row s.0) (enumerate_from 0 set.sporadics)
    ++ firm_row ∷ soft_row ∷ []

-- graph.task, the name of the sporadic task, firm, soft
abbrev pub row_label : TaskSet → ChartRow → List ℕ
row_label set (task_row g t) = graph_name set g ++ codes "." ++ task_name set g t
row_label set (sporadic_row s) = sporadic_name set s
row_label set firm_row = codes "firm"
row_label set soft_row = codes "soft"

-- the length of the longest label
abbrev pub label_width : TaskSet → ℕ
label_width set = fold max 0 (map (λ row. length (row_label set row)) (chart_rows set))

-- the run that an entry tells, with its time, or none
abbrev pub run_at : ℕ → What → List (ℕ × Key)
run_at time (Run key) = (time, key) ∷ []
run_at time _ = []

-- the runs of a trace: at which time a job of which key ran
abbrev pub runs_of : List Entry → List (ℕ × Key)
runs_of trace = flat_map (λ (e : Entry). run_at e.time e.what) trace

-- # where a job of the row ran at this time, else a point
abbrev pub mark_at : List (ℕ × Key) → ChartRow → ℕ → ℕ
mark_at runs row u =
    if list_any (λ (r : ℕ × Key). r.0 == u && is_in_row row r.1) runs then 35 else 46

-- the label, spaces up to the longest one and one more, and a mark for each slot
abbrev pub chart_line : TaskSet → ℕ → List (ℕ × Key) → ChartRow → List ℕ
chart_line set n runs row =
    let label = row_label set row in
    label
    ++ replicate (label_width set - length label) 32
    ++ 32 ∷ map (mark_at runs row) (range_with_len 0 n)
    ++ 10 ∷ []

-- the chart of n slots of these runs
abbrev pub chart_of : TaskSet → ℕ → List (ℕ × Key) → List ℕ
chart_of set n runs =
    worded (codes "gantt") n ++ 10 ∷ flat_map (chart_line set n runs) (chart_rows set)

-- the chart of n slots of a trace
abbrev pub chart_text : TaskSet → ℕ → List Entry → List ℕ
chart_text set n trace = chart_of set n (runs_of trace)

-- the kinds of entries that a tally counts: arrivals by their answers, runs by their keys, and idle
-- slots
pub data Kind : Type 0 where
  soft_taken : Kind
  soft_full : Kind
  firm_accepted : Kind
  firm_late : Kind
  firm_far : Kind
  firm_no_room : Kind
  sporadic_taken : Kind
  sporadic_soon : Kind
  ran_offline : Kind
  ran_sporadic : Kind
  ran_firm : Kind
  ran_soft : Kind
  idle : Kind

-- an entry is of this kind
abbrev pub is_of_kind : Kind → What → Bool
is_of_kind soft_taken (Soft row slots SoftTaken) = true
is_of_kind soft_full (Soft row slots (Full n)) = true
is_of_kind firm_accepted (Firm row slots within Accepted) = true
is_of_kind firm_late (Firm row slots within Late) = true
is_of_kind firm_far (Firm row slots within Far) = true
is_of_kind firm_no_room (Firm row slots within (NoRoom e)) = true
is_of_kind sporadic_taken (SporadicEntry row index (SporadicTaken due)) = true
is_of_kind sporadic_soon (SporadicEntry row index (Soon next)) = true
is_of_kind ran_offline (Run (Offline graph task instance)) = true
is_of_kind ran_sporadic (Run (SporadicKey index row)) = true
is_of_kind ran_firm (Run (FirmKey row)) = true
is_of_kind ran_soft (Run (SoftKey row)) = true
is_of_kind idle Idle = true
is_of_kind _ _ = false

-- how many entries of a trace are of this kind
abbrev pub number_of : List Entry → Kind → ℕ
number_of trace kind = count_by (λ (e : Entry). is_of_kind kind e.what) trace

-- the line of a tally of these numbers: the load, its slots, and the number of each kind
abbrev pub tally_line : ℕ → ℕ → (Kind → ℕ) → List ℕ
tally_line n slots number =
    worded (codes "selfrun") n
    ++ worded (codes " slots") slots
    ++ worded (worded (codes " soft") (number soft_taken)) (number soft_full)
    ++ worded (worded (codes " firm") (number firm_accepted)) (number firm_late)
    ++ worded (worded [] (number firm_far)) (number firm_no_room)
    ++ worded (worded (codes " sporadic") (number sporadic_taken)) (number sporadic_soon)
    ++ worded (worded (codes " run") (number ran_offline)) (number ran_sporadic)
    ++ worded (worded [] (number ran_firm)) (number ran_soft)
    ++ worded (codes " idle") (number idle)
    ++ 10 ∷ []

-- the line of the counts of a trace
abbrev pub tally_text : ℕ → ℕ → List Entry → List ℕ
tally_text n slots trace = tally_line n slots (number_of trace)
