-- How many rows there are.
use Rattle.std.proofs.Common.{◌≡◌, ◌*◌, ◌≤◌, Bool, true, List, [], ◌∷◌, length, length-append, map, ap, arith, ◌∙◌, inl, inr}
use Rattle.std.specs.Prelude.{filter, flat_map}
use Rattle.std.specs.List.{list_all}
use Rattle.std.proofs.lemmas.Bool.{and_parts, cases_Bool}
use Rattle.std.proofs.lemmas.List.{length-map}
use Rattle.slot_core.specs.declared.TheConstants.{TASK_LIMIT}
use Rattle.slot_core.specs.declared.tasks.Graph.{Graph}
use Rattle.slot_core.specs.declared.tasks.Task.{Task}
use Rattle.slot_core.specs.declared.tasks.TaskSet.{TaskSet}
use Rattle.slot_core.specs.Sets.Ranges.{graph_in_range, is_sound}
use Rattle.slot_facts.proofs.Sets.Ranges.{SetRanges-from_sound, few_tasks}
use Rattle.run_blocks.specs.declared.TheConstants.{ROW_LIMIT}
use Rattle.run_blocks.specs.declared.rows.Row.{Row}
use Rattle.trace_lines.specs.declared.line.TraceLine.{TraceLine}
use Rattle.view_picture.specs.declared.TheConstants.{MOST_ROWS}
use Rattle.task_rows.specs.Rows.{AreTaskRows, graph_rows, is_for_arrivals, rows_of_tasks, sporadic_row, task_row}

-- graphs have at most so many tasks each
graphs-few : (graphs : List Graph) → list_all graph_in_range graphs ≡ true → length (flat_map graph_rows graphs) ≤ TASK_LIMIT * length graphs
graphs-few [] all = omega arith
graphs-few (graph ∷ graphs) all =
    let (here, rest) = and_parts (graph_in_range graph) (list_all graph_in_range graphs) all in
    let both = length-append (graph_rows graph) (flat_map graph_rows graphs) in
    let own = length-map graph.tasks (λ (task : Task). task_row graph.name task.name) in
    omega (arith, both, own, few_tasks graph here, graphs-few graphs rest)

-- the tasks of a sound set have at most as many rows as a trace may have
pub tasks-few : (set : TaskSet) → is_sound set ≡ true → length (rows_of_tasks set) ≤ ROW_LIMIT
tasks-few set sound =
    let ranges = SetRanges-from_sound set sound in
    let both = length-append (flat_map graph_rows set.graphs) (map sporadic_row set.sporadics) in
    let others = length-map set.sporadics sporadic_row in
    omega (arith, both, others, ranges.few, ranges.count.1, graphs-few set.graphs ranges.graphs)

-- what passes a test is no more than there is
filtered-few : (p : Row → Bool) (rows : List Row) → length (filter p rows) ≤ length rows
filtered-few p [] = omega arith
filtered-few p (row ∷ rows) =
    elim (cases_Bool (p row)) [
      | inl pass ↦ rw pass (let rest = filtered-few p rows in omega (arith, rest))
      | inr fail ↦ rw fail (let rest = filtered-few p rows in omega (arith, rest))
    ]

-- rows of the tasks of a sound set, and of what arrives, are at most twice as many
pub rows-few : (set : TaskSet) (lines : List TraceLine) (rows : List Row) → is_sound set ≡ true → AreTaskRows (rows_of_tasks set) lines rows → length rows ≤ MOST_ROWS
rows-few set lines rows sound own =
    let whole = ap length own.rows_all ∙ length-append (rows_of_tasks set) (filter is_for_arrivals own.run) in
    omega (arith, whole, tasks-few set sound, filtered-few is_for_arrivals own.run, own.few)
