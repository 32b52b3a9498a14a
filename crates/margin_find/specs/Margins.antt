-- The tasks of a set in their order, and their margins.
use Rattle.std.specs.Prelude.{◌≡◌, ℕ, ◌+◌, List, ◌++◌, All, Option, map, flat_map, option_map}
use Rattle.std.specs.List.{enumerate_from, range_with_len}
use Rattle.slot_core.specs.declared.jobs.Window.{Window}
use Rattle.slot_core.specs.Feasibility.Feasible.{counterexample, first_some}
use Rattle.slot_core.specs.Sets.Cycles.{cycle_of}
use Rattle.slot_core.specs.declared.faults.Part.{Part}
use Rattle.slot_core.specs.declared.faults.Part.TheVariants.{Task as TaskPart, Sporadic as SporadicPart}
use Rattle.slot_core.specs.declared.tasks.Task.{Task}
use Rattle.slot_core.specs.declared.tasks.Graph.{Graph}
use Rattle.slot_core.specs.declared.tasks.Sporadic.{Sporadic}
use Rattle.slot_core.specs.declared.tasks.TaskSet.{TaskSet}
use Rattle.slot_core.specs.Claims.Growth.{IsMargin, grown}
use Rattle.margin_find.specs.declared.margin.TaskMargin.{TaskMargin}

-- the tasks of a graph
abbrev pub graph_parts : ℕ × Graph → List Part
graph_parts (g, graph) = map (λ (t : ℕ × Task). TaskPart g t.0) (enumerate_from 0 graph.tasks)

-- the tasks of each graph and then the sporadic tasks, in the order of the file
abbrev pub parts_of : TaskSet → List Part
parts_of set =
    flat_map graph_parts (enumerate_from 0 set.graphs)
    ++ map (λ (s : ℕ × Sporadic). SporadicPart s.0) (enumerate_from 0 set.sporadics)

-- the margins of these tasks, in their order
pub record AreMargins (set : TaskSet) (parts : List Part) (found : List TaskMargin) : Type 0 where
  pub places : map (λ (m : TaskMargin). m.at) found ≡ parts
  pub margins :
      All (λ (m : TaskMargin). IsMargin set m.at m.margin.growth m.margin.window) found

-- the margin of a task with its window: the first growth after which the set no longer fits (the
-- cycle refuses each growth beyond it)
abbrev pub margin_of : TaskSet → Part → Option TaskMargin
margin_of set part =
    first_some
    (λ g. let longer = grown set part (g + 1) in
    option_map
    (λ (w : Window). record { at = part; margin = record { growth = g; window = w } })
    (counterexample longer (cycle_of longer)))
    (range_with_len 0 (cycle_of set + 1))
