-- Which instances are marked.
use Rattle.std.specs.Prelude.{◌≡◌, ◌≤◌, ◌<◌, ℕ, ◌+◌, true}
use Rattle.slot_core.specs.declared.tasks.Graph.{Graph}
use Rattle.slot_core.specs.Offline.OfflineJobs.{deadline_of, release_of}
use Rattle.slot_core.specs.Sets.Ranges.{graph_in_range}
use Rattle.task_rows.specs.declared.marks.Edges.{Edges}
use Rattle.task_rows.specs.Marks.{first_instance, instance_count}

-- an instance of a graph that is released by the end of the picture, and is due at its beginning or
-- later, is one of those that are marked
abbrev pub EachInstanceIsMarked : Type 0
EachInstanceIsMarked =
    (graph : Graph) (edges : Edges) (instance : ℕ) → graph_in_range graph ≡ true
    → edges.first ≤ deadline_of graph instance → release_of graph instance ≤ edges.last
    → (first_instance graph edges ≤ instance)
    × (instance < first_instance graph edges + instance_count graph edges)
