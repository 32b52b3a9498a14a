-- The jobs of the first instances are appended.
use Rattle.std.proofs.Common.{◌≡◌, ◌++◌}
use Rattle.std.specs.Prelude.{flat_map}
use Rattle.std.specs.List.{range_with_len}
use Rattle.slot_core.specs.Offline.OfflineJobs.{instance_jobs}
use Rattle.graph_unroll.proofs.push_graph.Given as goal

abbrev pub invariant-loop-instance : goal.invariant-loop-instance
invariant-loop-instance l =
    l.jobs.items ≡ l.initial.jobs.items ++ flat_map (instance_jobs l.index l.graph) (range_with_len 0 l.instance)
