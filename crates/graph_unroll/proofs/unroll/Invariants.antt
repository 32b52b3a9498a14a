-- What is appended, and the jobs of the graphs that are left, are the jobs of all graphs.
use Rattle.std.proofs.Common.{◌≡◌, ◌++◌, drop}
use Rattle.std.specs.Prelude.{flat_map}
use Rattle.std.specs.List.{enumerate_from}
use Rattle.slot_core.specs.Offline.OfflineJobs.{graph_jobs}
use Rattle.graph_unroll.proofs.unroll.Given as goal

abbrev pub invariant-loop-index : goal.invariant-loop-index
invariant-loop-index l =
    l.jobs.items ++ flat_map (graph_jobs l.cycle 0) (enumerate_from l.index (drop l.index l.graph-items)) ≡ flat_map (graph_jobs l.cycle 0) (enumerate_from 0 l.graph-items)
