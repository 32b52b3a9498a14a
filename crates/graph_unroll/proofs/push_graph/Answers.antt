-- One more instance.
use Rattle.slot_core.specs.Offline.OfflineJobs.{instance_jobs}
use Rattle.graph_unroll.proofs.RangeLemmas.{flat_map-range_more}
use Rattle.graph_unroll.proofs.push_graph.Goals as goal

pub loop-instance-preserved : goal.loop-instance-preserved
loop-instance-preserved c =
    flat_map-range_more (instance_jobs c.args.index c.args.graph.now) c.args.jobs.now.items c.loop-instance.jobs.items c.push_instance.new.jobs.items c.loop-instance.instance c.from.result c.loop-instance.invariant c.in_ok-push_instance.ensures c.from.ensures
