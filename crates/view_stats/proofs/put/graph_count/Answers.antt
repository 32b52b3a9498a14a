-- A sound set has few graphs.
use Rattle.std.proofs.Common.{arith}
use Rattle.slot_facts.proofs.Sets.Ranges.{SetRanges-from_sound}
use Rattle.view_stats.proofs.put.graph_count.Goals as goal

pub overflow_cast-result : goal.overflow_cast-result
overflow_cast-result c = omega (arith, c.len.ensures, (SetRanges-from_sound c.args.tasks.now c.requires).count)
