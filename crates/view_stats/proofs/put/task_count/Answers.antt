-- A graph of a sound set has few tasks.
use Rattle.std.proofs.Common.{◌≤◌, length, subst, sym, ap, arith}
use Rattle.view_stats.proofs.Parts.{few-of}
use Rattle.view_stats.proofs.put.task_count.Goals as goal

pub overflow_cast-result : goal.overflow_cast-result
overflow_cast-result c =
    omega (arith, few-of c.args.tasks.now c.args.graph c.requires, ap length c.tasks_of.ensures)
