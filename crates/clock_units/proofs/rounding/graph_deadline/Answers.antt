use Rattle.std.proofs.Common.{sym}
use Rattle.clock_units.proofs.Roundings.{deadline-after_wait}
use Rattle.clock_units.proofs.rounding.graph_deadline.Goals as goal

pub returns : goal.returns
returns c =
    let graph = c.args.graph.now in
    rw (c.down.ensures, c.saturating_sub.ensures) (sym (deadline-after_wait c.args.slot graph.offset graph.deadline c.wait_after-wait.result c.requires c.wait_after-wait.ensures))
