use Rattle.std.proofs.Common.{sym}
use Rattle.clock_units.proofs.Roundings.{deadline-after_wait}
use Rattle.timed_arrivals.proofs.rounding.slots_within.Goals as goal

pub returns : goal.returns
returns c =
    rw c.saturating_sub.ensures (sym (deadline-after_wait c.args.slot c.args.at c.args.deadline c.wait_after-wait.result c.requires c.wait_after-wait.ensures))
