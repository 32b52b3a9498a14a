-- The executive has the plan that it was started with.
use Rattle.std.proofs.Common.{true, subst}
use Rattle.slot_core.specs.Keeping.Plans.{PlanParts}
use Rattle.command_line.specs.Writings.{IsPartWriting}
use Rattle.slot_cli.specs.Changed.{changed}
use Rattle.slot_cli.proofs.change.change_to.Goals as goal

pub returns : goal.returns
returns g c =
    let Writes : PlanParts → Type 0 = λ plan. IsPartWriting g.K.Sink.written g.K.Sink.faults true (changed plan c.args.second c.args.arrivals.now c.args.slots c.args.until) c.tell_change.result c.args.out.now c.tell_change.new.out in
    subst Writes c.in_ok-exec.ensures.plan c.tell_change.ensures
