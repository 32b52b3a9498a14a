-- The executive has the plan that it was started with.
use Rattle.std.proofs.Common.{subst}
use Rattle.slot_core.specs.Keeping.Plans.{PlanParts}
use Rattle.command_line.specs.Writings.{IsPartWriting}
use Rattle.command_line.specs.Commands.{tells_in_parts}
use Rattle.slot_cli.specs.RunTexts.{run_writing}
use Rattle.slot_cli.proofs.runs.write_run.Goals as goal

pub returns : goal.returns
returns g c =
    let Writes : PlanParts → Type 0 = λ plan. IsPartWriting g.K.Sink.written g.K.Sink.faults (tells_in_parts c.args.output) (run_writing c.args.output c.args.slots plan c.args.arrivals.now) c.tell_run.result c.args.out.now c.tell_run.new.out in
    subst Writes c.in_ok-exec.ensures.plan c.tell_run.ensures
