use Rattle.std.proofs.Common.{ℕ, subst}
use Rattle.std.proofs.lemmas.Result.{err_from_is_err_and}
use Rattle.std.specs.Io.KnownBytes.{Appends}
use Rattle.slot_core.specs.Output.Texts.{trace_text}
use Rattle.slot_core.specs.Runs.Traces.{trace}
use Rattle.slot_io.specs.Sinks.{AppendsPart}
use Rattle.slot_cli.proofs.traces.tell_trace.Goals as goal

pub returns : goal.returns
returns g c =
    let tasks = c.args.exec.now.plan.tasks in
    subst (λ (slots : ℕ). Appends (g.K.Sink.written c.args.out.now) (g.K.Sink.written c.replay.new.out) (trace_text tasks (trace tasks c.args.arrivals.now slots))) c.from.ensures c.in_ok-replay.ensures.text

pub returns-in_err-replay : goal.returns-in_err-replay
returns-in_err-replay g c =
    let tasks = c.args.exec.now.plan.tasks in
    let p = err_from_is_err_and c.from_residual.result c.from_residual.ensures.1 in
    let part = subst (λ (slots : ℕ). AppendsPart (g.K.Sink.written c.args.out.now) (g.K.Sink.written c.replay.new.out) (trace_text tasks (trace tasks c.args.arrivals.now slots))) c.from.ensures c.in_err-replay.ensures.part in
    rw (p.1, p.2) (part, c.in_err-replay.ensures.failed)
