use Rattle.std.proofs.Common.{ℕ, List, subst, ◌∙◌}
use Rattle.std.proofs.lemmas.Result.{err_from_is_err_and}
use Rattle.std.specs.Io.KnownBytes.{Appends}
use Rattle.slot_io.specs.Sinks.{AppendsPart}
use Rattle.slot_cli.proofs.TraceLines.{tally-told}
use Rattle.slot_cli.proofs.traces.count_trace.Goals as goal

pub returns : goal.returns
returns g c =
    let told = tally-told c.args.n c.line.result c.new-tally.result c.drive.new.taker c.args.exec.now.plan.tasks c.args.arrivals.now c.args.slots c.from.result c.from.ensures c.requires.few c.requires.fitting c.new-tally.ensures c.in_ok-drive.ensures.took c.line.ensures.trace in
    subst (λ (text : List ℕ). Appends (g.K.Sink.written c.args.out.now) (g.K.Sink.written c.put.new.self) text) (c.bytes.ensures ∙ told) c.in_ok-put.ensures.ok

pub returns-in_err-put : goal.returns-in_err-put
returns-in_err-put g c =
    let told = tally-told c.args.n c.line.result c.new-tally.result c.drive.new.taker c.args.exec.now.plan.tasks c.args.arrivals.now c.args.slots c.from.result c.from.ensures c.requires.few c.requires.fitting c.new-tally.ensures c.in_ok-drive.ensures.took c.line.ensures.trace in
    let p = err_from_is_err_and c.from_residual-in_err-put.result c.from_residual-in_err-put.ensures.1 in
    let part = subst (λ (text : List ℕ). AppendsPart (g.K.Sink.written c.args.out.now) (g.K.Sink.written c.put.new.self) text) (c.bytes.ensures ∙ told) c.in_err-put.ensures.part in
    rw (p.1, p.2) (part, c.in_err-put.ensures.failed)
