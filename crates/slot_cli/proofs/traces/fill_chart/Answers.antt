use Rattle.std.proofs.Common.{ℕ, List, subst}
use Rattle.std.proofs.lemmas.Result.{err_from_is_err_and}
use Rattle.std.specs.Io.KnownBytes.{Appends}
use Rattle.slot_io.specs.Sinks.{AppendsPart}
use Rattle.slot_cli.proofs.TraceLines.{chart-drawn, chart-told}
use Rattle.slot_cli.proofs.traces.fill_chart.Goals as goal

pub print-requires : goal.print-requires
print-requires g c =
    (chart-drawn c.args.exec.now.plan c.drive.new.exec.plan c.tasks.result.now c.args.chart.now c.drive.new.taker c.args.arrivals.now c.args.slots c.from.result c.in_ok-drive.ensures.plan c.tasks.ensures.tasks c.from.ensures c.requires.empty c.in_ok-drive.ensures.took).is_chart

pub returns : goal.returns
returns g c =
    let drawn = chart-drawn c.args.exec.now.plan c.drive.new.exec.plan c.tasks.result.now c.args.chart.now c.drive.new.taker c.args.arrivals.now c.args.slots c.from.result c.in_ok-drive.ensures.plan c.tasks.ensures.tasks c.from.ensures c.requires.empty c.in_ok-drive.ensures.took in
    subst (λ (text : List ℕ). Appends (g.K.Sink.written c.args.out.now) (g.K.Sink.written c.print.new.out) text) (chart-told c.tasks.result.now c.args.exec.now.plan c.args.arrivals.now c.args.slots c.drive.new.taker drawn c.print.ensures.runs) c.in_ok-print.ensures.text

pub returns-in_err-print : goal.returns-in_err-print
returns-in_err-print g c =
    let drawn = chart-drawn c.args.exec.now.plan c.drive.new.exec.plan c.tasks.result.now c.args.chart.now c.drive.new.taker c.args.arrivals.now c.args.slots c.from.result c.in_ok-drive.ensures.plan c.tasks.ensures.tasks c.from.ensures c.requires.empty c.in_ok-drive.ensures.took in
    let p = err_from_is_err_and c.from_residual-in_err-print.result c.from_residual-in_err-print.ensures.1 in
    let part = subst (λ (text : List ℕ). AppendsPart (g.K.Sink.written c.args.out.now) (g.K.Sink.written c.print.new.out) text) (chart-told c.tasks.result.now c.args.exec.now.plan c.args.arrivals.now c.args.slots c.drive.new.taker drawn c.print.ensures.runs) c.in_err-print.ensures.part in
    rw (p.1, p.2) (part, c.in_err-print.ensures.failed)
