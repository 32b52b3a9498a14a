-- The first values are three pieces.
use Rattle.std.proofs.lemmas.Result.{on_ok_weaker, on_err_weaker}
use Rattle.trace_lines.specs.Traces.{time_of_first}
use Rattle.view_waves.specs.WaveTexts.{first_time_text, levels_text, shown_text}
use Rattle.slot_io.proofs.SinkParts.{OnErr-anyhow}
use Rattle.view_waves.proofs.ItemTexts.{first-broken, last-broken, second-broken, three-written}
use Rattle.view_waves.proofs.head.put_first.Goals as goal

pub returns-in_err-put_first_time-clause-part : goal.returns-in_err-put_first_time-clause-part
returns-in_err-put_first_time-clause-part g c =
    OnErr-anyhow c.from_residual.result
    (first-broken (g.K.Sink.written c.args.out.now) (g.K.Sink.written c.put_first_time.new.out) (first_time_text (time_of_first c.args.lines.now)) (levels_text c.args.wires c.args.wave.on) (shown_text c.args.wave.shown) c.in_err-put_first_time.ensures.part)

pub returns-in_err-put_levels-clause-part : goal.returns-in_err-put_levels-clause-part
returns-in_err-put_levels-clause-part g c =
    OnErr-anyhow c.from_residual-in_err-put_levels.result
    (second-broken (g.K.Sink.written c.args.out.now) (g.K.Sink.written c.put_first_time.new.out) (g.K.Sink.written c.put_levels.new.out) (first_time_text (time_of_first c.args.lines.now)) (levels_text c.args.wires c.args.wave.on) (shown_text c.args.wave.shown) c.in_ok-put_first_time.ensures.text c.in_err-put_levels.ensures.part)

pub returns-clause-text : goal.returns-clause-text
returns-clause-text g c =
    on_ok_weaker c.put_first_capacity.result
    (λ text. three-written (g.K.Sink.written c.args.out.now) (g.K.Sink.written c.put_first_time.new.out) (g.K.Sink.written c.put_levels.new.out) (g.K.Sink.written c.put_first_capacity.new.out) (first_time_text (time_of_first c.args.lines.now)) (levels_text c.args.wires c.args.wave.on) (shown_text c.args.wave.shown) c.in_ok-put_first_time.ensures.text c.in_ok-put_levels.ensures.text text)
    c.put_first_capacity.ensures.text

pub returns-clause-part : goal.returns-clause-part
returns-clause-part g c =
    on_err_weaker c.put_first_capacity.result
    (λ part. last-broken (g.K.Sink.written c.args.out.now) (g.K.Sink.written c.put_first_time.new.out) (g.K.Sink.written c.put_levels.new.out) (g.K.Sink.written c.put_first_capacity.new.out) (first_time_text (time_of_first c.args.lines.now)) (levels_text c.args.wires c.args.wave.on) (shown_text c.args.wave.shown) c.in_ok-put_first_time.ensures.text c.in_ok-put_levels.ensures.text part)
    c.put_first_capacity.ensures.part
