-- The declarations are three pieces.
use Rattle.std.proofs.Common.{length}
use Rattle.std.specs.Prelude.{flat_map}
use Rattle.std.specs.List.{enumerate_from}
use Rattle.std.proofs.lemmas.Result.{on_err_weaker}
use Rattle.view_waves.specs.WaveTexts.{after_wires, before_wires, row_text}
use Rattle.slot_io.proofs.SinkParts.{OnErr-anyhow}
use Rattle.view_waves.proofs.ItemTexts.{first-broken, last-broken, second-broken}
use Rattle.view_waves.proofs.head.put_head.Goals as goal

pub returns-in_err-put_before_wires-clause-part : goal.returns-in_err-put_before_wires-clause-part
returns-in_err-put_before_wires-clause-part g c =
    OnErr-anyhow c.from_residual.result
    (first-broken (g.K.Sink.written c.args.out.now) (g.K.Sink.written c.put_before_wires.new.out) before_wires (flat_map row_text (enumerate_from 0 c.args.rows.now)) (after_wires (length c.args.rows.now)) c.in_err-put_before_wires.ensures.part)

pub returns-in_err-put_row_wires-clause-part : goal.returns-in_err-put_row_wires-clause-part
returns-in_err-put_row_wires-clause-part g c =
    OnErr-anyhow c.from_residual-in_err-put_row_wires.result
    (second-broken (g.K.Sink.written c.args.out.now) (g.K.Sink.written c.put_before_wires.new.out) (g.K.Sink.written c.put_row_wires.new.out) before_wires (flat_map row_text (enumerate_from 0 c.args.rows.now)) (after_wires (length c.args.rows.now)) c.in_ok-put_before_wires.ensures.text c.in_err-put_row_wires.ensures.part)

pub returns-clause-part : goal.returns-clause-part
returns-clause-part g c =
    on_err_weaker c.put_after_wires.result
    (λ part. last-broken (g.K.Sink.written c.args.out.now) (g.K.Sink.written c.put_before_wires.new.out) (g.K.Sink.written c.put_row_wires.new.out) (g.K.Sink.written c.put_after_wires.new.out) before_wires (flat_map row_text (enumerate_from 0 c.args.rows.now)) (after_wires (length c.args.rows.now)) c.in_ok-put_before_wires.ensures.text c.in_ok-put_row_wires.ensures.text part)
    c.put_after_wires.ensures.part
