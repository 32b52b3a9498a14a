-- A part of a piece, after the pieces before it, is a part of the text.
use Rattle.std.proofs.Common.{◌≡◌, arith}
use Rattle.std.proofs.lemmas.Result.{on_err_weaker}
use Rattle.mode_switch.proofs.TurnLines.{text-end, text-granted, text-turns}
use Rattle.mode_switch.proofs.text.put_change.Goals as goal
use Rattle.slot_io.proofs.SinkParts.{OnErr-anyhow}

pub returns-in_err-put_granted-clause-part : goal.returns-in_err-put_granted-clause-part
returns-in_err-put_granted-clause-part g c =
    let at : c.now-at.result ≡ c.args.change.now.at = omega (arith, c.now-at.ensures.time, c.requires.fresh) in
    OnErr-anyhow c.from_residual.result (text-granted (g.K.Sink.written c.args.out.now) (g.K.Sink.written c.put_granted.new.out) c.args.first.now c.args.change.now c.now-at.result c.args.slots at c.in_err-put_granted.ensures.part)

pub returns-in_err-put_turns-clause-part : goal.returns-in_err-put_turns-clause-part
returns-in_err-put_turns-clause-part g c =
    let at : c.now-at.result ≡ c.args.change.now.at = omega (arith, c.now-at.ensures.time, c.requires.fresh) in
    OnErr-anyhow c.from_residual-in_err-put_turns.result (text-turns (g.K.Sink.written c.args.out.now) (g.K.Sink.written c.put_granted.new.out) (g.K.Sink.written c.put_turns.new.out) c.args.first.now c.args.change.now c.now-at.result c.args.slots at c.in_ok-put_granted.ensures.text c.in_err-put_turns.ensures.part)

pub returns-clause-part : goal.returns-clause-part
returns-clause-part g c =
    let at : c.now-at.result ≡ c.args.change.now.at = omega (arith, c.now-at.ensures.time, c.requires.fresh) in
    on_err_weaker c.put_end.result (text-end (g.K.Sink.written c.args.out.now) (g.K.Sink.written c.put_granted.new.out) (g.K.Sink.written c.put_turns.new.out) (g.K.Sink.written c.put_end.new.out) c.args.first.now c.args.change.now c.now-at.result c.args.slots at c.in_ok-put_granted.ensures.text c.in_ok-put_turns.ensures.text) c.put_end.ensures.part
