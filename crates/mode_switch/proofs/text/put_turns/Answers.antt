-- The line of the next slot is written, or a part of it.
use Rattle.std.proofs.Common.{◌+◌, ap, arith}
use Rattle.mode_switch.proofs.TurnLines.{line_at-told, lines-more, lines-part, passed-once}
use Rattle.mode_switch.proofs.text.put_turns.Goals as goal
use Rattle.slot_io.proofs.SinkParts.{OnErr-anyhow}

pub returns-in_err-put-clause-part : goal.returns-in_err-put-clause-part
returns-in_err-put-clause-part g c =
    let change = c.args.change.now in
    let now = ap (λ n. n + c.loop-passed.passed) c.requires.at in
    let told = line_at-told c.args.first.now c.tasks.result.now (c.args.at + c.loop-passed.passed) c.loop-passed.passed c.slot-turn.result c.bytes.result.now c.push_turn.new.line change c.loop-passed.change c.slot-turn.new.self c.loop-passed.invariant.change c.slot-turn.ensures.passes c.tasks.ensures.tasks c.slot-turn.ensures.turn now c.bytes.ensures c.push_turn.ensures in
    OnErr-anyhow c.from_residual.result (lines-part (g.K.Sink.written c.args.out.now) (g.K.Sink.written c.loop-passed.out) (g.K.Sink.written c.put.new.self) c.args.first.now c.args.slots c.loop-passed.passed change c.bytes.result.now c.loop-passed-test.true c.loop-passed.invariant.text told c.in_err-put.ensures.part)

pub loop-passed-preserved : goal.loop-passed-preserved
loop-passed-preserved g c =
    let change = c.args.change.now in
    let now = ap (λ n. n + c.loop-passed.passed) c.requires.at in
    let told = line_at-told c.args.first.now c.tasks.result.now (c.args.at + c.loop-passed.passed) c.loop-passed.passed c.slot-turn.result c.bytes.result.now c.push_turn.new.line change c.loop-passed.change c.slot-turn.new.self c.loop-passed.invariant.change c.slot-turn.ensures.passes c.tasks.ensures.tasks c.slot-turn.ensures.turn now c.bytes.ensures c.push_turn.ensures in
    record {
      change = passed-once change c.loop-passed.change c.slot-turn.new.self c.loop-passed.passed c.loop-passed.invariant.change c.slot-turn.ensures.passes;
      text = lines-more (g.K.Sink.written c.args.out.now) (g.K.Sink.written c.loop-passed.out) (g.K.Sink.written c.put.new.self) c.args.first.now c.loop-passed.passed change c.bytes.result.now c.loop-passed.invariant.text told c.in_ok-put.ensures.ok;
      counted = omega (arith, c.put.ensures.counted, c.loop-passed.invariant.counted);
    }
