-- What changes at one more line is written, or a part of it.
use Rattle.std.proofs.Common.{◌≡◌, ℕ, List, get_or, ap, ◌∙◌, arith}
use Rattle.std.specs.Prelude.{flat_map, Option}
use Rattle.trace_lines.specs.declared.line.TraceLine.{TraceLine}
use Rattle.run_blocks.specs.declared.rows.Row.{Row}
use Rattle.view_waves.specs.declared.steps.Step.{Step}
use Rattle.view_waves.specs.declared.steps.Wave.{Wave}
use Rattle.view_waves.specs.Steps.{step_if_any, step_of, wave_after}
use Rattle.view_waves.specs.WaveTexts.{step_text}
use Rattle.slot_io.proofs.SinkParts.{OnErr-anyhow}
use Rattle.view_waves.proofs.StepLists.{line_change, line-broken, line-written, wave-next}
use Rattle.view_waves.proofs.put.put_steps.Goals as goal

-- what is told of the line at its place
line-at : (rows : List Row) (now : Wave) (lines : List TraceLine) (i : ℕ) (line : TraceLine) (step : Option Step) → line ≡ get_or lines i line → step ≡ step_of rows now line → flat_map step_text (step_if_any step) ≡ line_change rows now (get_or lines i line)
line-at rows now lines i line step is told =
    ap (λ (s : Option Step). flat_map step_text (step_if_any s)) told ∙ ap (line_change rows now) is

pub returns-in_err-put_step-clause-part : goal.returns-in_err-put_step-clause-part
returns-in_err-put_step-clause-part g c =
    let rows : List Row = c.args.rows.now in
    let lines : List TraceLine = c.args.lines.now in
    let i = c.loop-line.line-index in
    let line : TraceLine = c.line-item.result in
    OnErr-anyhow c.from_residual.result
    (line-broken (g.K.Sink.written c.args.out.now) (g.K.Sink.written c.loop-line.out) (g.K.Sink.written c.put_step.new.out) rows c.args.first c.loop-line.wave lines i line (flat_map step_text (step_if_any c.after-step.result.1)) c.loop-line-test.true c.loop-line.invariant.wave (line-at rows c.loop-line.wave lines i line c.after-step.result.1 c.line-item.is c.after-step.ensures.step) c.loop-line.invariant.text c.in_err-put_step.ensures.part)

pub loop-line-preserved : goal.loop-line-preserved
loop-line-preserved g c =
    let rows : List Row = c.args.rows.now in
    let lines : List TraceLine = c.args.lines.now in
    let i = c.loop-line.line-index in
    let line : TraceLine = c.line-item.result in
    record {
      text =
          line-written (g.K.Sink.written c.args.out.now) (g.K.Sink.written c.loop-line.out) (g.K.Sink.written c.put_step.new.out) rows c.args.first c.loop-line.wave lines i line (flat_map step_text (step_if_any c.after-step.result.1)) c.loop-line-test.true c.loop-line.invariant.wave (line-at rows c.loop-line.wave lines i line c.after-step.result.1 c.line-item.is c.after-step.ensures.step) c.loop-line.invariant.text c.in_ok-put_step.ensures.text;
      wave =
          wave-next rows c.args.first c.loop-line.wave c.after-step.result.0 lines i line c.loop-line-test.true c.loop-line.invariant.wave (c.after-step.ensures.wave ∙ ap (wave_after rows c.loop-line.wave) c.line-item.is);
      counted = omega (arith, c.put_step.ensures.counted, c.loop-line.invariant.counted);
    }
