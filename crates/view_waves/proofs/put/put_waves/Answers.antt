-- The waves are three pieces.
use Rattle.std.proofs.Common.{◌≡◌, ℕ, ◌+◌, ◌++◌, List, length, ap, subst}
use Rattle.std.specs.Prelude.{Option}
use Rattle.std.specs.Io.KnownBytes.{Appends}
use Rattle.std.proofs.lemmas.Result.{on_ok_weaker, on_err_weaker}
use Rattle.slot_io.specs.Sinks.{AppendsPart}
use Rattle.trace_lines.specs.declared.line.TraceLine.{TraceLine}
use Rattle.run_blocks.specs.declared.rows.Row.{Row}
use Rattle.view_waves.specs.declared.steps.Wave.{Wave}
use Rattle.trace_lines.specs.Traces.{time_of_first}
use Rattle.view_waves.specs.Steps.{first_wave}
use Rattle.view_waves.specs.WaveTexts.{first_text, head_text, steps_text, waves_text}
use Rattle.slot_io.proofs.SinkParts.{OnErr-anyhow}
use Rattle.view_waves.proofs.ItemTexts.{first-broken, last-broken, second-broken, three-written}
use Rattle.view_waves.proofs.put.put_waves.Goals as goal

-- the waves that begin with these values
abbrev text_with : List Row → List TraceLine → Wave → List ℕ
text_with rows lines wave =
    head_text rows ++ (first_text (length rows + 1) (time_of_first lines) wave ++ steps_text rows wave lines)

-- which are those before the first slot
whole : (rows : List Row) (lines : List TraceLine) (wave : Wave) → wave ≡ first_wave rows lines → text_with rows lines wave ≡ waves_text rows lines
whole rows lines wave is = ap (text_with rows lines) is

-- all of the text is written
all-of : (a b : Option (List ℕ)) (rows : List Row) (lines : List TraceLine) (wave : Wave) → wave ≡ first_wave rows lines → Appends a b (text_with rows lines wave) → Appends a b (waves_text rows lines)
all-of a b rows lines wave is written = subst (Appends a b) (whole rows lines wave is) written

-- or a part
part-of : (a b : Option (List ℕ)) (rows : List Row) (lines : List TraceLine) (wave : Wave) → wave ≡ first_wave rows lines → AppendsPart a b (text_with rows lines wave) → AppendsPart a b (waves_text rows lines)
part-of a b rows lines wave is part = subst (AppendsPart a b) (whole rows lines wave is) part

pub returns-in_err-put_head-clause-part : goal.returns-in_err-put_head-clause-part
returns-in_err-put_head-clause-part g c =
    let before = g.K.Sink.written c.args.out.now in
    let after = g.K.Sink.written c.put_head.new.out in
    let rows : List Row = c.args.rows.now in
    let lines : List TraceLine = c.args.lines.now in
    let wave : Wave = c.first_wave-wave.result in
    OnErr-anyhow c.from_residual.result
    (part-of before after rows lines wave c.first_wave-wave.ensures
    (first-broken before after (head_text rows) (first_text (length rows + 1) (time_of_first lines) wave) (steps_text rows wave lines) c.in_err-put_head.ensures.part))

pub returns-in_err-put_first-clause-part : goal.returns-in_err-put_first-clause-part
returns-in_err-put_first-clause-part g c =
    let before = g.K.Sink.written c.args.out.now in
    let after = g.K.Sink.written c.put_first.new.out in
    let rows : List Row = c.args.rows.now in
    let lines : List TraceLine = c.args.lines.now in
    let wave : Wave = c.first_wave-wave.result in
    OnErr-anyhow c.from_residual-in_err-put_first.result
    (part-of before after rows lines wave c.first_wave-wave.ensures
    (second-broken before (g.K.Sink.written c.put_head.new.out) after (head_text rows) (first_text (length rows + 1) (time_of_first lines) wave) (steps_text rows wave lines) c.in_ok-put_head.ensures.text c.in_err-put_first.ensures.part))

pub returns-clause-text : goal.returns-clause-text
returns-clause-text g c =
    let before = g.K.Sink.written c.args.out.now in
    let after = g.K.Sink.written c.put_steps.new.out in
    let rows : List Row = c.args.rows.now in
    let lines : List TraceLine = c.args.lines.now in
    let wave : Wave = c.first_wave-wave.result in
    on_ok_weaker c.put_steps.result
    (λ (text : Appends (g.K.Sink.written c.put_first.new.out) after (steps_text rows wave lines)).
    all-of before after rows lines wave c.first_wave-wave.ensures
    (three-written before (g.K.Sink.written c.put_head.new.out) (g.K.Sink.written c.put_first.new.out) after (head_text rows) (first_text (length rows + 1) (time_of_first lines) wave) (steps_text rows wave lines) c.in_ok-put_head.ensures.text c.in_ok-put_first.ensures.text text))
    c.put_steps.ensures.text

pub returns-clause-part : goal.returns-clause-part
returns-clause-part g c =
    let before = g.K.Sink.written c.args.out.now in
    let after = g.K.Sink.written c.put_steps.new.out in
    let rows : List Row = c.args.rows.now in
    let lines : List TraceLine = c.args.lines.now in
    let wave : Wave = c.first_wave-wave.result in
    on_err_weaker c.put_steps.result
    (λ (part : AppendsPart (g.K.Sink.written c.put_first.new.out) after (steps_text rows wave lines)).
    part-of before after rows lines wave c.first_wave-wave.ensures
    (last-broken before (g.K.Sink.written c.put_head.new.out) (g.K.Sink.written c.put_first.new.out) after (head_text rows) (first_text (length rows + 1) (time_of_first lines) wave) (steps_text rows wave lines) c.in_ok-put_head.ensures.text c.in_ok-put_first.ensures.text part))
    c.put_steps.ensures.part
