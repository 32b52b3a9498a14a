use Rattle.std.proofs.Common.{◌≡◌, refl, sym, subst, true}
use Rattle.std.specs.Prelude.{OnErr}
use Rattle.std.proofs.lemmas.Result.{on_ok_weaker}
use Rattle.slot_io.specs.Sinks.{AppendsPart}
use Rattle.run_blocks.specs.Rows.{AreRowsOf, have_few_firms, may_all_stand}
use Rattle.trace_lines.specs.Traces.{runs_of}
use Rattle.view_waves.specs.WaveTexts.{waves_text}
use Rattle.view_run.proofs.work.show_waves.Goals as goal

pub returns-in-Ok-clause-shown : goal.returns-in-Ok-clause-shown
returns-in-Ok-clause-shown g c =
    let rows : AreRowsOf c.in-Ok.rows.items (runs_of c.args.lines.now) = record { held = c.in-Ok.ensures.held; run = c.in-Ok.ensures.run; distinct = c.in-Ok.ensures.distinct } in
    let same : AreRowsOf c.deref.result.now (runs_of c.args.lines.now) = subst (λ rs. AreRowsOf rs (runs_of c.args.lines.now)) (sym c.deref.ensures.value) rows in
    let firms : may_all_stand (have_few_firms (runs_of c.args.lines.now)) c.deref.result.now ≡ true = subst (λ rs. may_all_stand (have_few_firms (runs_of c.args.lines.now)) rs ≡ true) (sym c.deref.ensures.value) c.in-Ok.ensures.firm_rows in
    on_ok_weaker
    c.put_rows.result
    (λ appended. (waves_text c.deref.result.now c.args.lines.now, (c.deref.result.now, same, firms, refl), appended))
    c.put_rows.ensures.shown

pub returns-in-Ok-clause-part : goal.returns-in-Ok-clause-part
returns-in-Ok-clause-part g c = λ write.
    let rows : AreRowsOf c.in-Ok.rows.items (runs_of c.args.lines.now) = record { held = c.in-Ok.ensures.held; run = c.in-Ok.ensures.run; distinct = c.in-Ok.ensures.distinct } in
    let same : AreRowsOf c.deref.result.now (runs_of c.args.lines.now) = subst (λ rs. AreRowsOf rs (runs_of c.args.lines.now)) (sym c.deref.ensures.value) rows in
    let firms : may_all_stand (have_few_firms (runs_of c.args.lines.now)) c.deref.result.now ≡ true = subst (λ rs. may_all_stand (have_few_firms (runs_of c.args.lines.now)) rs ≡ true) (sym c.deref.ensures.value) c.in-Ok.ensures.firm_rows in
    let text = waves_text c.deref.result.now c.args.lines.now in
    (text, (c.deref.result.now, same, firms, refl), subst (λ r. OnErr r (AppendsPart (g.K.Sink.written c.args.out.now) (g.K.Sink.written c.put_rows.new.out) text)) write c.put_rows.ensures.part)
