-- The file is read, and then the answer is written, or a part of it.
use Rattle.std.proofs.Common.{◌≡◌, Ok, sym, ap, subst, ◌∙◌}
use Rattle.std.specs.Prelude.{OnErr}
use Rattle.std.proofs.lemmas.Result.{err_from_is_err_and, on_ok_weaker}
use Rattle.slot_io.specs.Sinks.{AppendsPart}
use Rattle.slot_io.specs.Files.{Held}
use Rattle.command_line.specs.declared.refusal.Refusal.TheVariants.{WriteFault}
use Rattle.plan_run.specs.Answers.{answer_from}
use Rattle.plan_run.proofs.Refused.{if_held, reading-cause, reading-unwritten, write-cause}
use Rattle.plan_run.proofs.work.work.Goals as goal

pub returns-in_err-text-clause-part : goal.returns-in_err-text-clause-part
returns-in_err-text-clause-part g c = λ write.
    let p = err_from_is_err_and c.from_residual.result c.from_residual.ensures.1 in
    let same : c.in_err-text.field-0.0 ≡ WriteFault = cc (sym p.1 ∙ write, p.2) in
    absurd (reading-unwritten _ _ _ _ _ _ (λ (held : Held). answer_from held c.args.words.now c.args.question) c.in_err-text.field-0.0 _ c.in_err-text.ensures same)

pub returns-in_err-text-clause-refused : goal.returns-in_err-text-clause-refused
returns-in_err-text-clause-refused g c =
    let p = err_from_is_err_and c.from_residual.result c.from_residual.ensures.1 in
    rw (p.1, p.2) (reading-cause _ _ _ _ _ _ (λ (held : Held). answer_from held c.args.words.now c.args.question) _ c.in_err-text.field-0.0 _ c.in_err-text.ensures)

pub returns-clause-done : goal.returns-clause-done
returns-clause-done g c =
    on_ok_weaker
    c.put_text.result
    (λ appended. if_held (g.F.Files.held c.args.files.now) (λ files told. (c.deref.result.now, c.in_ok-text.ensures.answers files told ∙ ap Ok (sym c.deref.ensures.value), appended)))
    c.put_text.ensures.done

pub returns-clause-part : goal.returns-clause-part
returns-clause-part g c = λ write.
    if_held (g.F.Files.held c.args.files.now) (λ files told. (c.deref.result.now, c.in_ok-text.ensures.answers files told ∙ ap Ok (sym c.deref.ensures.value), subst (λ r. OnErr r (AppendsPart (g.K.Sink.written c.args.out.now) (g.K.Sink.written c.put_text.new.out) c.deref.result.now)) write c.put_text.ensures.part))

pub returns-clause-reads_well : goal.returns-clause-reads_well
returns-clause-reads_well g c = on_ok_weaker c.put_text.result (λ done. c.in_ok-text.ensures.counts) c.put_text.ensures.done

pub returns-clause-refused : goal.returns-clause-refused
returns-clause-refused g c =
    write-cause c.args.words.now (λ (held : Held). answer_from held c.args.words.now c.args.question) _ _ _ _ _ c.put_text.result c.put_text.ensures.refused
