-- What is put is what was asked for.
use Rattle.std.proofs.Common.{◌≡◌, ◌∙◌, ℕ, Ok, Err, refl, ap, subst, sym}
use Rattle.std.proofs.lemmas.Result.{on_ok_weaker, IfErr-weaker}
use Rattle.std.specs.Io.KnownBytes.{Appends}
use Rattle.slot_core.specs.Keeping.Executives.{StandsFor}
use Rattle.slot_core.specs.declared.tasks.TaskSet.{TaskSet}
use Rattle.slot_core.specs.Output.Texts.{entry_line}
use Rattle.slot_core.specs.Runs.Histories.{History}
use Rattle.slot_core.specs.Runs.Traces.{end_entry}
use Rattle.slot_io.specs.Sinks.{AppendsPart}
use Rattle.live_lines.specs.declared.commands.LiveCommand.TheVariants.{Arrive, Pass, Ahead, Carried, End}
use Rattle.live_lines.specs.Commands.{Asked}
use Rattle.live_run.specs.Dialogues.{answer_text}
use Rattle.live_run.specs.Streams.{seen, exchange_texts, ArePutInPart, IsAnswered, IsAnsweredInPart}
use Rattle.live_run.proofs.StreamLemmas.{ArePut-lines, ArePutInPart-lines, at-output}
use Rattle.live_run.proofs.answers.answer.Goals as goal
use Rattle.live_run.proofs.answers.answer.Goals.{Start}

pub returns-in-Ok-Arrive-clause-put : goal.returns-in-Ok-Arrive-clause-put
returns-in-Ok-Arrive-clause-put g c =
    let p = c.args.exec.now.plan in
    let s = c.args.streams.now in
    let see = seen g.K.Sink.written g.K.Sink.faults g.R.RecordFile.written g.R.RecordFile.faults g.E.Sink.written g.E.Sink.faults in
    let arm : c.in-Ok-Arrive.field-0 ≡ Arrive c.in-Ok-Arrive.event = rw c.in-Ok-Arrive.is at c.in-Ok-Arrive.field-0-is in
    let same : c.args.asked ≡ Ok (Arrive c.in-Ok-Arrive.event) = c.in-Ok-Arrive.is ∙ ap Ok arm in
    on_ok_weaker c.take.result (λ put h stands.
    subst (λ (a : Asked). IsAnswered p.tasks p.cycle c.args.number h a (see s) (see c.take.new.streams)) (sym same)
    (answer_text p.tasks p.cycle h (Ok (Arrive c.in-Ok-Arrive.event)), refl, put h stands)) c.take.ensures.put

pub returns-in-Ok-Arrive-clause-part : goal.returns-in-Ok-Arrive-clause-part
returns-in-Ok-Arrive-clause-part g c =
    let p = c.args.exec.now.plan in
    let s = c.args.streams.now in
    let see = seen g.K.Sink.written g.K.Sink.faults g.R.RecordFile.written g.R.RecordFile.faults g.E.Sink.written g.E.Sink.faults in
    let arm : c.in-Ok-Arrive.field-0 ≡ Arrive c.in-Ok-Arrive.event = rw c.in-Ok-Arrive.is at c.in-Ok-Arrive.field-0-is in
    let same : c.args.asked ≡ Ok (Arrive c.in-Ok-Arrive.event) = c.in-Ok-Arrive.is ∙ ap Ok arm in
    IfErr-weaker c.take.result
    (λ fault. (h : History) → StandsFor c.args.exec.now h → ArePutInPart fault (see s) (see c.take.new.streams) (exchange_texts p.tasks p.cycle 0 h (Ok (Arrive c.in-Ok-Arrive.event))))
    (λ fault. (h : History) → StandsFor c.args.exec.now h → IsAnsweredInPart p.tasks p.cycle c.args.number fault h c.args.asked (see s) (see c.take.new.streams))
    (λ fault part h stands. subst (λ (a : Asked). IsAnsweredInPart p.tasks p.cycle c.args.number fault h a (see s) (see c.take.new.streams)) (sym same)
    (answer_text p.tasks p.cycle h (Ok (Arrive c.in-Ok-Arrive.event)), refl, part h stands))
    c.take.ensures.part

pub returns-in-Ok-Pass-clause-put : goal.returns-in-Ok-Pass-clause-put
returns-in-Ok-Pass-clause-put g c =
    let p = c.args.exec.now.plan in
    let s = c.args.streams.now in
    let see = seen g.K.Sink.written g.K.Sink.faults g.R.RecordFile.written g.R.RecordFile.faults g.E.Sink.written g.E.Sink.faults in
    let arm : c.in-Ok-Pass.field-0 ≡ Pass c.in-Ok-Pass.slots = rw c.in-Ok-Pass.is at c.in-Ok-Pass.field-0-is in
    let same : c.args.asked ≡ Ok (Pass c.in-Ok-Pass.slots) = c.in-Ok-Pass.is ∙ ap Ok arm in
    let after = see (record s { answers = c.pass.new.out }) in
    on_ok_weaker c.pass.result (λ put h stands.
    subst (λ (a : Asked). IsAnswered p.tasks p.cycle c.args.number h a (see s) after) (sym same)
    (answer_text p.tasks p.cycle h (Ok (Pass c.in-Ok-Pass.slots)), refl, ArePut-lines (see s) (g.K.Sink.written c.pass.new.out) (g.K.Sink.faults c.pass.new.out) (answer_text p.tasks p.cycle h (Ok (Pass c.in-Ok-Pass.slots))) (put h stands) c.pass.ensures.counted)) c.pass.ensures.put

pub returns-in-Ok-Pass-clause-part : goal.returns-in-Ok-Pass-clause-part
returns-in-Ok-Pass-clause-part g c =
    let p = c.args.exec.now.plan in
    let s = c.args.streams.now in
    let see = seen g.K.Sink.written g.K.Sink.faults g.R.RecordFile.written g.R.RecordFile.faults g.E.Sink.written g.E.Sink.faults in
    let arm : c.in-Ok-Pass.field-0 ≡ Pass c.in-Ok-Pass.slots = rw c.in-Ok-Pass.is at c.in-Ok-Pass.field-0-is in
    let same : c.args.asked ≡ Ok (Pass c.in-Ok-Pass.slots) = c.in-Ok-Pass.is ∙ ap Ok arm in
    let after = see (record s { answers = c.pass.new.out }) in
    at-output c.pass.result (λ fault. (h : History) → StandsFor c.args.exec.now h → IsAnsweredInPart p.tasks p.cycle c.args.number fault h c.args.asked (see s) after) c.pass.ensures.part c.pass.ensures.failed c.pass.ensures.fault (λ fault is part failed h stands.
    subst (λ (a : Asked). IsAnsweredInPart p.tasks p.cycle c.args.number fault h a (see s) after) (sym same)
    (answer_text p.tasks p.cycle h (Ok (Pass c.in-Ok-Pass.slots)), refl, ArePutInPart-lines fault (see s) (g.K.Sink.written c.pass.new.out) (g.K.Sink.faults c.pass.new.out) (answer_text p.tasks p.cycle h (Ok (Pass c.in-Ok-Pass.slots))) is (part h stands) c.pass.ensures.counted failed))

pub returns-in-Ok-Ahead-clause-put : goal.returns-in-Ok-Ahead-clause-put
returns-in-Ok-Ahead-clause-put g c =
    let p = c.args.exec.now.plan in
    let s = c.args.streams.now in
    let see = seen g.K.Sink.written g.K.Sink.faults g.R.RecordFile.written g.R.RecordFile.faults g.E.Sink.written g.E.Sink.faults in
    let arm : c.in-Ok-Ahead.field-0 ≡ Ahead c.in-Ok-Ahead.most = rw c.in-Ok-Ahead.is at c.in-Ok-Ahead.field-0-is in
    let same : c.args.asked ≡ Ok (Ahead c.in-Ok-Ahead.most) = c.in-Ok-Ahead.is ∙ ap Ok arm in
    let after = see (record s { answers = c.look.new.out }) in
    on_ok_weaker c.look.result (λ put h stands.
    let (text, tells, own) = put h stands in
    subst (λ (a : Asked). IsAnswered p.tasks p.cycle c.args.number h a (see s) after) (sym same)
    (text, tells, ArePut-lines (see s) (g.K.Sink.written c.look.new.out) (g.K.Sink.faults c.look.new.out) text own c.look.ensures.counted)) c.look.ensures.put

pub returns-in-Ok-Ahead-clause-part : goal.returns-in-Ok-Ahead-clause-part
returns-in-Ok-Ahead-clause-part g c =
    let p = c.args.exec.now.plan in
    let s = c.args.streams.now in
    let see = seen g.K.Sink.written g.K.Sink.faults g.R.RecordFile.written g.R.RecordFile.faults g.E.Sink.written g.E.Sink.faults in
    let arm : c.in-Ok-Ahead.field-0 ≡ Ahead c.in-Ok-Ahead.most = rw c.in-Ok-Ahead.is at c.in-Ok-Ahead.field-0-is in
    let same : c.args.asked ≡ Ok (Ahead c.in-Ok-Ahead.most) = c.in-Ok-Ahead.is ∙ ap Ok arm in
    let after = see (record s { answers = c.look.new.out }) in
    at-output c.look.result (λ fault. (h : History) → StandsFor c.args.exec.now h → IsAnsweredInPart p.tasks p.cycle c.args.number fault h c.args.asked (see s) after) c.look.ensures.part c.look.ensures.failed c.look.ensures.fault (λ fault is part failed h stands.
    let (text, tells, own) = part h stands in
    subst (λ (a : Asked). IsAnsweredInPart p.tasks p.cycle c.args.number fault h a (see s) after) (sym same)
    (text, tells, ArePutInPart-lines fault (see s) (g.K.Sink.written c.look.new.out) (g.K.Sink.faults c.look.new.out) text is own c.look.ensures.counted failed))

pub returns-in-Ok-Carried-clause-put : goal.returns-in-Ok-Carried-clause-put
returns-in-Ok-Carried-clause-put g c =
    let p = c.args.exec.now.plan in
    let s = c.args.streams.now in
    let see = seen g.K.Sink.written g.K.Sink.faults g.R.RecordFile.written g.R.RecordFile.faults g.E.Sink.written g.E.Sink.faults in
    let arm : c.in-Ok-Carried.field-0 ≡ Carried c.in-Ok-Carried.keep = rw c.in-Ok-Carried.is at c.in-Ok-Carried.field-0-is in
    let same : c.args.asked ≡ Ok (Carried c.in-Ok-Carried.keep) = c.in-Ok-Carried.is ∙ ap Ok arm in
    let after = see (record s { answers = c.tell_carried.new.out }) in
    on_ok_weaker c.tell_carried.result (λ put h stands.
    subst (λ (a : Asked). IsAnswered p.tasks p.cycle c.args.number h a (see s) after) (sym same)
    (answer_text p.tasks p.cycle h (Ok (Carried c.in-Ok-Carried.keep)), refl, ArePut-lines (see s) (g.K.Sink.written c.tell_carried.new.out) (g.K.Sink.faults c.tell_carried.new.out) (answer_text p.tasks p.cycle h (Ok (Carried c.in-Ok-Carried.keep))) (put h stands) c.tell_carried.ensures.counted)) c.tell_carried.ensures.put

pub returns-in-Ok-Carried-clause-part : goal.returns-in-Ok-Carried-clause-part
returns-in-Ok-Carried-clause-part g c =
    let p = c.args.exec.now.plan in
    let s = c.args.streams.now in
    let see = seen g.K.Sink.written g.K.Sink.faults g.R.RecordFile.written g.R.RecordFile.faults g.E.Sink.written g.E.Sink.faults in
    let arm : c.in-Ok-Carried.field-0 ≡ Carried c.in-Ok-Carried.keep = rw c.in-Ok-Carried.is at c.in-Ok-Carried.field-0-is in
    let same : c.args.asked ≡ Ok (Carried c.in-Ok-Carried.keep) = c.in-Ok-Carried.is ∙ ap Ok arm in
    let after = see (record s { answers = c.tell_carried.new.out }) in
    at-output c.tell_carried.result (λ fault. (h : History) → StandsFor c.args.exec.now h → IsAnsweredInPart p.tasks p.cycle c.args.number fault h c.args.asked (see s) after) c.tell_carried.ensures.part c.tell_carried.ensures.failed c.tell_carried.ensures.fault (λ fault is part failed h stands.
    subst (λ (a : Asked). IsAnsweredInPart p.tasks p.cycle c.args.number fault h a (see s) after) (sym same)
    (answer_text p.tasks p.cycle h (Ok (Carried c.in-Ok-Carried.keep)), refl, ArePutInPart-lines fault (see s) (g.K.Sink.written c.tell_carried.new.out) (g.K.Sink.faults c.tell_carried.new.out) (answer_text p.tasks p.cycle h (Ok (Carried c.in-Ok-Carried.keep))) is (part h stands) c.tell_carried.ensures.counted failed))

pub returns-in-Ok-End-clause-put : goal.returns-in-Ok-End-clause-put
returns-in-Ok-End-clause-put g c =
    let p = c.args.exec.now.plan in
    let s = c.args.streams.now in
    let see = seen g.K.Sink.written g.K.Sink.faults g.R.RecordFile.written g.R.RecordFile.faults g.E.Sink.written g.E.Sink.faults in
    let arm : c.in-Ok-End.field-0 ≡ End = rw c.in-Ok-End.is at c.in-Ok-End.field-0-is in
    let same : c.args.asked ≡ Ok (End) = c.in-Ok-End.is ∙ ap Ok arm in
    let after = see (record s { answers = c.put_end.new.out }) in
    on_ok_weaker c.put_end.result (λ put h stands.
    let own = subst (λ t. Appends (g.K.Sink.written s.answers) (g.K.Sink.written c.put_end.new.out) (entry_line p.tasks (end_entry t))) stands.same.time put in
    subst (λ (a : Asked). IsAnswered p.tasks p.cycle c.args.number h a (see s) after) (sym same)
    (answer_text p.tasks p.cycle h (Ok End), refl, ArePut-lines (see s) (g.K.Sink.written c.put_end.new.out) (g.K.Sink.faults c.put_end.new.out) (answer_text p.tasks p.cycle h (Ok End)) own c.put_end.ensures.counted)) c.put_end.ensures.put

pub returns-in-Ok-End-clause-part : goal.returns-in-Ok-End-clause-part
returns-in-Ok-End-clause-part g c =
    let p = c.args.exec.now.plan in
    let s = c.args.streams.now in
    let see = seen g.K.Sink.written g.K.Sink.faults g.R.RecordFile.written g.R.RecordFile.faults g.E.Sink.written g.E.Sink.faults in
    let arm : c.in-Ok-End.field-0 ≡ End = rw c.in-Ok-End.is at c.in-Ok-End.field-0-is in
    let same : c.args.asked ≡ Ok (End) = c.in-Ok-End.is ∙ ap Ok arm in
    let after = see (record s { answers = c.put_end.new.out }) in
    at-output c.put_end.result (λ fault. (h : History) → StandsFor c.args.exec.now h → IsAnsweredInPart p.tasks p.cycle c.args.number fault h c.args.asked (see s) after) c.put_end.ensures.part c.put_end.ensures.failed c.put_end.ensures.fault (λ fault is part failed h stands.
    let own = subst (λ t. AppendsPart (g.K.Sink.written s.answers) (g.K.Sink.written c.put_end.new.out) (entry_line p.tasks (end_entry t))) stands.same.time part in
    subst (λ (a : Asked). IsAnsweredInPart p.tasks p.cycle c.args.number fault h a (see s) after) (sym same)
    (answer_text p.tasks p.cycle h (Ok End), refl, ArePutInPart-lines fault (see s) (g.K.Sink.written c.put_end.new.out) (g.K.Sink.faults c.put_end.new.out) (answer_text p.tasks p.cycle h (Ok End)) is own c.put_end.ensures.counted failed))

pub returns-in-Err-clause-put : goal.returns-in-Err-clause-put
returns-in-Err-clause-put g c =
    let p = c.args.exec.now.plan in
    let see = seen g.K.Sink.written g.K.Sink.faults g.R.RecordFile.written g.R.RecordFile.faults g.E.Sink.written g.E.Sink.faults in
    let same : c.args.asked ≡ Err c.in-Err.fault = c.in-Err.is in
    on_ok_weaker c.refuse.result (λ put h stands.
    subst (λ (a : Asked). IsAnswered p.tasks p.cycle c.args.number h a (see c.args.streams.now) (see c.refuse.new.streams)) (sym same)
    (answer_text p.tasks p.cycle h (Err c.in-Err.fault), refl, put p.tasks p.cycle h)) c.refuse.ensures.put

pub returns-in-Err-clause-part : goal.returns-in-Err-clause-part
returns-in-Err-clause-part g c =
    let p = c.args.exec.now.plan in
    let see = seen g.K.Sink.written g.K.Sink.faults g.R.RecordFile.written g.R.RecordFile.faults g.E.Sink.written g.E.Sink.faults in
    let same : c.args.asked ≡ Err c.in-Err.fault = c.in-Err.is in
    IfErr-weaker c.refuse.result
    (λ fault. (set : TaskSet) (cycle : ℕ) (h : History) → ArePutInPart fault (see c.args.streams.now) (see c.refuse.new.streams) (exchange_texts set cycle c.args.number h (Err c.in-Err.fault)))
    (λ fault. (h : History) → StandsFor c.args.exec.now h → IsAnsweredInPart p.tasks p.cycle c.args.number fault h c.args.asked (see c.args.streams.now) (see c.refuse.new.streams))
    (λ fault part h stands. subst (λ (a : Asked). IsAnsweredInPart p.tasks p.cycle c.args.number fault h a (see c.args.streams.now) (see c.refuse.new.streams)) (sym same)
    (answer_text p.tasks p.cycle h (Err c.in-Err.fault), refl, part p.tasks p.cycle h))
    c.refuse.ensures.part
