-- The row of the arrival is put, and then the line of its answer.
use Rattle.std.proofs.Common.{◌≡◌, ◌+◌, Ok, Err, subst, ◌∙◌, rules}
use Rattle.std.proofs.lemmas.Result.{on_ok_weaker}
use Rattle.std.specs.Io.KnownBytes.{Appends}
use Rattle.slot_core.specs.Keeping.Executives.{StandsFor}
use Rattle.slot_core.specs.Runs.Histories.{History}
use Rattle.slot_io.specs.Sinks.{AppendsPart}
use Rattle.slot_io.proofs.SinkParts.{OnOk-anyhow}
use Rattle.live_lines.specs.Rows.{record_text}
use Rattle.live_lines.specs.declared.commands.LiveCommand.TheVariants.{Arrive}
use Rattle.live_run.specs.Dialogues.{answer_text, arrival_made}
use Rattle.live_run.specs.Streams.{exchange_texts, seen, ArePutInPart}
use Rattle.live_run.proofs.DialogueLemmas.{arrival-text, arrival-history, row-text}
use Rattle.live_run.proofs.StreamLemmas.{ArePut-row, ArePutInPart-answer, ArePutInPart-row, at-fault, at-output}
use Rattle.live_run.proofs.answers.take.Goals as goal

pub returns-in_err-put_row-clause-part : goal.returns-in_err-put_row-clause-part
returns-in_err-put_row-clause-part g c =
    let p = c.args.exec.now.plan in
    let s = c.args.streams.now in
    let see = seen g.K.Sink.written g.K.Sink.faults g.R.RecordFile.written g.R.RecordFile.faults g.E.Sink.written g.E.Sink.faults in
    let fault = c.in_err-put_row.field-0.0 in
    let same : c.from_residual.result ≡ Err fault = search rules in
    at-fault c.from_residual.result fault (λ fault. (h : History) → StandsFor c.args.exec.now h → ArePutInPart fault (see s) (see (record s { rows = c.put_row.new.rows })) (exchange_texts p.tasks p.cycle 0 h (Ok (Arrive c.args.event)))) same (λ h stands.
    let answer = answer_text p.tasks p.cycle h (Ok (Arrive c.args.event)) in
    let row = record_text p.tasks (arrival_made h (Ok (Arrive c.args.event))) in
    let now = c.now.ensures.time ∙ stands.same.time in
    let part = subst (AppendsPart (g.R.RecordFile.written s.rows) (g.R.RecordFile.written c.put_row.new.rows)) (row-text p.tasks c.tasks.result.now (c.last_row.result + 1) c.now.result h c.args.event c.tasks.ensures.tasks now) c.in_err-put_row.ensures.part in
    ArePutInPart-row fault (see s) (g.R.RecordFile.written c.put_row.new.rows) (g.R.RecordFile.faults c.put_row.new.rows) answer row c.in_err-put_row.ensures.fault part c.in_err-put_row.ensures.counted c.in_err-put_row.ensures.failed)

pub returns-clause-put : goal.returns-clause-put
returns-clause-put g c = on_ok_weaker c.put_arrival.result (λ put h stands.
    let p = c.args.exec.now.plan in
    let s = c.args.streams.now in
    let see = seen g.K.Sink.written g.K.Sink.faults g.R.RecordFile.written g.R.RecordFile.faults g.E.Sink.written g.E.Sink.faults in
    let answer = answer_text p.tasks p.cycle h (Ok (Arrive c.args.event)) in
    let row = record_text p.tasks (arrival_made h (Ok (Arrive c.args.event))) in
    let now = c.now.ensures.time ∙ stands.same.time in
    let last = c.last_row.ensures ∙ stands.last in
    let kept = subst (Appends (g.R.RecordFile.written s.rows) (g.R.RecordFile.written c.put_row.new.rows)) (row-text p.tasks c.tasks.result.now (c.last_row.result + 1) c.now.result h c.args.event c.tasks.ensures.tasks now) c.in_ok-put_row.ensures.put in
    let told = subst (Appends (g.K.Sink.written s.answers) (g.K.Sink.written c.put_arrival.new.out)) (arrival-text p.tasks p.cycle c.last_row.result h c.args.event last) (put h stands) in
    ArePut-row (see s) (g.K.Sink.written c.put_arrival.new.out) (g.R.RecordFile.written c.put_row.new.rows) (g.K.Sink.faults c.put_arrival.new.out) (g.R.RecordFile.faults c.put_row.new.rows) answer row told kept c.put_arrival.ensures.counted c.in_ok-put_row.ensures.counted) c.put_arrival.ensures.put

pub returns-clause-part : goal.returns-clause-part
returns-clause-part g c =
    let p = c.args.exec.now.plan in
    let s = c.args.streams.now in
    let see = seen g.K.Sink.written g.K.Sink.faults g.R.RecordFile.written g.R.RecordFile.faults g.E.Sink.written g.E.Sink.faults in
    at-output c.put_arrival.result (λ fault. (h : History) → StandsFor c.args.exec.now h → ArePutInPart fault (see s) (see (record s { answers = c.put_arrival.new.out; rows = c.put_row.new.rows })) (exchange_texts p.tasks p.cycle 0 h (Ok (Arrive c.args.event)))) c.put_arrival.ensures.part c.put_arrival.ensures.failed c.put_arrival.ensures.fault (λ fault is part failed h stands.
    let answer = answer_text p.tasks p.cycle h (Ok (Arrive c.args.event)) in
    let row = record_text p.tasks (arrival_made h (Ok (Arrive c.args.event))) in
    let now = c.now.ensures.time ∙ stands.same.time in
    let last = c.last_row.ensures ∙ stands.last in
    let kept = subst (Appends (g.R.RecordFile.written s.rows) (g.R.RecordFile.written c.put_row.new.rows)) (row-text p.tasks c.tasks.result.now (c.last_row.result + 1) c.now.result h c.args.event c.tasks.ensures.tasks now) c.in_ok-put_row.ensures.put in
    let told = subst (AppendsPart (g.K.Sink.written s.answers) (g.K.Sink.written c.put_arrival.new.out)) (arrival-text p.tasks p.cycle c.last_row.result h c.args.event last) (part h stands) in
    ArePutInPart-answer fault (see s) (g.K.Sink.written c.put_arrival.new.out) (g.R.RecordFile.written c.put_row.new.rows) (g.K.Sink.faults c.put_arrival.new.out) (g.R.RecordFile.faults c.put_row.new.rows) answer row is told kept c.put_arrival.ensures.counted c.in_ok-put_row.ensures.counted failed)

pub returns-clause-stands : goal.returns-clause-stands
returns-clause-stands g c = OnOk-anyhow c.put_arrival.result (λ h stands.
    let p = c.args.exec.now.plan in
    let last = c.last_row.ensures ∙ stands.last in
    subst (StandsFor c.put_arrival.new.exec) (arrival-history p.tasks p.cycle c.last_row.result h c.args.event last) (c.put_arrival.ensures.stands h stands))
