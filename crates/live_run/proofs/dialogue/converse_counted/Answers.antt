-- What is heard is answered one by one.
use Rattle.std.proofs.Common.{◌≡◌, ◌+◌, [], ◌∷◌, ◌++◌, length, length-append, Err, inr, refl, sym, ap, ◌∙◌, subst, append-nil, arith, rules}
use Rattle.std.specs.Io.KnownBytes.{Appends}
use Rattle.slot_core.specs.Keeping.Executives.{StandsFor}
use Rattle.slot_core.specs.Keeping.Plans.{PlanParts}
use Rattle.slot_core.specs.Runs.Histories.{History}
use Rattle.slot_core.specs.Runs.Traces.{started}
use Rattle.slot_io.specs.Sinks.{AppendsPart}
use Rattle.live_lines.specs.Lines.{Heard, heard}
use Rattle.live_run.specs.Dialogues.{asked, history_heard, next_history, start_text, is_end, asks_end}
use Rattle.live_run.specs.Streams.{seen, AreAnswered, IsAnswered, IsAnsweredInPart, IsBroken}
use Rattle.live_run.proofs.DialogueLemmas.{turn-put, turn-part, turn-history, IsBroken-at_start, IsBroken-in_answer, end-asked, GoesOn-more, IsOver-now}
use Rattle.live_run.proofs.StreamLemmas.{ArePut-lines, ArePutInPart-lines, at-fault}
use Rattle.live_run.proofs.dialogue.converse_counted.Given.{Over}
use Rattle.live_run.proofs.dialogue.converse_counted.Goals as goal
use Rattle.live_run.proofs.dialogue.converse_counted.Goals.{After-answer}

pub loop-heard-init : goal.loop-heard-init
loop-heard-init g c =
    let p = c.args.exec.now.plan in
    let s = c.args.streams.now in
    let start = start_text p.tasks p.cycle in
    let told = subst (Appends (g.K.Sink.written s.answers) (g.K.Sink.written c.put_entry.new.out)) (sym (append-nil start)) (c.in_ok-put_entry.ensures.put started c.requires.started) in
    record {
      heards = [];
      gave = g.met.S.LineSource.gave_none c.args.source.now;
      goes_on = refl;
      count = refl;
      stands = c.requires.started;
      plan = refl;
      places = refl;
      same = refl;
      misread = omega arith;
      put = ([], tt, ArePut-lines (seen g.K.Sink.written g.K.Sink.faults g.R.RecordFile.written g.R.RecordFile.faults g.E.Sink.written g.E.Sink.faults s) (g.K.Sink.written c.put_entry.new.out) (g.K.Sink.faults c.put_entry.new.out) (start ++ []) told c.in_ok-put_entry.ensures.counted);
    }

pub returns-in_err-put_entry-clause-broken : goal.returns-in_err-put_entry-clause-broken
returns-in_err-put_entry-clause-broken g c =
    let p = c.args.exec.now.plan in
    let s = c.args.streams.now in
    let see = seen g.K.Sink.written g.K.Sink.faults g.R.RecordFile.written g.R.RecordFile.faults g.E.Sink.written g.E.Sink.faults in
    let start = start_text p.tasks p.cycle in
    let source = c.args.source.now in
    let after = see (record s { answers = c.put_entry.new.out }) in
    let fault = c.in_err-put_entry.field-0.0 in
    let told = subst (AppendsPart (g.K.Sink.written s.answers) (g.K.Sink.written c.put_entry.new.out)) (sym (append-nil start)) (c.in_err-put_entry.ensures.part started c.requires.started) in
    let same : c.from_residual.result ≡ Err fault = search rules in
    at-fault c.from_residual.result fault (λ fault. IsBroken g.S.LineSource.gave g.S.LineSource.broke g.S.LineSource.faults p.tasks p.cycle fault source source (see s) after) same
    (IsBroken-at_start g.S.LineSource.gave g.S.LineSource.broke g.S.LineSource.faults p.tasks p.cycle fault source source (see s) after
    (record {
      gave = g.met.S.LineSource.gave_none source;
      part = ArePutInPart-lines fault (see s) (g.K.Sink.written c.put_entry.new.out) (g.K.Sink.faults c.put_entry.new.out) (start ++ []) c.in_err-put_entry.ensures.fault told c.in_err-put_entry.ensures.counted c.in_err-put_entry.ensures.failed;
    }))

-- the history before the answer
abbrev before : (g : Over) (c : After-answer g) → History
before g c =
    history_heard c.args.exec.now.plan.tasks c.args.exec.now.plan.cycle started c.loop-heard.invariant.heards

-- what is heard
abbrev now_heard : (g : Over) (c : After-answer g) → Heard
now_heard g c = heard c.in_ok-given.given (g.S.LineSource.last c.hear.new.source)

-- what is asked for is what the definitions ask
is_asked : (g : Over) (c : After-answer g) → c.asked_now-asked.result ≡ asked c.args.exec.now.plan.tasks (before g c) (now_heard g c)
is_asked g c =
    subst (λ (p : PlanParts). c.asked_now-asked.result ≡ asked p.tasks (before g c) (now_heard g c)) c.loop-heard.invariant.plan (c.asked_now-asked.ensures.asked (before g c) c.loop-heard.invariant.stands)

-- the source gave that, too
all_gave : (g : Over) (c : After-answer g) → g.S.LineSource.gave c.args.source.now c.hear.new.source (c.loop-heard.invariant.heards ++ now_heard g c ∷ [])
all_gave g c =
    g.met.S.LineSource.gave_more c.args.source.now c.loop-heard.source c.hear.new.source c.loop-heard.invariant.heards (now_heard g c ∷ []) c.loop-heard.invariant.gave c.in_ok-given.ensures.gives

-- its number
number : (g : Over) (c : After-answer g) → c.loop-heard.heard + 1 ≡ length c.loop-heard.invariant.heards + 1
number g c = omega (arith, c.loop-heard.invariant.count)

pub returns-in_err-answer-clause-broken : goal.returns-in_err-answer-clause-broken
returns-in_err-answer-clause-broken g c =
    let o = (goal.at.returns-in_err-answer-clause-broken g c).After-answer in
    let p = c.args.exec.now.plan in
    let inv = c.loop-heard.invariant in
    let see = seen g.K.Sink.written g.K.Sink.faults g.R.RecordFile.written g.R.RecordFile.faults g.E.Sink.written g.E.Sink.faults in
    let fault = c.in_err-answer.field-0.0 in
    let part = subst (λ (q : PlanParts). IsAnsweredInPart q.tasks q.cycle (c.loop-heard.heard + 1) fault (before g o) c.asked_now-asked.result (see c.loop-heard.streams) (see c.answer.new.streams)) inv.plan (c.in_err-answer.ensures.part (before g o) inv.stands) in
    let same : c.from_residual-in_err-answer.result ≡ Err fault = search rules in
    at-fault c.from_residual-in_err-answer.result fault (λ fault. IsBroken g.S.LineSource.gave g.S.LineSource.broke g.S.LineSource.faults p.tasks p.cycle fault c.args.source.now c.hear.new.source (see c.args.streams.now) (see c.answer.new.streams)) same
    (IsBroken-in_answer g.S.LineSource.gave g.S.LineSource.broke g.S.LineSource.faults p.tasks p.cycle fault c.args.source.now c.hear.new.source (see c.args.streams.now) (see c.answer.new.streams)
    (record {
      first = inv.heards;
      last = now_heard g o;
      gave = all_gave g o;
      goes_on = inv.goes_on;
      between = see c.loop-heard.streams;
      put = inv.put;
      part = turn-part p.tasks p.cycle (c.loop-heard.heard + 1) fault (see c.loop-heard.streams) (see c.answer.new.streams) inv.heards (now_heard g o) c.asked_now-asked.result (number g o) (is_asked g o) part;
    }))

-- with the answer all is answered
all_put : (g : Over) (c : After-answer g) → IsAnswered c.loop-heard.exec.plan.tasks c.loop-heard.exec.plan.cycle (c.loop-heard.heard + 1) (before g c) c.asked_now-asked.result (seen g.K.Sink.written g.K.Sink.faults g.R.RecordFile.written g.R.RecordFile.faults g.E.Sink.written g.E.Sink.faults c.loop-heard.streams) (seen g.K.Sink.written g.K.Sink.faults g.R.RecordFile.written g.R.RecordFile.faults g.E.Sink.written g.E.Sink.faults c.answer.new.streams) → AreAnswered c.args.exec.now.plan.tasks c.args.exec.now.plan.cycle (c.loop-heard.invariant.heards ++ now_heard g c ∷ []) (seen g.K.Sink.written g.K.Sink.faults g.R.RecordFile.written g.R.RecordFile.faults g.E.Sink.written g.E.Sink.faults c.args.streams.now) (seen g.K.Sink.written g.K.Sink.faults g.R.RecordFile.written g.R.RecordFile.faults g.E.Sink.written g.E.Sink.faults c.answer.new.streams)
all_put g c put =
    let p = c.args.exec.now.plan in
    let inv = c.loop-heard.invariant in
    let see = seen g.K.Sink.written g.K.Sink.faults g.R.RecordFile.written g.R.RecordFile.faults g.E.Sink.written g.E.Sink.faults in
    let told = subst (λ (q : PlanParts). IsAnswered q.tasks q.cycle (c.loop-heard.heard + 1) (before g c) c.asked_now-asked.result (see c.loop-heard.streams) (see c.answer.new.streams)) inv.plan put in
    turn-put p.tasks p.cycle (c.loop-heard.heard + 1) (see c.args.streams.now) (see c.loop-heard.streams) (see c.answer.new.streams) inv.heards (now_heard g c) c.asked_now-asked.result (number g c) (is_asked g c) inv.put told

-- whether it asks for the end
ends_as : (g : Over) (c : After-answer g) → is_end c.asked_now-asked.result ≡ asks_end c.args.exec.now.plan.tasks (now_heard g c)
ends_as g c =
    ap is_end (is_asked g c) ∙ end-asked c.args.exec.now.plan.tasks (before g c) (now_heard g c)

pub returns-then-is_end-clause-over : goal.returns-then-is_end-clause-over
returns-then-is_end-clause-over g c =
    let o = (goal.at.returns-then-is_end-clause-over g c).After-answer in
    let p = c.args.exec.now.plan in
    let inv = c.loop-heard.invariant in
    record {
      heards = inv.heards ++ now_heard g o ∷ [];
      gave = all_gave g o;
      over = IsOver-now p.tasks inv.heards (now_heard g o) inv.goes_on (sym (ends_as g o) ∙ (sym c.is_end.ensures ∙ c.if-is_end.true));
      put = all_put g o (c.in_ok-answer.ensures.put (before g o) inv.stands);
    }

pub loop-heard-preserved : goal.loop-heard-preserved
loop-heard-preserved g c =
    let o = (goal.at.loop-heard-preserved g c).After-answer in
    let p = c.args.exec.now.plan in
    let inv = c.loop-heard.invariant in
    let stands = subst (λ (q : PlanParts). StandsFor c.answer.new.exec (next_history q.tasks q.cycle (before g o) c.asked_now-asked.result)) inv.plan (c.in_ok-answer.ensures.stands (before g o) inv.stands) in
    record {
      heards = inv.heards ++ now_heard g o ∷ [];
      gave = all_gave g o;
      goes_on = GoesOn-more p.tasks inv.heards (now_heard g o) inv.goes_on (sym (ends_as g o) ∙ (sym c.is_end.ensures ∙ c.if-is_end.false));
      count = omega (arith, length-append inv.heards (now_heard g o ∷ []), inv.count);
      stands = subst (StandsFor c.answer.new.exec) (turn-history p.tasks p.cycle inv.heards (now_heard g o) c.asked_now-asked.result (is_asked g o)) stands;
      plan = c.in_ok-answer.ensures.plan ∙ inv.plan;
      places = c.answer.ensures.places ∙ inv.places;
      same = c.in_ok-answer.ensures.same ∙ inv.same;
      misread = omega (arith, inv.misread, c.hear.ensures.counted);
      put = all_put g o (c.in_ok-answer.ensures.put (before g o) inv.stands);
    }

pub returns-clause-broken : goal.returns-clause-broken
returns-clause-broken g c =
    let inv = c.loop-heard.invariant in
    (c.loop-heard.source, record { heards = inv.heards; gave = inv.gave; goes_on = inv.goes_on; put = inv.put }, inr (omega (arith, inv.count, c.loop-heard-test.false, c.loop-heard.auto.heard-end), refl))
