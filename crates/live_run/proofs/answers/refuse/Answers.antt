-- The fault is told, and a part of the answer is put.
use Rattle.std.proofs.Common.{Err, ℕ, subst, sym, arith}
use Rattle.std.proofs.KnownBytes.{Appends-nil}
use Rattle.slot_core.specs.declared.tasks.TaskSet.{TaskSet}
use Rattle.slot_core.specs.Runs.Histories.{History}
use Rattle.live_run.specs.declared.streams.DialogueFault.{DialogueFault}
use Rattle.live_run.specs.Streams.{exchange_texts, seen, ArePutInPart, BreaksAt, BreaksInAnswer}
use Rattle.live_run.proofs.StreamLemmas.{at-output}
use Rattle.live_run.proofs.answers.refuse.Goals as goal

pub returns-clause-part : goal.returns-clause-part
returns-clause-part g c =
    let s = c.args.streams.now in
    let see = seen g.K.Sink.written g.K.Sink.faults g.R.RecordFile.written g.R.RecordFile.faults g.E.Sink.written g.E.Sink.faults in
    let after = see (record s { answers = c.put_answer.new.out; faults = c.put_fault.new.err }) in
    at-output c.put_answer.result (λ fault. (set : TaskSet) (cycle : ℕ) (h : History) → ArePutInPart fault (see s) after (exchange_texts set cycle c.args.number h (Err c.args.fault))) c.put_answer.ensures.part c.put_answer.ensures.failed c.put_answer.ensures.fault (λ fault is part failed set cycle h.
    let texts = exchange_texts set cycle c.args.number h (Err c.args.fault) in
    let breaks : BreaksInAnswer (see s) after texts = record { rows = Appends-nil (g.R.RecordFile.written s.rows); answers = part; failed = failed } in
    record {
      breaks = subst (λ (f : DialogueFault). BreaksAt f (see s) after texts) (sym is) breaks;
      faults = c.put_fault.ensures.told;
      counted = record { answers = c.put_answer.ensures.counted; rows = omega arith; faults = c.put_fault.ensures.counted };
    })
