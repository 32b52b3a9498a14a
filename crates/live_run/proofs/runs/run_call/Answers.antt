-- Memory runs out before the work.
use Rattle.std.proofs.Common.{[], Err, inr, refl, subst}
use Rattle.command_line.specs.declared.refusal.Refusal.TheVariants.{Memory}
use Rattle.live_run.specs.Streams.{seen}
use Rattle.live_run.specs.declared.refusal.LiveRefusal.{LiveRefusal}
use Rattle.live_run.specs.declared.refusal.LiveRefusal.TheVariants.{Run}
use Rattle.live_run.specs.Calls.{plan_words}
use Rattle.live_run.specs.Runs.{IsStatusTold}
use Rattle.live_run.proofs.RunLemmas.{memory-named}
use Rattle.live_run.proofs.runs.run_call.Goals as goal

pub returns-in-Err-clause-whole : goal.returns-in-Err-clause-whole
returns-in-Err-clause-whole g c =
    let s = c.args.streams.now in
    let words = c.args.words.now in
    let e = g.E.Sink in
    let told = subst (λ (r : LiveRefusal). IsStatusTold words [] r (e.written s.faults) (e.written c.tell_unnamed.new.err) (e.faults s.faults) (e.faults c.tell_unnamed.new.err) c.tell_unnamed.result) c.from.ensures c.tell_unnamed.ensures.told in
    record {
      outcome = Err (Run Memory);
      ended = seen g.K.Sink.written g.K.Sink.faults g.R.RecordFile.written g.R.RecordFile.faults g.E.Sink.written g.E.Sink.faults s;
      works = inr (refl, refl, refl, refl);
      ends = (memory-named words (plan_words words c.args.call) (e.written s.faults) (e.written c.tell_unnamed.new.err) (e.faults s.faults) (e.faults c.tell_unnamed.new.err) c.tell_unnamed.result told, refl);
    }
