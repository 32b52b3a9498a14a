-- The entry that is put is that of the slot.
use Rattle.std.proofs.Common.{◌∷◌, subst}
use Rattle.std.proofs.lemmas.Result.{on_ok_weaker, on_err_weaker}
use Rattle.std.specs.Io.KnownBytes.{Appends}
use Rattle.slot_core.specs.Runs.Traces.{slot}
use Rattle.slot_io.specs.Sinks.{AppendsPart}
use Rattle.arrival_replay.proofs.Happenings.{stands-told}
use Rattle.live_run.proofs.Lines.{text-told, time-passed, passed-named}
use Rattle.live_run.proofs.answers.put_slot.Goals as goal

pub put_entry-requires : goal.put_entry-requires
put_entry-requires g c =
    record {
      named = passed-named c.args.exec.now c.happen-what.new.exec c.happen-what.result c.now-time.ensures.kept.plan c.happen-what.ensures.does;
    }

pub returns-clause-put : goal.returns-clause-put
returns-clause-put g c =
    let what = c.happen-what.result in
    let does = c.happen-what.ensures.does in
    on_ok_weaker c.put_entry.result (λ put h stands.
    subst
    (Appends (g.K.Sink.written c.args.out.now) (g.K.Sink.written c.put_entry.new.out))
    (text-told c.args.exec.now c.happen-what.new.exec slot what c.now-time.result h c.now-time.ensures.time stands does)
    (put (what ∷ h) (does.stands h stands))) c.put_entry.ensures.put

pub returns-clause-part : goal.returns-clause-part
returns-clause-part g c =
    let what = c.happen-what.result in
    let does = c.happen-what.ensures.does in
    on_err_weaker c.put_entry.result (λ part h stands.
    subst
    (AppendsPart (g.K.Sink.written c.args.out.now) (g.K.Sink.written c.put_entry.new.out))
    (text-told c.args.exec.now c.happen-what.new.exec slot what c.now-time.result h c.now-time.ensures.time stands does)
    (part (what ∷ h) (does.stands h stands))) c.put_entry.ensures.part

pub returns-clause-stands : goal.returns-clause-stands
returns-clause-stands g c = λ h stands.
    stands-told c.args.exec.now c.happen-what.new.exec slot c.happen-what.result h stands c.happen-what.ensures.does

pub returns-clause-time : goal.returns-clause-time
returns-clause-time g c =
    time-passed c.args.exec.now c.happen-what.new.exec c.happen-what.result c.happen-what.ensures.does
