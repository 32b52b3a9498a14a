-- The entry that is told is the one of the arrival.
use Rattle.std.proofs.Common.{◌∷◌, subst}
use Rattle.std.specs.Io.KnownBytes.{Appends}
use Rattle.slot_core.specs.Runs.Traces.{arrive}
use Rattle.slot_io.specs.Sinks.{AppendsPart}
use Rattle.slot_io.proofs.SinkParts.{OnErr-anyhow}
use Rattle.arrival_replay.proofs.Happenings.{line-told, stands-told}
use Rattle.arrival_replay.proofs.tell_answer.Goals as goal

pub returns-clause-entry : goal.returns-clause-entry
returns-clause-entry g c = λ h stands.
    let does = c.answer.ensures.does in
    let what = c.answer.new.what in
    let same = line-told c.args.exec.now c.answer.new.exec (arrive c.args.arrival.row c.args.arrival.event) what c.now-time.result h c.now-time.ensures.time stands does in
    subst (Appends (g.K.Sink.written c.args.out.now) (g.K.Sink.written c.tell_line.new.out)) same (c.in_ok-tell_line.ensures.line (what ∷ h) (does.stands h stands))

pub returns-in_err-tell_line-clause-part : goal.returns-in_err-tell_line-clause-part
returns-in_err-tell_line-clause-part g c = λ h stands.
    let does = c.answer.ensures.does in
    let what = c.answer.new.what in
    let same = line-told c.args.exec.now c.answer.new.exec (arrive c.args.arrival.row c.args.arrival.event) what c.now-time.result h c.now-time.ensures.time stands does in
    OnErr-anyhow c.from_residual.result (subst (AppendsPart (g.K.Sink.written c.args.out.now) (g.K.Sink.written c.tell_line.new.out)) same (c.in_err-tell_line.ensures.part (what ∷ h) (does.stands h stands)))

pub returns-clause-stands : goal.returns-clause-stands
returns-clause-stands g c = λ h stands.
    stands-told c.args.exec.now c.answer.new.exec (arrive c.args.arrival.row c.args.arrival.event) c.answer.new.what h stands c.answer.ensures.does

pub returns-in_err-tell_line-clause-stands : goal.returns-in_err-tell_line-clause-stands
returns-in_err-tell_line-clause-stands g c = λ h stands.
    stands-told c.args.exec.now c.answer.new.exec (arrive c.args.arrival.row c.args.arrival.event) c.answer.new.what h stands c.answer.ensures.does
