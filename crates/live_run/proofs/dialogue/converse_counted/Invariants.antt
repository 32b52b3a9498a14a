use Rattle.std.proofs.Common.{◌≡◌, ◌≤◌, List, length}
use Rattle.slot_core.specs.Keeping.Executives.{StandsFor}
use Rattle.slot_core.specs.Runs.Traces.{started}
use Rattle.live_lines.specs.Lines.{Heard}
use Rattle.live_run.specs.Dialogues.{history_heard, GoesOn}
use Rattle.live_run.specs.Streams.{seen, AreAnswered}
use Rattle.live_run.proofs.dialogue.converse_counted.Given as goal

-- so many were heard, all of them are answered, and the end was not asked for
abbrev pub invariant-loop-heard : goal.invariant-loop-heard
invariant-loop-heard g l =
    record {
      heards : List Heard;
      gave : g.S.LineSource.gave l.fn.source l.source heards;
      goes_on : GoesOn l.fn.exec.plan.tasks heards;
      count : length heards ≡ l.heard;
      stands : StandsFor l.exec (history_heard l.fn.exec.plan.tasks l.fn.exec.plan.cycle started heards);
      plan : l.exec.plan ≡ l.fn.exec.plan;
      places : l.list.places ≡ l.initial.list.places;
      same : g.R.RecordFile.made l.streams.rows ≡ g.R.RecordFile.made l.fn.streams.rows;
      misread : g.S.LineSource.faults l.fn.source ≤ g.S.LineSource.faults l.source;
      put : AreAnswered l.fn.exec.plan.tasks l.fn.exec.plan.cycle heards (seen g.K.Sink.written g.K.Sink.faults g.R.RecordFile.written g.R.RecordFile.faults g.E.Sink.written g.E.Sink.faults l.fn.streams) (seen g.K.Sink.written g.K.Sink.faults g.R.RecordFile.written g.R.RecordFile.faults g.E.Sink.written g.E.Sink.faults l.streams);
    }
