use Rattle.std.proofs.Common.{◌≡◌, ◌+◌, ◌≤◌}
use Rattle.std.proofs.Math.ListN.{replicate}
use Rattle.std.specs.Io.KnownBytes.{Appends}
use Rattle.slot_core.specs.Keeping.Executives.{StandsFor}
use Rattle.slot_core.specs.Output.Texts.{trace_text}
use Rattle.slot_core.specs.Runs.Histories.{History}
use Rattle.slot_core.specs.Runs.Traces.{entries, history_after, slot}
use Rattle.live_run.proofs.answers.pass.Given as goal

-- so many slots have passed, and their lines were put
abbrev pub invariant-loop-passed : goal.invariant-loop-passed
invariant-loop-passed g l =
    record {
      put : (h : History) → StandsFor l.fn.exec h → Appends (g.K.Sink.written l.fn.out) (g.K.Sink.written l.out) (trace_text l.fn.exec.plan.tasks (entries l.fn.exec.plan.tasks l.fn.exec.plan.cycle h (replicate l._passed slot)));
      stands : (h : History) → StandsFor l.fn.exec h → StandsFor l.exec (history_after l.fn.exec.plan.tasks l.fn.exec.plan.cycle h (replicate l._passed slot));
      plan : l.exec.plan ≡ l.fn.exec.plan;
      time : l.exec.scene.time ≡ l.fn.exec.scene.time + l._passed;
      counted : g.K.Sink.faults l.fn.out ≤ g.K.Sink.faults l.out;
    }
