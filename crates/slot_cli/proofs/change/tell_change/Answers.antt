-- The trace is told, and then the change from where it ends.
use Rattle.std.proofs.Common.{ℕ, true, List, Result, Err, sym, subst}
use Rattle.std.proofs.lemmas.Result.{err_from_is_err_and}
use Rattle.std.specs.Io.KnownBytes.{Appends}
use Rattle.slot_core.specs.Keeping.Executives.{StandsFor}
use Rattle.slot_core.specs.Keeping.Plans.{PlanParts}
use Rattle.slot_core.specs.Output.Texts.{trace_text}
use Rattle.slot_core.specs.Runs.Traces.{history_of, trace}
use Rattle.slot_io.specs.Sinks.{AppendsPart}
use Rattle.command_line.specs.Writings.{IsRestWriting}
use Rattle.slot_cli.specs.Changed.{carried_after, change_due, changed, history_to}
use Rattle.command_line.proofs.PartWritings.{parts-front, parts-rest}
use Rattle.slot_cli.proofs.change.tell_change.Goals as goal

pub returns-in_err-replay : goal.returns-in_err-replay
returns-in_err-replay g c =
    let plan = c.args.exec.now.plan in
    let arrivals = c.args.arrivals.now in
    let p = err_from_is_err_and c.from_residual.result c.from_residual.ensures.1 in
    let Part : ℕ → Type 0 = λ slots. AppendsPart (g.K.Sink.written c.args.out.now) (g.K.Sink.written c.replay.new.out) (trace_text plan.tasks (trace plan.tasks arrivals slots)) in
    let part = subst Part c.from.ensures c.in_err-replay.ensures.part in
    rw (p.1, p.2) (parts-front (Unit {0}) g.K.Sink.written g.K.Sink.faults (changed plan c.args.second arrivals c.args.slots c.args.until) c.args.out.now c.replay.new.out part c.in_err-replay.ensures.failed)

pub returns : goal.returns
returns g c =
    let plan = c.args.exec.now.plan in
    let arrivals = c.args.arrivals.now in
    let slots = c.args.slots in
    let later = c.replay.new.exec in
    let Told : ℕ → Type 0 = λ n. Appends (g.K.Sink.written c.args.out.now) (g.K.Sink.written c.replay.new.out) (trace_text plan.tasks (trace plan.tasks arrivals n)) in
    let first = subst Told c.from.ensures c.in_ok-replay.ensures.text in
    let Stands : ℕ → Type 0 = λ n. StandsFor later (history_of (trace plan.tasks arrivals n)) in
    let stands = subst Stands c.from.ensures c.in_ok-replay.ensures.stands in
    let Rest : PlanParts → ℕ → Type 0 = λ p n. IsRestWriting g.K.Sink.written g.K.Sink.faults (change_due p c.args.second n (carried_after p (history_to plan arrivals slots)) c.args.until) c.put_rest.result c.replay.new.out c.put_rest.new.out in
    let rest = subst (Rest plan) c.from.ensures (subst (Rest plan) c.in_ok-replay.ensures.time (subst (λ (p : PlanParts). Rest p later.scene.time) c.in_ok-replay.ensures.plan (c.put_rest.ensures (history_to plan arrivals slots) stands))) in
    parts-rest g.K.Sink.written g.K.Sink.faults (trace_text plan.tasks (trace plan.tasks arrivals slots)) _ c.put_rest.result c.args.out.now c.replay.new.out c.put_rest.new.out first c.replay.ensures.counted rest
