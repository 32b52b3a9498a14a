-- One slot more has passed, or its line was put in part.
use Rattle.std.proofs.Common.{◌≡◌, ◌+◌, ◌-◌, [], ◌∷◌, subst, sym, ap, ◌∙◌, arith}
use Rattle.std.proofs.Math.ListN.{replicate}
use Rattle.std.proofs.KnownBytes.{Appends-trans}
use Rattle.std.specs.Io.KnownBytes.{Appends}
use Rattle.slot_core.specs.Keeping.Executives.{StandsFor}
use Rattle.slot_core.specs.Keeping.Plans.{PlanParts}
use Rattle.slot_core.specs.Output.Texts.{trace_text}
use Rattle.slot_core.specs.Runs.Histories.{History}
use Rattle.slot_core.specs.Runs.Traces.{entries, history_after, slot}
use Rattle.slot_io.specs.Sinks.{AppendsPart}
use Rattle.slot_io.proofs.SinkParts.{AppendsPart-more, OnErr-anyhow}
use Rattle.live_run.proofs.Lines.{text-next, text-more, history-next}
use Rattle.live_run.proofs.answers.pass.Goals as goal

pub returns-in_err-put_slot-clause-part : goal.returns-in_err-put_slot-clause-part
returns-in_err-put_slot-clause-part g c = OnErr-anyhow c.from_residual.result (λ h stands.
    let p = c.args.exec.now.plan in
    let l = c.loop-passed in
    let k = l._passed in
    let later = history_after p.tasks p.cycle h (replicate k slot) in
    let written = g.K.Sink.written in
    let front = trace_text p.tasks (entries p.tasks p.cycle h (replicate k slot)) in
    let one = trace_text p.tasks (entries p.tasks p.cycle later (slot ∷ [])) in
    let m = c.args.slots - (k + 1) in
    let rest = trace_text p.tasks (entries p.tasks p.cycle (history_after p.tasks p.cycle h (replicate (k + 1) slot)) (replicate m slot)) in
    let part = subst (λ (q : PlanParts). AppendsPart (written l.out) (written c.put_slot.new.out) (trace_text q.tasks (entries q.tasks q.cycle later (slot ∷ [])))) l.invariant.plan (c.in_err-put_slot.ensures.part later (l.invariant.stands h stands)) in
    let all : c.args.slots ≡ (k + 1) + m = omega (arith, c.loop-passed-test.true) in
    let whole = ap (λ n. trace_text p.tasks (entries p.tasks p.cycle h (replicate n slot))) all ∙ text-more p.tasks p.cycle h k m in
    AppendsPart-more (written c.args.out.now) (written l.out) (written c.put_slot.new.out) front one rest (trace_text p.tasks (entries p.tasks p.cycle h (replicate c.args.slots slot))) whole (l.invariant.put h stands) part)

pub loop-passed-preserved : goal.loop-passed-preserved
loop-passed-preserved g c =
    let p = c.args.exec.now.plan in
    let l = c.loop-passed in
    let k = l._passed in
    let written = g.K.Sink.written in
    let after = λ (h : History). history_after p.tasks p.cycle h (replicate k slot) in
    let told = λ (h : History). trace_text p.tasks (entries p.tasks p.cycle h (replicate k slot)) in
    let one = λ (h : History). trace_text p.tasks (entries p.tasks p.cycle (after h) (slot ∷ [])) in
    record {
      put = λ h stands.
          subst
          (Appends (written c.args.out.now) (written c.put_slot.new.out))
          (sym (text-next p.tasks p.cycle h k))
          (Appends-trans
          (written c.args.out.now)
          (written l.out)
          (written c.put_slot.new.out)
          (told h)
          (one h)
          (l.invariant.put h stands)
          (subst (λ (q : PlanParts). Appends (written l.out) (written c.put_slot.new.out) (trace_text q.tasks (entries q.tasks q.cycle (after h) (slot ∷ [])))) l.invariant.plan (c.in_ok-put_slot.ensures.put (after h) (l.invariant.stands h stands))));
      stands = λ h stands.
          subst
          (StandsFor c.put_slot.new.exec)
          (sym (history-next p.tasks p.cycle h k))
          (subst (λ (q : PlanParts). StandsFor c.put_slot.new.exec (history_after q.tasks q.cycle (after h) (slot ∷ []))) l.invariant.plan (c.in_ok-put_slot.ensures.stands (after h) (l.invariant.stands h stands)));
      plan = c.in_ok-put_slot.ensures.plan ∙ l.invariant.plan;
      time = omega (arith, c.in_ok-put_slot.ensures.time, l.invariant.time);
      counted = omega (arith, c.in_ok-put_slot.ensures.counted, l.invariant.counted);
    }
