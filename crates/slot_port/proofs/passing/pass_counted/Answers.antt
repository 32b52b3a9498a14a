use Rattle.std.proofs.Common.{rules, ◌≡◌, ◌≢◌, sym, ◌∙◌, inl, inr, arith}
use Rattle.slot_port.specs.Calls.{ran_in}
use Rattle.slot_port.proofs.PassedSlots.{HasPassed-more, HasPassed-one}
use Rattle.slot_port.proofs.passing.pass_counted.Goals as goal

pub loop-passed-init : goal.loop-passed-init
loop-passed-init g c =
    record {
      some = omega arith;
      few = c.requires.some;
      first = c.slot-first.ensures.answer;
      passed = HasPassed-one _ _ c.slot-first.result c.slot-first.ensures.answer c.slot-first.ensures.does;
      row = c.slot-first.ensures.row;
    }

pub loop-passed-preserved : goal.loop-passed-preserved
loop-passed-preserved g c =
    let kept = c.loop-passed.invariant in
    let same : c.ahead-next.result.0 ≡ c.slot-first.result = search rules in
    let ran : c.slot.result ≡ ran_in c.args.exec.now = c.slot.ensures.answer ∙ sym c.ahead-next.ensures.answer ∙ same ∙ kept.first in
    record {
      some = omega arith;
      few = omega arith;
      first = kept.first;
      passed = HasPassed-more c.args.exec.now c.loop-passed.exec c.slot.new.self c.slot.result c.loop-passed.passed kept.passed ran c.slot.ensures.does;
      row = c.slot.ensures.row ∙ kept.row;
    }

pub returns-then-now-eq-TIME_LIMIT : goal.returns-then-now-eq-TIME_LIMIT
returns-then-now-eq-TIME_LIMIT g c =
    let kept = c.loop-passed.invariant in
    record {
      some = kept.some;
      few = kept.few;
      same = kept.passed.same;
      stands = kept.passed.stands;
      plan = kept.passed.plan;
      row = kept.row;
      ends = λ less. inr (sym c.now.ensures.time ∙ c.if-now-eq-TIME_LIMIT.true);
    }

pub returns-then-ne : goal.returns-then-ne
returns-then-ne g c =
    let kept = c.loop-passed.invariant in
    let other : c.ahead-next.result.0 ≢ c.slot-first.result = search rules in
    record {
      some = kept.some;
      few = kept.few;
      same = kept.passed.same;
      stands = kept.passed.stands;
      plan = kept.passed.plan;
      row = kept.row;
      ends = λ less. inl (λ e. other (c.ahead-next.ensures.answer ∙ sym e ∙ sym kept.first));
    }

pub returns : goal.returns
returns g c =
    let kept = c.loop-passed.invariant in
    record {
      some = kept.some;
      few = kept.few;
      same = kept.passed.same;
      stands = kept.passed.stands;
      plan = kept.passed.plan;
      row = kept.row;
      ends = λ less. absurd (omega arith);
    }
