-- The next soft job may go over, and there is room for it.
use Rattle.std.proofs.Common.{◌+◌, ◌-◌, ◌≤◌, drop, length, take, ap, refl, subst, sym, ◌∙◌, arith}
use Rattle.slot_core.specs.Keeping.Plans.{PlanParts}
use Rattle.plan_change.specs.SoftWork.{AreTaken}
use Rattle.plan_change.proofs.SoftRows.{waits-length, waits-next}
use Rattle.plan_change.proofs.SoftWay.{AreTaken-more, AreTaken-room}
use Rattle.plan_change.proofs.with_soft.take_soft.Goals as goal

pub take_one-requires-clause-later : goal.take_one-requires-clause-later
take_one-requires-clause-later g c =
    let jobs = c.args.from.now.scene.soft in
    let next = waits-next c.args.soft c.loop-i.i jobs c.in-Some.job c.loop-i-test.true (sym c.soft_job.ensures ∙ c.in-Some.is) in
    let way = subst (AreTaken c.args.into.now c.loop-i.into (drop c.args.passed (take c.args.soft jobs))) next c.loop-i.invariant.way in
    way.later.0

pub take_one-requires-clause-some : goal.take_one-requires-clause-some
take_one-requires-clause-some g c =
    let jobs = c.args.from.now.scene.soft in
    let next = waits-next c.args.soft c.loop-i.i jobs c.in-Some.job c.loop-i-test.true (sym c.soft_job.ensures ∙ c.in-Some.is) in
    let way = subst (AreTaken c.args.into.now c.loop-i.into (drop c.args.passed (take c.args.soft jobs))) next c.loop-i.invariant.way in
    way.later.1

pub take_one-requires-clause-few : goal.take_one-requires-clause-few
take_one-requires-clause-few g c =
    let jobs = c.args.from.now.scene.soft in
    let next = waits-next c.args.soft c.loop-i.i jobs c.in-Some.job c.loop-i-test.true (sym c.soft_job.ensures ∙ c.in-Some.is) in
    let way = subst (AreTaken c.args.into.now c.loop-i.into (drop c.args.passed (take c.args.soft jobs))) next c.loop-i.invariant.way in
    way.later.2

pub take_one-requires-clause-room : goal.take_one-requires-clause-room
take_one-requires-clause-room g c =
    let jobs = c.args.from.now.scene.soft in
    let next = waits-next c.args.soft c.loop-i.i jobs c.in-Some.job c.loop-i-test.true (sym c.soft_job.ensures ∙ c.in-Some.is) in
    let way = subst (AreTaken c.args.into.now c.loop-i.into (drop c.args.passed (take c.args.soft jobs))) next c.loop-i.invariant.way in
    let count = waits-length c.args.soft c.args.passed jobs c.requires.there c.requires.passed in
    let few : length (drop c.args.passed (take c.args.soft jobs)) ≤ c.args.soft - c.args.passed = omega (arith, count) in
    let room = AreTaken-room c.args.into.now c.loop-i.into (drop c.args.passed (take c.args.soft jobs)) (drop (c.loop-i.i + 1) (take c.args.soft jobs)) c.in-Some.job (c.args.soft - c.args.passed) c.args.into.now.plan.tasks.soft_limit way c.requires.room few in
    omega (arith, room, ap (λ (p : PlanParts). p.tasks.soft_limit) way.plan)

pub loop-i-preserved : goal.loop-i-preserved
loop-i-preserved g c =
    let jobs = c.args.from.now.scene.soft in
    let next = waits-next c.args.soft c.loop-i.i jobs c.in-Some.job c.loop-i-test.true (sym c.soft_job.ensures ∙ c.in-Some.is) in
    let way = subst (AreTaken c.args.into.now c.loop-i.into (drop c.args.passed (take c.args.soft jobs))) next c.loop-i.invariant.way in
    record {
      low = omega (arith, c.loop-i.invariant.low);
      way = AreTaken-more c.args.into.now c.loop-i.into c.take_one.new.into (drop c.args.passed (take c.args.soft jobs)) (drop (c.loop-i.i + 1) (take c.args.soft jobs)) c.in-Some.job way c.take_one.ensures.plan c.take_one.ensures.row c.take_one.ensures.more c.take_one.ensures.taken;
      below = λ r is low. omega (arith, c.take_one.ensures.row, c.if-not-stands_before.ensures.before refl r is);
    }
