use Rattle.std.proofs.Common.{◌<◌, ap, ◌∙◌, arith}
use Rattle.std.proofs.lemmas.Result.{err_from_is_err_and}
use Rattle.trace_verify.specs.SceneLines.{first_due}
use Rattle.trace_verify.proofs.PlanWalks.{first-checked_plan, first-stopped, first-passed, checked-plan, next-plan, after-plan, stopped-plan, passed-plan, falls-plan}
use Rattle.trace_verify.proofs.walk.walk.Goals as goal

pub first_line-requires : goal.first_line-requires
first_line-requires c =
    first-checked_plan c.tasks-tasks.ensures.plan c.requires.scene

pub returns-in_err-rest : goal.returns-in_err-rest
returns-in_err-rest c =
    let p = err_from_is_err_and c.from_residual.result c.from_residual.ensures.1 in
    rw (p.1, p.2) (λ other. first-stopped c.tasks-tasks.ensures.plan c.requires.scene c.args.arrivals.now c.args.slots c.args.text.now c.in_err-rest.field-0.0 (c.in_err-rest.ensures other))

pub loop-left-init : goal.loop-left-init
loop-left-init c = record {
  walking = first-passed c.tasks-tasks.ensures.plan c.requires.scene c.args.arrivals.now c.args.slots c.args.text.now c.in_ok-rest.rest.now c.requires.fitting c.in_ok-rest.ensures;
  tasks = c.requires.tasks;
}

pub pass_line-requires-clause-checked : goal.pass_line-requires-clause-checked
pass_line-requires-clause-checked c =
    checked-plan c.tasks-tasks.ensures.plan c.requires.few c.loop-left.invariant.walking

pub pass_line-requires-clause-next : goal.pass_line-requires-clause-next
pass_line-requires-clause-next c =
    let is = c.split_due-due.ensures ∙ ap (λ t. first_due t c.loop-left.left.now) c.time-in-loop-left.ensures in
    let on : c.loop-left.checker.scene.time < c.args.slots = omega (arith, c.loop-left-test.true, c.time.ensures) in
    next-plan c.tasks-tasks.ensures.plan c.requires.few c.loop-left.invariant.walking on is

pub pass_line-requires-clause-after : goal.pass_line-requires-clause-after
pass_line-requires-clause-after c =
    let is = c.split_due-due.ensures ∙ ap (λ t. first_due t c.loop-left.left.now) c.time-in-loop-left.ensures in
    let on : c.loop-left.checker.scene.time < c.args.slots = omega (arith, c.loop-left-test.true, c.time.ensures) in
    after-plan c.tasks-tasks.ensures.plan c.requires.few c.loop-left.invariant.walking on is

pub returns-in_err-rest-2 : goal.returns-in_err-rest-2
returns-in_err-rest-2 c =
    let is = c.split_due-due.ensures ∙ ap (λ t. first_due t c.loop-left.left.now) c.time-in-loop-left.ensures in
    let on : c.loop-left.checker.scene.time < c.args.slots = omega (arith, c.loop-left-test.true, c.time.ensures) in
    let p = err_from_is_err_and c.from_residual-in_err-rest-2.result c.from_residual-in_err-rest-2.ensures.1 in
    rw (p.1, p.2) (λ other. stopped-plan c.tasks-tasks.ensures.plan c.requires.few c.loop-left.invariant.walking on is c.in_err-rest-2.field-0.0 (c.in_err-rest-2.ensures.passes other))

pub loop-left-smaller : goal.loop-left-smaller
loop-left-smaller c =
    let is = c.split_due-due.ensures ∙ ap (λ t. first_due t c.loop-left.left.now) c.time-in-loop-left.ensures in
    let on : c.loop-left.checker.scene.time < c.args.slots = omega (arith, c.loop-left-test.true, c.time.ensures) in
    falls-plan c.tasks-tasks.ensures.plan c.requires.few c.loop-left.invariant.walking on is c.pass_line.new.checker.scene c.in_ok-rest-2.rest.now c.in_ok-rest-2.ensures.passes

pub loop-left-preserved : goal.loop-left-preserved
loop-left-preserved c =
    let is = c.split_due-due.ensures ∙ ap (λ t. first_due t c.loop-left.left.now) c.time-in-loop-left.ensures in
    let on : c.loop-left.checker.scene.time < c.args.slots = omega (arith, c.loop-left-test.true, c.time.ensures) in
    record {
      walking = passed-plan c.tasks-tasks.ensures.plan c.requires.few c.loop-left.invariant.walking on is c.pass_line.new.checker.scene c.in_ok-rest-2.rest.now c.in_ok-rest-2.ensures.passes;
      tasks = c.in_ok-rest-2.ensures.tasks ∙ c.loop-left.invariant.tasks;
    }
