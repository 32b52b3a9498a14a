-- As many soft jobs go over as there are, or as the limit allows.
use Rattle.std.proofs.Common.{ℕ, List, ap, min, subst, ◌∙◌, arith}
use Rattle.std.proofs.lemmas.List.{length-take}
use Rattle.slot_core.specs.declared.jobs.SoftJob.{SoftJob}
use Rattle.slot_core.specs.declared.tasks.TaskSet.{TaskSet}
use Rattle.plan_change.specs.Carrying.{offers_from}
use Rattle.plan_change.specs.SoftWork.{IsChangedWithSoft, IsCutOffWithSoft}
use Rattle.plan_change.proofs.SoftRows.{take-most}
use Rattle.plan_change.proofs.with_soft.carry_with_soft.Goals as goal

pub returns-in-Ok-clause-granted : goal.returns-in-Ok-clause-granted
returns-in-Ok-clause-granted g c =
    let most = take-most c.min-soft.result c.args.into.now.plan.tasks.soft_limit c.args.from.now.scene.soft (c.min-soft.ensures ∙ ap {B = ℕ} (λ (s : TaskSet). min c.soft_count-waiting.result s.soft_limit) c.tasks.ensures.tasks ∙ ap {B = ℕ} (λ (n : ℕ). min n c.args.into.now.plan.tasks.soft_limit) c.soft_count-waiting.ensures.count) in
    subst (λ (jobs : List SoftJob). IsChangedWithSoft c.args.into.now.plan (offers_from c.args.keep c.args.from.now c.args.into.now.plan.cycle c.args.first) jobs c.carry_counted.new.into) most c.in-Ok.ensures.granted

pub returns-in-Ok-clause-moved : goal.returns-in-Ok-clause-moved
returns-in-Ok-clause-moved g c =
    let limit = ap (λ (s : TaskSet). s.soft_limit) c.tasks.ensures.tasks in (
      c.in-Ok.ensures.moved,
      omega (arith, c.min-soft.ensures, limit, c.soft_count-waiting.ensures.count, length-take c.args.into.now.plan.tasks.soft_limit c.args.from.now.scene.soft),
      omega (arith, c.min-soft.ensures, limit, c.soft_count-waiting.ensures.count),
    )

pub returns-in-Err-clause-cut_off : goal.returns-in-Err-clause-cut_off
returns-in-Err-clause-cut_off g c =
    let most = take-most c.min-soft.result c.args.into.now.plan.tasks.soft_limit c.args.from.now.scene.soft (c.min-soft.ensures ∙ ap {B = ℕ} (λ (s : TaskSet). min c.soft_count-waiting.result s.soft_limit) c.tasks.ensures.tasks ∙ ap {B = ℕ} (λ (n : ℕ). min n c.args.into.now.plan.tasks.soft_limit) c.soft_count-waiting.ensures.count) in
    subst (λ (jobs : List SoftJob). IsCutOffWithSoft c.args.into.now.plan (offers_from c.args.keep c.args.from.now c.args.into.now.plan.cycle c.args.first) jobs c.in-Err.refusal c.carry_counted.new.into) most c.in-Err.ensures.cut_off
