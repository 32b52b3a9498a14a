use Rattle.std.proofs.Common.{◌<◌, List, [], ◌∷◌, ◌++◌, length, map, take, append_assoc, ap, sym, ◌∙◌, subst, arith}
use Rattle.std.specs.Prelude.{sum_by}
use Rattle.std.proofs.lemmas.List.Sums.{sum_by-append}
use Rattle.slot_core.specs.declared.jobs.Job.{Job}
use Rattle.slot_core.specs.Keeping.Plans.{AreInDeadlineOrder}
use Rattle.slot_core.specs.Offline.OfflineJobs.{later_job}
use Rattle.slot_facts.proofs.Plans.Items.{one_more_job}
use Rattle.trace_verify.proofs.CycleParts.{pushed-few, pushed-ordered}
use Rattle.trace_verify.proofs.checker.push_jobs.Goals as goal

pub returns-in_err-push-clause-ordered : goal.returns-in_err-push-clause-ordered
returns-in_err-push-clause-ordered c =
    subst AreInDeadlineOrder (sym (c.in_err-push.ensures.stays ∙ c.loop-i.invariant)) (pushed-ordered c.args.plan.now c.args.n c.loop-i.i c.args.jobs.now c.jobs-i-end.ensures.plan c.requires.ordered c.requires.earlier)

pub push-requires : goal.push-requires
push-requires c =
    let plan = c.args.plan.now in
    let old = c.args.jobs.now in
    let left = λ (j : Job). j.left in
    let new = map (later_job plan.tasks plan.cycle c.args.n) (take c.loop-i.i plan.jobs) in
    omega (arith, ap (sum_by left) c.loop-i.invariant, sum_by-append left old new, pushed-few plan c.args.n c.loop-i.i c.jobs-i-end.ensures.plan, c.requires.small)

pub loop-i-preserved : goal.loop-i-preserved
loop-i-preserved c =
    let plan = c.args.plan.now in
    let old = c.args.jobs.now in
    let i = c.loop-i.i in
    let made = c.job_in_cycle.result in
    let f = later_job plan.tasks plan.cycle c.args.n in
    let inside : i < length plan.jobs = omega (arith, c.loop-i-test.true, ap length c.jobs-i-end.ensures.jobs) in
    c.in_ok-push.ensures.pushed
    ∙ ap (λ (js : List Job). js ++ made ∷ []) c.loop-i.invariant
    ∙ append_assoc old (map f (take i plan.jobs)) (made ∷ [])
    ∙ ap (λ (js : List Job). old ++ js) (sym (one_more_job f plan.jobs i made inside c.job_in_cycle.ensures))

pub returns-clause-ordered : goal.returns-clause-ordered
returns-clause-ordered c =
    subst AreInDeadlineOrder (sym c.loop-i.invariant) (pushed-ordered c.args.plan.now c.args.n c.loop-i.i c.args.jobs.now c.jobs-i-end.ensures.plan c.requires.ordered c.requires.earlier)
