-- The numbers of a plan have room in their fields.
use Rattle.std.proofs.Common.{◌<◌, ◌^◌, length, sym, subst, arith}
use Rattle.std.specs.Prelude.{All}
use Rattle.table_codec.specs.Sizes.{FitsJob, FitsSpan}
use Rattle.table_codec.proofs.PlanSizes.{few_jobs, all_fitting_jobs, few_spans, all_fitting_spans}
use Rattle.std.proofs.Common.{rules}
use Rattle.std.proofs.lemmas.Grind.{common_steps}
use Rattle.table_codec.proofs.writer.put_table.Goals as goal

pub put_jobs-requires-clause-few : goal.put_jobs-requires-clause-few
put_jobs-requires-clause-few c =
    let few = few_jobs c.args.plan.now c.jobs.ensures.plan in
    subst (λ jobs. length jobs < 2 ^ 32) (sym c.jobs.ensures.jobs) (omega (arith, few))

pub put_jobs-requires-clause-small : goal.put_jobs-requires-clause-small
put_jobs-requires-clause-small c =
    subst (All (FitsJob c.args.layout)) (sym c.jobs.ensures.jobs) (all_fitting_jobs c.args.layout c.args.plan.now c.jobs.ensures.plan)

pub put_spans-requires-clause-few : goal.put_spans-requires-clause-few
put_spans-requires-clause-few c =
    let few = few_spans c.args.plan.now c.spans.ensures.plan in
    subst (λ spans. length spans < 2 ^ 32) (sym c.spans.ensures.spans) (omega (arith, few))

pub put_spans-requires-clause-small : goal.put_spans-requires-clause-small
put_spans-requires-clause-small c =
    subst (All (FitsSpan c.args.layout)) (sym c.spans.ensures.spans) (all_fitting_spans c.args.layout c.args.plan.now c.spans.ensures.plan)

pub returns-in_err-put_head : goal.returns-in_err-put_head
returns-in_err-put_head c = search rules

pub returns-in_err-put_set : goal.returns-in_err-put_set
returns-in_err-put_set c = search rules

pub returns-in_err-put_jobs : goal.returns-in_err-put_jobs
returns-in_err-put_jobs c = search rules

pub returns : goal.returns
returns c = grind (arith, common_steps)
