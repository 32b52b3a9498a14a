-- A plan has few jobs and spans.
use Rattle.std.proofs.Common.{◌<◌, ◌^◌, length, sym, subst, arith}
use Rattle.table_codec.proofs.PlanSizes.{few_jobs, few_spans}
use Rattle.table_codec.proofs.table.check_stored.Goals as goal

pub check_jobs-requires : goal.check_jobs-requires
check_jobs-requires c =
    let few = few_jobs c.args.plan.now c.jobs.ensures.plan in
    subst (λ jobs. length jobs < 2 ^ 32) (sym c.jobs.ensures.jobs) (omega (arith, few))

pub check_spans-requires : goal.check_spans-requires
check_spans-requires c =
    let few = few_spans c.args.plan.now c.spans.ensures.plan in
    subst (λ spans. length spans < 2 ^ 32) (sym c.spans.ensures.spans) (omega (arith, few))
