use Rattle.std.proofs.Common.{ap, ◌∙◌, arith}
use Rattle.interval_row.specs.Changes.{ends_before}
use Rattle.slot_exec.proofs.StepBounds.{ends_before-split}
use Rattle.slot_exec.proofs.offers.admit.Goals as goal

pub returns-clause-few_steps : goal.returns-clause-few_steps
returns-clause-few_steps g c counted =
    let before = g.T.SpareTable.spans c.args.table.now in
    let kept = ap (ends_before c.args.job.dl) c.split.ensures.spans ∙ ends_before-split c.args.job.dl before in
    omega (arith, kept, c.split.ensures.few_steps counted, c.charge.ensures.few_steps counted, c.insert.ensures.one_step)
