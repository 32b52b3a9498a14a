use Rattle.std.proofs.Common.{◌≡◌, length, ◌∙◌}
use Rattle.std.proofs.lemmas.Result.{IfOk-weaker}
use Rattle.slot_core.specs.Output.Reports.{check_line, counts_line}
use Rattle.plan_reports.proofs.CheckLines.{check_line-from_plan}
use Rattle.plan_reports.proofs.check_line.Goals as goal

pub returns : goal.returns
returns c =
    let plan = c.args.plan.now in
    let jobs = c.jobs-jobs.result.now in
    let spans = c.spans-spans.result.now in
    let same = check_line-from_plan plan c.cycle.result jobs spans c.cycle.ensures.plan c.cycle.ensures.cycle c.jobs-jobs.ensures.jobs c.spans-spans.ensures.spans in
    IfOk-weaker c.counts_line.result (λ line. line.items ≡ counts_line c.cycle.result (length jobs) (length spans)) (λ line. line.items ≡ check_line plan.tasks) (λ line told. told ∙ same) c.counts_line.ensures
