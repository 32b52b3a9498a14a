-- The first line, the jobs and the spans, or a part of one of them.
use Rattle.std.proofs.Common.{◌++◌, ◌∙◌}
use Rattle.std.specs.Prelude.{flat_map}
use Rattle.std.proofs.KnownBytes.{Appends-trans}
use Rattle.std.proofs.lemmas.Result.{err_from_is_err_and}
use Rattle.slot_core.specs.Output.Reports.{job_line, plan_line, span_line}
use Rattle.slot_io.proofs.Counts.{Rose-after}
use Rattle.slot_io.proofs.LineTexts.{part-first, part-second, part-third}
use Rattle.plan_reports.proofs.PlanLines.{keys-named}
use Rattle.plan_reports.proofs.show_plan.Goals as goal

pub returns-in_err-put : goal.returns-in_err-put
returns-in_err-put g c =
    let plan = c.args.plan.now in
    let before = g.K.Sink.written c.args.out.now in
    let after = g.K.Sink.written c.put.new.self in
    let line = plan_line plan in
    let jobs = flat_map (job_line plan.tasks) plan.jobs in
    let spans = flat_map span_line plan.spans in
    let p = err_from_is_err_and c.from_residual-in_err-put.result c.from_residual-in_err-put.ensures.1 in
    let own = rw (c.as_slice.ensures.value ∙ c.in_ok-line.ensures) at c.in_err-put.ensures.part in
    rw (p.1, p.2) (part-first before after line jobs spans own, c.in_err-put.ensures.failed)

pub show_jobs-requires : goal.show_jobs-requires
show_jobs-requires g c = rw (c.tasks.ensures.tasks, c.jobs.ensures.jobs) (keys-named c.args.plan.now c.jobs.ensures.plan)

pub returns-in_err-show_jobs : goal.returns-in_err-show_jobs
returns-in_err-show_jobs g c =
    let plan = c.args.plan.now in
    let before = g.K.Sink.written c.args.out.now in
    let mid = g.K.Sink.written c.put.new.self in
    let after = g.K.Sink.written c.show_jobs.new.out in
    let line = plan_line plan in
    let jobs = flat_map (job_line plan.tasks) plan.jobs in
    let spans = flat_map span_line plan.spans in
    let p = err_from_is_err_and c.from_residual-in_err-show_jobs.result c.from_residual-in_err-show_jobs.ensures.1 in
    let first = rw (c.as_slice.ensures.value ∙ c.in_ok-line.ensures) at c.in_ok-put.ensures.ok in
    let own = rw (c.tasks.ensures.tasks, c.jobs.ensures.jobs) at c.in_err-show_jobs.ensures.part in
    rw (p.1, p.2) (part-second before mid after line jobs spans first own, Rose-after _ _ _ c.put.ensures.counted c.in_err-show_jobs.ensures.failed)

pub returns-in_err-show_spans : goal.returns-in_err-show_spans
returns-in_err-show_spans g c =
    let plan = c.args.plan.now in
    let before = g.K.Sink.written c.args.out.now in
    let mid = g.K.Sink.written c.put.new.self in
    let later = g.K.Sink.written c.show_jobs.new.out in
    let after = g.K.Sink.written c.show_spans.new.out in
    let line = plan_line plan in
    let jobs = flat_map (job_line plan.tasks) plan.jobs in
    let spans = flat_map span_line plan.spans in
    let p = err_from_is_err_and c.from_residual-in_err-show_spans.result c.from_residual-in_err-show_spans.ensures.1 in
    let first = rw (c.as_slice.ensures.value ∙ c.in_ok-line.ensures) at c.in_ok-put.ensures.ok in
    let second = rw (c.tasks.ensures.tasks, c.jobs.ensures.jobs) at c.in_ok-show_jobs.ensures.text in
    let own = rw c.spans.ensures.spans at c.in_err-show_spans.ensures.part in
    rw (p.1, p.2) (part-third before mid later after line jobs spans first second own, Rose-after _ _ _ c.put.ensures.counted (Rose-after _ _ _ c.show_jobs.ensures.counted c.in_err-show_spans.ensures.failed))

pub returns : goal.returns
returns g c =
    let plan = c.args.plan.now in
    let before = g.K.Sink.written c.args.out.now in
    let mid = g.K.Sink.written c.put.new.self in
    let later = g.K.Sink.written c.show_jobs.new.out in
    let after = g.K.Sink.written c.show_spans.new.out in
    let line = plan_line plan in
    let jobs = flat_map (job_line plan.tasks) plan.jobs in
    let spans = flat_map span_line plan.spans in
    let first = rw (c.as_slice.ensures.value ∙ c.in_ok-line.ensures) at c.in_ok-put.ensures.ok in
    let second = rw (c.tasks.ensures.tasks, c.jobs.ensures.jobs) at c.in_ok-show_jobs.ensures.text in
    let third = rw c.spans.ensures.spans at c.in_ok-show_spans.ensures.text in
    Appends-trans before later after (line ++ jobs) spans (Appends-trans before mid later line jobs first second) third
