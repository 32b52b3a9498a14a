-- The table of the jobs is written, or has its cause.
use Rattle.std.proofs.Common.{◌≡◌, ◌+◌, None, Err, refl, sym, ap, subst, ◌∙◌}
use Rattle.view_jobs.specs.declared.faults.JobsFault.TheVariants.{NoLine}
use Rattle.view_jobs.specs.Tables.{first_unknown, jobs_text}
use Rattle.view_run.specs.Shown.{IsJobsRefusal}
use Rattle.view_run.proofs.Causes.{jobs-failed, none-told, of_jobs-cause}
use Rattle.view_run.proofs.work.show_jobs.Goals as goal

pub returns-in-Err-clause-refused : goal.returns-in-Err-clause-refused
returns-in-Err-clause-refused g c =
    subst
    (IsJobsRefusal c.args.plan.now c.args.lines.now _ _)
    (sym c.of_jobs.ensures)
    (of_jobs-cause c.args.plan.now c.args.lines.now _ _ c.in-Err.fault (λ same. c.put_jobs.ensures.failed (c.in-Err.is ∙ ap Err same)) (λ n same. c.put_jobs.ensures.no_line n (c.in-Err.is ∙ ap Err same)))

pub returns-in-Ok-clause-shown : goal.returns-in-Ok-clause-shown
returns-in-Ok-clause-shown g c =
    let known : first_unknown c.args.plan.now.tasks c.args.lines.now ≡ None = none-told (first_unknown c.args.plan.now.tasks c.args.lines.now) c.put_jobs.result (λ place. NoLine (place + 1)) (λ place is. cc (sym c.in-Ok.is ∙ is)) c.put_jobs.ensures.unknown in
    (jobs_text c.args.plan.now c.args.lines.now, (known, refl), c.in-Ok.ensures.text)

pub returns-in-Err-clause-part : goal.returns-in-Err-clause-part
returns-in-Err-clause-part g c = λ write.
    let fails = c.in-Err.is ∙ ap Err (jobs-failed c.in-Err.fault (sym c.of_jobs.ensures ∙ cc write)) in
    let known : first_unknown c.args.plan.now.tasks c.args.lines.now ≡ None = none-told (first_unknown c.args.plan.now.tasks c.args.lines.now) c.put_jobs.result (λ place. NoLine (place + 1)) (λ place is. cc (sym fails ∙ is)) c.put_jobs.ensures.unknown in
    (jobs_text c.args.plan.now c.args.lines.now, (known, refl), c.in-Err.ensures.part)
