-- The lines are those of each history for which the executive stands.
use Rattle.std.proofs.Common.{◌≡◌, ◌∙◌, ℕ, List, ap, subst}
use Rattle.std.proofs.lemmas.Result.{on_ok_weaker, on_err_weaker}
use Rattle.std.specs.Io.KnownBytes.{Appends}
use Rattle.slot_core.specs.declared.jobs.Job.{Job}
use Rattle.slot_core.specs.declared.tasks.TaskSet.{TaskSet}
use Rattle.slot_core.specs.Keeping.Executives.{StandsFor}
use Rattle.slot_core.specs.Runs.Histories.{History, time_of}
use Rattle.slot_io.specs.Sinks.{AppendsPart}
use Rattle.live_run.specs.Carried.{carried_lines, carried_text}
use Rattle.live_run.proofs.carried.tell_carried.Given.{Over}
use Rattle.live_run.proofs.carried.tell_carried.Goals as goal
use Rattle.live_run.proofs.carried.tell_carried.Goals.{After-put_jobs}

-- the text
text : (g : Over) (c : After-put_jobs g) (h : History) → StandsFor c.args.exec.now h → carried_lines c.tasks.result.now c.now.result c.jobs.result.now ≡ carried_text c.args.exec.now.plan.tasks c.args.exec.now.plan.cycle c.args.keep h
text g c h stands =
    let set = c.args.exec.now.plan.tasks in
    ap (λ (s : TaskSet). carried_lines s c.now.result c.jobs.result.now) c.tasks.ensures.tasks
    ∙ ap (λ (t : ℕ). carried_lines set t c.jobs.result.now) (c.now.ensures.time ∙ stands.same.time)
    ∙ ap (λ (js : List Job). carried_lines set (time_of h) js) (c.jobs.ensures ∙ c.list_jobs.ensures.listed h stands)

pub returns-clause-put : goal.returns-clause-put
returns-clause-put g c =
    let o = (goal.at.returns-clause-put g c).After-put_jobs in
    on_ok_weaker c.put_jobs.result (λ put h stands. subst (Appends (g.K.Sink.written c.args.out.now) (g.K.Sink.written c.put_jobs.new.out)) (text g o h stands) put) c.put_jobs.ensures.put

pub returns-clause-part : goal.returns-clause-part
returns-clause-part g c =
    let o = (goal.at.returns-clause-part g c).After-put_jobs in
    on_err_weaker c.put_jobs.result (λ part h stands. subst (AppendsPart (g.K.Sink.written c.args.out.now) (g.K.Sink.written c.put_jobs.new.out)) (text g o h stands) part) c.put_jobs.ensures.part
