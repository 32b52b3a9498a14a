-- The line that is put is that of a look.
use Rattle.std.proofs.Common.{subst, sym, ap, ◌∙◌}
use Rattle.std.proofs.lemmas.Result.{on_ok_weaker, on_err_weaker}
use Rattle.slot_core.specs.declared.tasks.TaskSet.{TaskSet}
use Rattle.slot_core.specs.Keeping.Executives.{StandsFor}
use Rattle.slot_core.specs.Runs.Arrivals.{what_in_set}
use Rattle.slot_core.specs.Runs.Histories.{History}
use Rattle.slot_core.specs.Runs.Traces.{told_of_slot}
use Rattle.live_run.specs.Looks.{look_line, TellsLook}
use Rattle.live_run.proofs.LookLemmas.{looked-named, TellsLook-told}
use Rattle.live_run.proofs.looks.look.Given.{Over}
use Rattle.live_run.proofs.looks.look.Goals as goal
use Rattle.live_run.proofs.looks.look.Goals.{After-put_answer}

pub look_line-line-requires : goal.look_line-line-requires
look_line-line-requires g c =
    let exec = c.args.exec.now in
    let ran = c.ahead-ran.result.0 in
    let count = c.ahead-ran.result.1 in
    record {
      named = ap (λ (s : TaskSet). what_in_set s (told_of_slot ran)) c.tasks.ensures.tasks ∙ looked-named exec ran count c.tasks.ensures.plan c.now-now.ensures.stands c.ahead-ran.ensures.some c.ahead-ran.ensures.same;
    }

-- the line is that of a look
told : (g : Over) (c : After-put_answer g) (h : History) → StandsFor c.args.exec.now h → TellsLook c.args.exec.now.plan.tasks c.args.exec.now.plan.cycle h c.args.most c.bytes.result.now
told g c h stands =
    let exec = c.args.exec.now in
    let ran = c.ahead-ran.result.0 in
    let count = c.ahead-ran.result.1 in
    let line = c.bytes.ensures ∙ (c.look_line-line.ensures ∙ ap (λ (s : TaskSet). look_line s (told_of_slot ran) count) c.tasks.ensures.tasks) in
    subst (TellsLook exec.plan.tasks exec.plan.cycle h c.args.most) (sym line)
    (TellsLook-told exec c.args.most count ran h stands c.ahead-ran.ensures.some c.ahead-ran.ensures.few c.ahead-ran.ensures.within (c.ahead-ran.ensures.same h stands) (c.ahead-ran.ensures.longest h stands))

pub returns-clause-put : goal.returns-clause-put
returns-clause-put g c =
    let o = (goal.at.returns-clause-put g c).After-put_answer in
    on_ok_weaker c.put_answer.result (λ put h stands. (c.bytes.result.now, told g o h stands, put)) c.put_answer.ensures.put

pub returns-clause-part : goal.returns-clause-part
returns-clause-part g c =
    let o = (goal.at.returns-clause-part g c).After-put_answer in
    on_err_weaker c.put_answer.result (λ part h stands. (c.bytes.result.now, told g o h stands, part)) c.put_answer.ensures.part
