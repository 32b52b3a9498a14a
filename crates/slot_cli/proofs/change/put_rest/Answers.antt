-- A change is granted with its text, or refused with its evidence.
use Rattle.std.proofs.Common.{◌≡◌, ℕ, List, Option, None, Some, Result, Ok, Err, refl, sym, ap, subst, ◌∙◌}
use Rattle.slot_core.specs.declared.jobs.Evidence.{Evidence}
use Rattle.slot_core.specs.declared.jobs.Job.{Job}
use Rattle.slot_core.specs.declared.tasks.TaskSet.{TaskSet}
use Rattle.mode_switch.specs.Keeping.{carried_from, change_from}
use Rattle.mode_switch.specs.Parts.{ChangeParts}
use Rattle.mode_switch.specs.Texts.{change_text}
use Rattle.command_line.specs.Writings.{IsRestWriting, IsWriting}
use Rattle.slot_cli.specs.Changed.{change_due}
use Rattle.slot_cli.proofs.ChangedRuns.{change-granted, change-refused}
use Rattle.command_line.proofs.PartWritings.{rest-of_text}
use Rattle.slot_cli.proofs.change.put_rest.Goals as goal

pub returns-in-Ok : goal.returns-in-Ok
returns-in-Ok g c =
    let exec = c.args.exec.now in
    let granted = c.in-Ok.ensures.granted in
    λ h stands.
    let Writes : TaskSet → ChangeParts → Type 0 = λ first change. IsWriting g.K.Sink.written g.K.Sink.faults (change_text first change.plan.tasks change.at change.carried c.args.until) c.put_run.result c.args.out.now c.put_run.new.out in
    let writing = subst (Writes exec.plan.tasks) granted (subst (λ (first : TaskSet). Writes first c.in-Ok.change) c.tasks.ensures.tasks c.put_run.ensures) in
    let due = change-granted exec.plan c.args.second exec.scene.time (carried_from exec.scene.jobs) _ c.args.until (c.in-Ok.ensures.of_history h stands) c.in-Ok.ensures.fits in
    subst (λ (rest : Result (List ℕ) Evidence). IsRestWriting g.K.Sink.written g.K.Sink.faults rest c.put_run.result c.args.out.now c.put_run.new.out) (sym due) (rest-of_text g.K.Sink.written g.K.Sink.faults _ _ _ _ writing)

pub returns-in-Err-Memory : goal.returns-in-Err-Memory
returns-in-Err-Memory g c = λ h stands. refl

pub returns-in-Err-NoRoom : goal.returns-in-Err-NoRoom
returns-in-Err-NoRoom g c =
    let exec = c.args.exec.now in
    let refused = c.open.ensures.evidence c.in-Err-NoRoom.evidence (c.in-Err-NoRoom.is ∙ ap Err c.in-Err-NoRoom.field-0-is) in
    λ h stands. (change-refused exec.plan c.args.second exec.scene.time (carried_from exec.scene.jobs) _ c.args.until _ (c.open.ensures.of_history h stands) refused, refl)
