-- A line tells what ran in a slot exactly where that may run, the line is that of it, and no job is late after it.
use Rattle.std.proofs.Common.{rules, ◌≡◌, ℕ, List, true, ap, sym, ◌∙◌}
use Rattle.std.specs.Prelude.{Ok, Err}
use Rattle.slot_core.specs.declared.events.Ran.{Ran}
use Rattle.slot_core.specs.declared.events.What.{What}
use Rattle.slot_core.specs.declared.tasks.TaskSet.{TaskSet}
use Rattle.slot_core.specs.Claims.Lawful.{may_run}
use Rattle.slot_core.specs.Runs.Matches.{IsSameScene}
use Rattle.slot_core.specs.Runs.Scenes.{Scene}
use Rattle.slot_core.specs.Runs.Traces.{slot, told_of_slot}
use Rattle.scene_steps.specs.Steps.{after_ran, scene_after}
use Rattle.trace_verify.specs.Verdicts.{told_by}
use Rattle.trace_verify.proofs.LineFacts.{line_in-untold, line_in-differs, line_in-late, line_in-told}
use Rattle.trace_verify.proofs.lines.slot_line.Goals as goal
use Rattle.scene_steps.proofs.Slots.Turns.{scene_after-slot}

-- what a line tells of a slot, and the scene after it, are those of what ran
told_slot : (set : TaskSet) (cycle : ℕ) (scene after : Scene) (n : ℕ) (line : List ℕ) (ran : Ran) (what : What) → what ≡ told_of_slot ran → told_by set cycle scene n slot line ≡ Ok (told_of_slot ran) → IsSameScene after (after_ran set cycle ran scene) → (told_by set cycle scene n slot line ≡ Ok what) × IsSameScene after (scene_after set cycle what scene)
told_slot set cycle scene after n line ran what is told same =
    (told ∙ ap Ok (sym is), rw (is, scene_after-slot set cycle ran scene) same)

pub returns-in_err-ran-clause-told : goal.returns-in_err-ran-clause-told
returns-in_err-ran-clause-told c =
    let plan = c.args.plan.now in
    let fault : c.from_residual.result ≡ Err c.in_err-ran.field-0.0 = search rules in
    rw fault (λ other. line_in-untold plan.tasks plan.cycle c.args.checker.now.scene c.args.n slot c.args.line.now c.in_err-ran.field-0.0 (rw (← c.tasks.ensures.tasks) (c.in_err-ran.ensures.told plan.cycle other)))

pub same_line-requires-clause-checked : goal.same_line-requires-clause-checked
same_line-requires-clause-checked c =
    let may : may_run c.args.plan.now.tasks c.args.checker.now.scene c.in_ok-ran.ran ≡ true = rw (← c.tasks.ensures.tasks) c.in_ok-ran.ensures.may in
    c.requires.after c.in_ok-ran.ran c.pass.new.self.scene may c.in_ok-pass.ensures.scene

pub returns-in_err-same_line-clause-told : goal.returns-in_err-same_line-clause-told
returns-in_err-same_line-clause-told c =
    let plan = c.args.plan.now in
    let scene = c.args.checker.now.scene in
    let after = c.pass.new.self.scene in
    let line = c.args.line.now in
    let what = c.told_of_slot-what.result in
    let (told, same) = told_slot plan.tasks plan.cycle scene after c.args.n line c.in_ok-ran.ran what c.told_of_slot-what.ensures (rw (← c.tasks.ensures.tasks) (c.in_ok-ran.ensures.told plan.cycle)) c.in_ok-pass.ensures.scene in
    let fault : c.from_residual-in_err-same_line.result ≡ Err c.in_err-same_line.field-0.0 = search rules in
    rw fault (λ other. line_in-differs plan.tasks plan.cycle scene c.args.n slot line what c.time-time.result after told c.time-time.ensures same c.in_err-same_line.field-0.0 (c.in_err-same_line.ensures other))

pub returns-in_err-in_time-clause-told : goal.returns-in_err-in_time-clause-told
returns-in_err-in_time-clause-told c =
    let plan = c.args.plan.now in
    let scene = c.args.checker.now.scene in
    let after = c.pass.new.self.scene in
    let line = c.args.line.now in
    let what = c.told_of_slot-what.result in
    let (told, same) = told_slot plan.tasks plan.cycle scene after c.args.n line c.in_ok-ran.ran what c.told_of_slot-what.ensures (rw (← c.tasks.ensures.tasks) (c.in_ok-ran.ensures.told plan.cycle)) c.in_ok-pass.ensures.scene in
    let fault : c.from_residual-in_err-in_time.result ≡ Err c.in_err-in_time.field-0.0 = search rules in
    rw fault (λ other. line_in-late plan.tasks plan.cycle scene c.args.n slot line what c.time-time.result after told c.time-time.ensures same c.in_err-in_time.field-0.0 c.in_ok-same_line.ensures (c.in_err-in_time.ensures other))

pub returns-clause-told : goal.returns-clause-told
returns-clause-told c =
    let plan = c.args.plan.now in
    let scene = c.args.checker.now.scene in
    let after = c.pass.new.self.scene in
    let line = c.args.line.now in
    let what = c.told_of_slot-what.result in
    let (told, same) = told_slot plan.tasks plan.cycle scene after c.args.n line c.in_ok-ran.ran what c.told_of_slot-what.ensures (rw (← c.tasks.ensures.tasks) (c.in_ok-ran.ensures.told plan.cycle)) c.in_ok-pass.ensures.scene in
    (line_in-told plan.tasks plan.cycle scene c.args.n slot line what c.time-time.result after told c.time-time.ensures same c.in_ok-same_line.ensures c.in_ok-in_time.ensures, same)
