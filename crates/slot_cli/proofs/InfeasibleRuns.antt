-- The set of a run that is refused since it is infeasible.
use Rattle.std.proofs.Common.{◌≡◌, ℕ, ◌≤◌, ◌<◌, List, Option, None, Some, Result, Ok, Err, refl, sym, ap, subst, arith}
use Rattle.slot_core.specs.Calls.Results.{◌>>=◌}
use Rattle.slot_core.specs.declared.jobs.Evidence.{Evidence}
use Rattle.slot_core.specs.declared.jobs.Window.{Window}
use Rattle.slot_core.specs.declared.tasks.TaskSet.{TaskSet}
use Rattle.slot_core.specs.Keeping.Plans.{PlanParts}
use Rattle.slot_io.specs.Files.{Held}
use Rattle.faults.specs.declared.table_fault.TableFault.TheVariants.{Infeasible as NoPlan}
use Rattle.command_line.specs.declared.refusal.Refusal.{Refusal}
use Rattle.command_line.specs.declared.refusal.Refusal.TheVariants.{Usage, BadTable, Infeasible, SecondInfeasible}
use Rattle.command_line.specs.Refusals.{Outcome}
use Rattle.command_line.specs.Writings.{Writing, whole_of}
use Rattle.command_line.specs.declared.commands.Command.{Command}
use Rattle.command_line.specs.Commands.{command_of}
use Rattle.run_steps.specs.Readings.{plan_from, second_from}
use Rattle.run_steps.specs.Sets.{set_from, second_set}
use Rattle.run_steps.specs.Stages.{stage_of, stage_due}
use Rattle.run_steps.proofs.RefusedSets.{IsRefused, plan-apart, refused-tasks, refused-table, refused-second}
use Rattle.slot_cli.specs.Due.{writing_for, expected}
use Rattle.slot_cli.specs.Verdicts.{set_of_run}
use Rattle.slot_cli.proofs.TextStages.{writing_after, writing_beside, stage-after, stage-beside}

-- a refusal of an early stage comes before the writing
rest-refuses : (front : List ℕ) (rest : Result (List ℕ) Evidence) (e : Refusal) → stage_of e ≤ 14 → whole_of (record { front = front; rest = rest }) ≡ Err e → ⊥
rest-refuses front (Ok rest) e early is = cc
rest-refuses front (Err evidence) e early is = let stage : 15 ≡ stage_of e = ap stage_due is in absurd (omega (arith, stage, early))

writing-refuses : (due : Outcome Writing) (e : Refusal) → stage_of e ≤ 14 → (due >>= whole_of) ≡ Err e → due ≡ Err e
writing-refuses (Ok w) e early is = absurd (rest-refuses w.front w.rest e early is)
writing-refuses (Err other) e early is = let same : other ≡ e = cc in ap Err same

-- what comes after a step gives no refusal of an earlier stage
step-refuses : {X : Type 0} (n m : ℕ) (made : Outcome X) (next : X → Outcome Writing) (e : Refusal) → n < m → stage_of e ≤ n → ((x : X) → m ≤ stage_due (next x)) → (made >>= next) ≡ Err e → made ≡ Err e
step-refuses n m (Ok x) next e lower early later is =
    let stage : stage_due (next x) ≡ stage_of e = ap stage_due is in absurd (omega (arith, later x, stage, early, lower))
step-refuses n m (Err other) next e lower early later is = let same : other ≡ e = cc in ap Err same

-- the command of a run that is refused so, and the step that refuses it
command-due : (held : Held) (words : List (List ℕ)) (o : Option Command) (e : Refusal) → command_of words ≡ o → (Usage ≡ e → ⊥) → writing_for held words o ≡ Err e → (command : Command) × (command_of words ≡ Some command) × ((plan_from held words command.source >>= writing_after held words command) ≡ Err e)
command-due held words None e writes apart is = let same : Usage ≡ e = cc in absurd (apart same)
command-due held words (Some command) e writes apart is = (command, writes, is)

plan-due : (held : Held) (words : List (List ℕ)) (e : Refusal) → (Usage ≡ e → ⊥) → stage_of e ≤ 4 → expected held words ≡ Err e → (command : Command) × (command_of words ≡ Some command) × (plan_from held words command.source ≡ Err e)
plan-due held words e apart early is =
    let (command, writes, refused) = command-due held words (command_of words) e refl apart (writing-refuses (writing_for held words (command_of words)) e (omega (arith, early)) is) in
    (command, writes, step-refuses 4 5 (plan_from held words command.source) (writing_after held words command) e (omega arith) early (stage-after held words command) refused)

-- of two steps the second refuses, where the refusal is none of the first
second-refuses : (held : Held) (words : List (List ℕ)) (command : Command) (made : Outcome PlanParts) (e : Refusal) → stage_of e ≤ 8 → (made ≡ Err e → ⊥) → (made >>= writing_after held words command) ≡ Err e → second_from held words command.second ≡ Err e
second-refuses held words command (Ok plan) e early apart is =
    step-refuses 8 9 (second_from held words command.second) (writing_beside held words command plan) e (omega arith) early (stage-beside held words command plan) is
second-refuses held words command (Err other) e early apart is = let same : other ≡ e = cc in absurd (apart (ap Err same))

-- the set of the command is that of the run
set-of_run : (held : Held) (words : List (List ℕ)) (command : Command) → command_of words ≡ Some command → set_of_run held words ≡ set_from held words command.source
set-of_run held words command writes = rw writes refl

refused-run : (held : Held) (words : List (List ℕ)) (command : Command) (window : Window) → command_of words ≡ Some command → IsRefused (set_from held words command.source) window → IsRefused (set_of_run held words) window
refused-run held words command window writes refused =
    subst (λ (made : Outcome TaskSet). IsRefused made window) (sym (set-of_run held words command writes)) refused

-- a run that is due to be refused as infeasible, or for a table that is infeasible, has such a set
pub refused-infeasible : (held : Held) (words : List (List ℕ)) (window : Window) → expected held words ≡ Err (Infeasible window) → IsRefused (set_of_run held words) window
refused-infeasible held words window is =
    let (command, writes, refused) = plan-due held words (Infeasible window) (λ same. cc) (omega arith) is in
    refused-run held words command window writes (refused-tasks held words command.source window refused)

pub refused-bad_table : (held : Held) (words : List (List ℕ)) (window : Window) → expected held words ≡ Err (BadTable (NoPlan window)) → IsRefused (set_of_run held words) window
refused-bad_table held words window is =
    let (command, writes, refused) = plan-due held words (BadTable (NoPlan window)) (λ same. cc) (omega arith) is in
    refused-run held words command window writes (refused-table held words command.source window refused)

-- so has one that is due to be refused for its second plan
pub refused-second_infeasible : (held : Held) (words : List (List ℕ)) (window : Window) → expected held words ≡ Err (SecondInfeasible window) → IsRefused (second_set held words) window
refused-second_infeasible held words window is =
    let e = SecondInfeasible window in
    let (command, writes, refused) = command-due held words (command_of words) e refl (λ same. cc) (writing-refuses (writing_for held words (command_of words)) e (omega arith) is) in
    refused-second held words command.second window (second-refuses held words command (plan_from held words command.source) e (omega arith) (plan-apart held words command.source window) refused)
