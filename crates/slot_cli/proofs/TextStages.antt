-- At which stage of the work what is due comes.
use Rattle.std.proofs.Common.{◌≡◌, ℕ, ◌≤◌, List, Option, Result, Ok, Err, refl, arith}
use Rattle.std.specs.Prelude.{⊤}
use Rattle.slot_core.specs.Calls.Results.{◌>>=◌}
use Rattle.slot_core.specs.declared.events.Arrival.{Arrival}
use Rattle.slot_core.specs.declared.jobs.Evidence.{Evidence}
use Rattle.slot_core.specs.Keeping.Plans.{PlanParts}
use Rattle.slot_io.specs.Files.{Held}
use Rattle.command_line.specs.Refusals.{Outcome}
use Rattle.command_line.specs.Writings.{Writing, whole_of}
use Rattle.command_line.specs.declared.commands.Command.{Command}
use Rattle.command_line.specs.Commands.{slots_of}
use Rattle.run_steps.specs.Readings.{plan_from, second_from}
use Rattle.run_steps.specs.Stages.{stage_due}
use Rattle.run_steps.proofs.StageLemmas.{AllFrom, AllFrom-bind, AllFrom-lower, AllFrom-plan, AllFrom-second, AllFrom-arrivals, AllFrom-check, stage-from}
use Rattle.slot_cli.specs.Due.{arrivals_for, check_for, writing_from, writing_of}

-- what a command has to write after each step
abbrev pub writing_when : Command → PlanParts → Option PlanParts → List Arrival → ⊤ → Outcome Writing
writing_when command plan second arrivals checked = Ok (writing_from command plan second arrivals)

abbrev pub writing_with : Held → List (List ℕ) → Command → PlanParts → Option PlanParts → List Arrival → Outcome Writing
writing_with held words command plan second arrivals =
    check_for held words command plan arrivals >>= writing_when command plan second arrivals

abbrev pub writing_beside : Held → List (List ℕ) → Command → PlanParts → Option PlanParts → Outcome Writing
writing_beside held words command plan second =
    arrivals_for held words command plan.tasks >>= writing_with held words command plan second

abbrev pub writing_after : Held → List (List ℕ) → Command → PlanParts → Outcome Writing
writing_after held words command plan =
    second_from held words command.second >>= writing_beside held words command plan

AllFrom-with : (held : Held) (words : List (List ℕ)) (command : Command) (plan : PlanParts) (second : Option PlanParts) (arrivals : List Arrival) → AllFrom 12 (writing_with held words command plan second arrivals)
AllFrom-with held words command plan second arrivals =
    AllFrom-bind 12 (check_for held words command plan arrivals) (writing_when command plan second arrivals) (AllFrom-check held words command.check (slots_of command) plan arrivals) (λ checked. tt)

AllFrom-beside : (held : Held) (words : List (List ℕ)) (command : Command) (plan : PlanParts) (second : Option PlanParts) → AllFrom 9 (writing_beside held words command plan second)
AllFrom-beside held words command plan second =
    AllFrom-bind 9 (arrivals_for held words command plan.tasks) (writing_with held words command plan second) (AllFrom-arrivals held words command.arrivals plan.tasks) (λ arrivals. AllFrom-lower 9 12 (writing_with held words command plan second arrivals) (omega arith) (AllFrom-with held words command plan second arrivals))

AllFrom-after : (held : Held) (words : List (List ℕ)) (command : Command) (plan : PlanParts) → AllFrom 5 (writing_after held words command plan)
AllFrom-after held words command plan =
    AllFrom-bind 5 (second_from held words command.second) (writing_beside held words command plan) (AllFrom-second held words command.second) (λ second. AllFrom-lower 5 9 (writing_beside held words command plan second) (omega arith) (AllFrom-beside held words command plan second))

-- it comes at the stage of the check or later, of the arrivals or later, of the second plan or later
pub stage-with : (held : Held) (words : List (List ℕ)) (command : Command) (plan : PlanParts) (second : Option PlanParts) (arrivals : List Arrival) → 12 ≤ stage_due (writing_with held words command plan second arrivals)
stage-with held words command plan second arrivals =
    stage-from 12 (writing_with held words command plan second arrivals) (omega arith) (AllFrom-with held words command plan second arrivals)

pub stage-beside : (held : Held) (words : List (List ℕ)) (command : Command) (plan : PlanParts) (second : Option PlanParts) → 9 ≤ stage_due (writing_beside held words command plan second)
stage-beside held words command plan second =
    stage-from 9 (writing_beside held words command plan second) (omega arith) (AllFrom-beside held words command plan second)

pub stage-after : (held : Held) (words : List (List ℕ)) (command : Command) (plan : PlanParts) → 5 ≤ stage_due (writing_after held words command plan)
stage-after held words command plan =
    stage-from 5 (writing_after held words command plan) (omega arith) (AllFrom-after held words command plan)

-- the whole comes at the first stage of the work or later
pub stage-writing : (held : Held) (words : List (List ℕ)) (command : Command) → 1 ≤ stage_due (writing_of held words command)
stage-writing held words command =
    stage-from 1 (writing_of held words command) (omega arith) (AllFrom-bind 1 (plan_from held words command.source) (writing_after held words command) (AllFrom-plan held words command.source) (λ plan. AllFrom-lower 1 5 (writing_after held words command plan) (omega arith) (AllFrom-after held words command plan)))

-- the text comes at the stage of its writing
stage-rest : (front : List ℕ) (rest : Result (List ℕ) Evidence) → stage_due (whole_of (record { front = front; rest = rest })) ≡ 15
stage-rest front (Ok rest) = refl
stage-rest front (Err e) = refl

pub stage-whole : (due : Outcome Writing) → stage_due (due >>= whole_of) ≡ stage_due due
stage-whole (Ok w) = stage-rest w.front w.rest
stage-whole (Err e) = refl
