-- What the outcome of the cycle test says of slot schedules, in the words of a run.
use Rattle.std.specs.Prelude.{◌≡◌, ◌⊎◌, ℕ, List, Option, Ok, Err}
use Rattle.std.specs.Option.{option_map_or}
use Rattle.slot_core.specs.declared.jobs.Window.{Window}
use Rattle.slot_core.specs.declared.tasks.TaskSet.{TaskSet}
use Rattle.slot_core.specs.Claims.Futures.{CyclesCanBeServed, DensestLeavesNone}
use Rattle.slot_core.specs.Keeping.Plans.{PlanParts}
use Rattle.slot_io.specs.Files.{Held}
use Rattle.faults.specs.declared.table_fault.TableFault.TheVariants.{Infeasible as NoPlan}
use Rattle.command_line.specs.declared.refusal.Refusal.{Refusal}
use Rattle.command_line.specs.declared.refusal.Refusal.TheVariants.{Usage, Infeasible, BadTable, SecondInfeasible}
use Rattle.command_line.specs.declared.status.Status.{Status}
use Rattle.command_line.specs.Refusals.{Outcome, refusal_line}
use Rattle.command_line.specs.Reports.{IsTold}
use Rattle.command_line.specs.Commands.{command_of}
use Rattle.run_steps.specs.Sets.{set_from, second_set}
use Rattle.slot_cli.specs.Due.{plan_of_run, expected}

-- the sound set of the words' command, if they write one
abbrev pub set_of_run : Held → List (List ℕ) → Outcome TaskSet
set_of_run held words =
    option_map_or
    (λ command. set_from held words command.source)
    (command_of words)
    (Err Usage)

-- a run that is refused since the set that is made does not fit: the set, and what the window that
-- fails shows
pub record IsInfeasibleRun (words : List (List ℕ)) (held : Held) (made : Outcome TaskSet)
    (refusal : Refusal) (window : Window) (err_before err_after : Option (List ℕ))
    (faults_before faults_after : ℕ)
    : Type 0 where
  -- the set, before the cycle test
  pub set : TaskSet
  pub writes : made ≡ Ok set
  -- the refusal is due, and the line on standard error tells it
  pub due : expected held words ≡ Err refusal
  pub told : IsTold (refusal_line words refusal) err_before err_after faults_before faults_after
  -- three cycles of the set cannot be served, whatever the scheduler
  pub fails : ¬ (CyclesCanBeServed set 3)
  -- and the arrivals that show it are the densest from the start of the window on
  pub shown : DensestLeavesNone set window.from

-- what a run says of its plan, and of a set that has none, over slot schedules
pub record RunMeansSchedules (words : List (List ℕ)) (held : Held)
    (err_before err_after : Option (List ℕ)) (faults_before faults_after : ℕ)
    (status : Status) : Type 0 where
  -- a plan: any number of cycles of its set can be served, whatever legal arrivals come
  pub fits : (plan : PlanParts) → plan_of_run held words ≡ Ok plan
      → (cycles : ℕ) → CyclesCanBeServed plan.tasks cycles
  -- a set that is refused as infeasible, that of the plan or that of the second one: three of its
  -- cycles cannot, and the window of the refusal tells from when on the arrivals show it
  pub fails : status ≡ Status.Infeasible → (window : Window)
      × (IsInfeasibleRun words held (set_of_run held words) (Infeasible window) window
      err_before err_after faults_before faults_after
      ⊎ IsInfeasibleRun words held (second_set held words) (SecondInfeasible window) window
      err_before err_after faults_before faults_after)
  -- a table that is refused since its set is infeasible: the same
  pub table_fails : status ≡ Status.BadTable → (window : Window)
      → expected held words ≡ Err (BadTable (NoPlan window))
      → IsInfeasibleRun words held (set_of_run held words) (BadTable (NoPlan window)) window
      err_before err_after faults_before faults_after
