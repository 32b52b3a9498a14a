-- What a run has to answer.
use Rattle.std.specs.Prelude.{◌≡◌, ℕ, ◌+◌, ◌≤◌, ◌⊎◌, ⊤, Bool, true, false, not, List, Option, None, Some, Ok, Err, IfSome}
use Rattle.std.specs.Io.KnownBytes.{Appends}
use Rattle.slot_core.specs.declared.jobs.Evidence.{Evidence}
use Rattle.slot_io.specs.Files.{Held}
use Rattle.command_line.specs.declared.file.File.{File}
use Rattle.command_line.specs.declared.refusal.Refusal.{Refusal}
use Rattle.command_line.specs.declared.refusal.Refusal.TheVariants.{Unreadable, TooLarge, NotCycleEnd, NoChange, WriteFault, Memory}
use Rattle.command_line.specs.declared.status.Status.{Status}
use Rattle.command_line.specs.Refusals.{Outcome, limit_of, name_of, status_of, fault_line}
use Rattle.command_line.specs.Reports.{IsTold}
use Rattle.command_line.specs.Writings.{Writing, IsPut, leaves_output}
use Rattle.command_line.specs.declared.commands.Command.{Command}
use Rattle.command_line.specs.Commands.{command_of, reads, writes_in_parts}
use Rattle.run_steps.specs.Stages.{stage_of, stage_due}
use Rattle.slot_cli.specs.Due.{expected, writing_due}

-- the command reads this file
abbrev pub Reads : Option Command → File → Type 0
Reads None file = ⊥
Reads (Some command) file = reads command file ≡ true

-- the command puts its text in parts
abbrev pub in_parts : Option Command → Bool
in_parts None = false
in_parts (Some command) = writes_in_parts command.output

-- a run of this status leaves the output as it was, whatever the files hold; of a command that puts
-- its text in parts this is not said where memory ran out or a change is refused
abbrev pub leaves_output_at : Bool → Status → Bool
leaves_output_at parts Status.Done = false
leaves_output_at parts Status.WriteFault = false
leaves_output_at parts Status.Memory = not parts
leaves_output_at parts Status.SwitchRefused = not parts
leaves_output_at parts _ = true

-- a file that the command reads is too large: the last read that gave bytes was of its name, and
-- it gave a byte more than the file may have
abbrev pub IsTooLarge : List (List ℕ) → Option (List ℕ × ℕ) → File → Type 0
IsTooLarge words given file =
    Reads (command_of words) file × (given ≡ Some (name_of words file, limit_of file + 1))

-- a fault of a file that the command reads, or of the output
abbrev pub IsHostFault : Option Command → Refusal → Type 0
IsHostFault command (Unreadable file) = Reads command file
IsHostFault (Some command) WriteFault = ⊤
IsHostFault command _ = ⊥

-- the outcome of the command is the one that is due, or want of memory, or a fault of the host at a
-- stage that is reached: no later than that of what is due
abbrev pub IsAnswerTo : {X : Type 0} → Option Command → Outcome (List ℕ) → Outcome X → Type 0
IsAnswerTo command due (Ok done) = (text : List ℕ) × (due ≡ Ok text)
IsAnswerTo command due (Err refusal) =
    (due ≡ Err refusal) ⊎ ((refusal ≡ Memory)
    ⊎ (IsHostFault command refusal × (stage_of refusal ≤ stage_due due)))

-- the output is as it was, or has the front of what is due
abbrev pub HasFrontAtMost : Outcome Writing → Option (List ℕ) → Option (List ℕ) → Type 0
HasFrontAtMost (Ok w) before after = (after ≡ before) ⊎ Appends before after w.front
HasFrontAtMost (Err e) before after = after ≡ before

-- a change of plan is refused: no cycle ends there, and nothing is written, or there is no room and
-- the front of what is due is written
abbrev pub IsRefusedChange :
    List (List ℕ) → Held → Option (List ℕ) → Option (List ℕ) → Type 0
IsRefusedChange words held before after =
    ((cycle : ℕ) × (expected held words ≡ Err (NotCycleEnd cycle)) × (after ≡ before))
    ⊎ ((e : Evidence) × (expected held words ≡ Err (NoChange e))
    × ((w : Writing) → writing_due held words ≡ Ok w → Appends before after w.front))

-- a run as a whole: one outcome is what the caller, the files, the output and standard error see
pub record IsRun (words : List (List ℕ)) (held : Option Held) (blamed : Option (List ℕ))
    (given : Option (List ℕ × ℕ)) (out_before out_after err_before err_after : Option (List ℕ))
    (faults_before faults_after : ℕ) (status : Status) : Type 0 where
  -- how the run comes out
  pub outcome : Outcome (Unit {0})
  -- the caller is told its status
  pub has_status : status ≡ status_of outcome
  -- it is what the bytes of the files call for, or want of memory, or a fault of the host at a
  -- stage that is reached
  pub answers : IfSome held (λ files. IsAnswerTo (command_of words) (expected files words) outcome)
  -- the output gets what is due, or as much of it as stands where the run comes out so
  pub written : IfSome held (λ files. (w : Writing) → writing_due files words ≡ Ok w
      → IsPut outcome w out_before out_after)
  -- and nothing where the run is refused before it
  pub early : IfSome held (λ files. (e : Refusal) → writing_due files words ≡ Err e
      → out_after ≡ out_before)
  -- and nothing on a refusal that leaves the output, whatever the files hold
  pub untouched : (e : Refusal) → outcome ≡ Err e
      → leaves_output (in_parts (command_of words)) e ≡ true → out_after ≡ out_before
  -- a file that cannot be read is one that the command reads, and its name is blamed
  pub blames : (file : File) → outcome ≡ Err (Unreadable file)
      → Reads (command_of words) file × (blamed ≡ Some (name_of words file))
  -- and one that is too large is so
  pub sizes : (file : File) → outcome ≡ Err (TooLarge file)
      → IsTooLarge words given file
  -- standard error gets the line of the outcome: nothing where the run is done
  pub told : IsTold (fault_line words outcome) err_before err_after faults_before faults_after
