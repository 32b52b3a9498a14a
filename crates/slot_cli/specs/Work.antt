-- What the work of a command answers.
use Rattle.std.specs.Prelude.{◌≡◌, ◌↔◌, ℕ, ◌+◌, true, List, Option, None, Some, Ok, Err, IfOk, IfErr}
use Rattle.slot_core.specs.Calls.Counts.{Rose}
use Rattle.slot_io.specs.Files.{Held}
use Rattle.command_line.specs.declared.file.File.{File}
use Rattle.command_line.specs.declared.refusal.Refusal.{Refusal}
use Rattle.command_line.specs.declared.refusal.Refusal.TheVariants.{Usage, Unreadable, TooLarge, WriteFault}
use Rattle.command_line.specs.Refusals.{Outcome, limit_of, name_of}
use Rattle.command_line.specs.Writings.{Writing, IsPut, leaves_output}
use Rattle.command_line.specs.declared.commands.Command.{Command}
use Rattle.slot_cli.specs.Due.{due_of, writing_for}
use Rattle.slot_cli.specs.Runs.{Reads, IsAnswerTo, in_parts}

-- the work of a command, over files of which contracts see `held`, `faults`, `blamed` and `given`,
-- and an output of which they see `written` and `failed`
pub record IsWork {S T X : Type 0} (held : S → Option Held) (faults : S → ℕ)
    (blamed : S → Option (List ℕ)) (given : S → Option (List ℕ × ℕ))
    (written : T → Option (List ℕ)) (failed : T → ℕ)
    (files_before files_after : S) (out_before out_after : T) (words : List (List ℕ))
    (command : Option Command) (result : Outcome X) : Type 0 where
  -- what it answers
  pub answers : (files : Held) → held files_before ≡ Some files
      → IsAnswerTo command (due_of files words command) result
  -- it is refused for its words exactly where they write no command
  pub usage : (result ≡ Err Usage) ↔ (command ≡ None)
  -- who is blamed: the name of a file that the command reads, for a fault that is counted
  pub blames : (file : File) → result ≡ Err (Unreadable file)
      → Reads command file × Rose (faults files_before) (faults files_after)
      × (blamed files_after ≡ Some (name_of words file))
  -- what is too large: a file that the command reads, of which a byte more than its limit came
  pub sizes : (file : File) → result ≡ Err (TooLarge file)
      → Reads command file × (given files_after ≡ Some (name_of words file, limit_of file + 1))
  -- what is written of what is due, and that nothing is where it is refused before
  pub writes : (files : Held) → held files_before ≡ Some files → (w : Writing)
      → writing_for files words command ≡ Ok w
      → IsPut result w (written out_before) (written out_after)
  pub early : (files : Held) → held files_before ≡ Some files → (e : Refusal)
      → writing_for files words command ≡ Err e → out_after ≡ out_before
  -- a write that fails is counted
  pub counts : result ≡ Err WriteFault → Rose (failed out_before) (failed out_after)
  -- where it is done no read has failed
  pub reads_well : IfOk result (λ _. faults files_after ≡ faults files_before)
  -- what stays untouched: the output on a refusal that leaves it, the files on one for the words
  pub output : IfErr result (λ e. leaves_output (in_parts command) e ≡ true
      → out_after ≡ out_before)
  pub files : result ≡ Err Usage → files_after ≡ files_before
