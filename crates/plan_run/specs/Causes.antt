-- Why a question is not answered.
use Rattle.std.specs.Prelude.{◌≡◌, ℕ, ⊤, true, List, Option, Some, Err, IfSome}
use Rattle.slot_core.specs.Calls.Counts.{Rose}
use Rattle.slot_io.specs.Files.{Held}
use Rattle.command_line.specs.declared.file.File.TheVariants.{Tasks}
use Rattle.command_line.specs.declared.refusal.Refusal.{Refusal}
use Rattle.command_line.specs.declared.refusal.Refusal.TheVariants.{Usage, Unreadable, WriteFault, Memory}
use Rattle.command_line.specs.Refusals.{Outcome, is_found, name_of, same_file}

-- the cause of a refusal, over what is due of the files, what they hold, the file that is blamed,
-- and the counts of faults of the files and of the output before and after: the task file cannot
-- be read, which is counted and blamed; a write failed, which is counted; memory ran out; or the
-- bytes of the file call for it
abbrev pub IsCause : {X : Type 0} → List (List ℕ) → (Held → Outcome X) → Option Held
    → Option (List ℕ) → ℕ × ℕ → ℕ × ℕ → Refusal → Type 0
IsCause words due held blamed of_files of_output (Unreadable file) =
    (same_file Tasks file ≡ true)
    × Rose of_files.0 of_files.1 × (blamed ≡ Some (name_of words file))
IsCause words due held blamed of_files of_output WriteFault = Rose of_output.0 of_output.1
IsCause words due held blamed of_files of_output Memory = ⊤
IsCause words due held blamed of_files of_output Usage = ⊥
IsCause words due held blamed of_files of_output e =
    (is_found e ≡ true) × IfSome held (λ files. due files ≡ Err e)
