-- The sound set of a plan, before the cycle test.
use Rattle.std.specs.Prelude.{List, ℕ, length, Result, Ok}
use Rattle.std.specs.Result.{result_map_both}
use Rattle.slot_core.specs.Calls.Results.{◌>>=◌}
use Rattle.slot_core.specs.declared.tasks.TaskSet.{TaskSet}
use Rattle.slot_io.specs.Files.{Held}
use Rattle.load_gen.specs.Loads.{load_set}
use Rattle.faults.specs.declared.table_fault.TableFault.{TableFault}
use Rattle.table_codec.specs.Readers.{go_on, value_of}
use Rattle.table_codec.specs.Grammar.{head_form, source_form}
use Rattle.command_line.specs.declared.file.File.TheVariants.{Tasks as TaskFile, Table as TableFile, Second as SecondFile}
use Rattle.command_line.specs.declared.refusal.Refusal.TheVariants.{BadTable}
use Rattle.command_line.specs.Refusals.{Outcome}
use Rattle.command_line.specs.declared.commands.Source.{Source}
use Rattle.command_line.specs.declared.commands.Source.TheVariants.{Tasks, Spelled, Load}
use Rattle.run_steps.specs.Readings.{bytes_of, sound_set}

-- the sound set at the front of a table, which is read before its plan
abbrev pub set_of_table : List ℕ → Result TaskSet TableFault
set_of_table bytes =
    value_of
    (go_on (head_form.read (record { whole = length bytes; left = bytes })) (λ layout.
    (source_form layout).read))

-- the same, with its fault as a refusal
abbrev pub spelled_set : List ℕ → Outcome TaskSet
spelled_set bytes = result_map_both (λ set. set) BadTable (set_of_table bytes)

-- the sound set of a plan, before the cycle test: the one that the bytes of the task file write,
-- the one that those of the table file spell, or that of a load
abbrev pub set_from : Held → List (List ℕ) → Source → Outcome TaskSet
set_from held words Tasks = do
  bytes ← bytes_of held words TaskFile
  sound_set bytes
set_from held words Spelled = do
  bytes ← bytes_of held words TableFile
  spelled_set bytes
set_from held words (Load n) = Ok (load_set n)

-- the sound set of the second plan, before the cycle test
abbrev pub second_set : Held → List (List ℕ) → Outcome TaskSet
second_set held words = do
  bytes ← bytes_of held words SecondFile
  sound_set bytes
