-- A set that is read is sound.
use Rattle.std.proofs.Common.{◌≡◌, ℕ, true, List, Option, None, Some, Ok, Err, refl, subst}
use Rattle.std.specs.Prelude.{is_none}
use Rattle.std.specs.Option.{option_map_or}
use Rattle.toml.specs.Data.{Members}
use Rattle.slot_core.specs.Calls.Results.{◌>>=◌}
use Rattle.slot_core.specs.declared.faults.TaskFault.{TaskFault}
use Rattle.slot_core.specs.declared.tasks.TaskSet.{TaskSet}
use Rattle.slot_core.specs.Sets.Faults.{set_fault}
use Rattle.slot_core.specs.Sets.Ranges.{is_sound}
use Rattle.task_toml.specs.Reading.{shaped_set, document_of, without_fault, reading_of_tasks}
use Rattle.task_toml.specs.TomlFields.{Read}
use Rattle.task_toml.proofs.ShapeRanges.{shaped_set-Ok}

-- a set without a fault beyond its shape is itself
without_fault-Ok : (set read : TaskSet) (o : Option TaskFault) → option_map_or (λ fault. let r : Read TaskSet = Err fault in r) o (Ok set) ≡ Ok read → (set ≡ read) × (is_none o ≡ true)
without_fault-Ok set read None is = (cc, refl)
without_fault-Ok set read (Some fault) is = cc

is_sound-shape : (members : Members) (set read : TaskSet) → shaped_set members ≡ Ok set → without_fault set ≡ Ok read → is_sound read ≡ true
is_sound-shape members set read shape is =
    let (same, none) = without_fault-Ok set read (set_fault set) is in
    let in_range = shaped_set-Ok members set shape in
    let P : TaskSet → Type 0 = λ s. is_sound s ≡ true in
    subst P same (rw (in_range, none) refl)

is_sound-members : (members : Members) (r : Read TaskSet) (read : TaskSet) → shaped_set members ≡ r → (r >>= without_fault) ≡ Ok read → is_sound read ≡ true
is_sound-members table (Ok set) read shape is = is_sound-shape table set read shape is
is_sound-members table (Err fault) read shape is = cc

is_sound-document : (r : Read Members) (read : TaskSet) → (r >>= (λ members. shaped_set members >>= without_fault)) ≡ Ok read → is_sound read ≡ true
is_sound-document (Ok table) read is = is_sound-members table (shaped_set table) read refl is
is_sound-document (Err fault) read is = cc

-- the set that the bytes of a task file write is sound
pub is_sound-reading : (bytes : List ℕ) (set : TaskSet) → reading_of_tasks bytes ≡ Ok set → is_sound set ≡ true
is_sound-reading bytes set is = is_sound-document (document_of bytes) set is
