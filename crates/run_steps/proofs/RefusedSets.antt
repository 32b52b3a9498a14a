-- The set of a plan that is refused since it is infeasible.
use Rattle.std.proofs.Common.{◌≡◌, ℕ, Bool, true, false, List, length, Option, None, Some, Result, Ok, Err, refl, ap, ◌∙◌}
use Rattle.std.specs.Prelude.{nat_lt, if◌then◌else◌}
use Rattle.std.specs.Option.{option_map_or}
use Rattle.std.specs.Result.{result_map_both}
use Rattle.slot_core.specs.Calls.Results.{◌>>=◌}
use Rattle.slot_core.specs.declared.jobs.Window.{Window}
use Rattle.slot_core.specs.declared.tasks.TaskSet.{TaskSet}
use Rattle.slot_core.specs.Sets.Cycles.{cycle_of}
use Rattle.slot_core.specs.Feasibility.Feasible.{counterexample}
use Rattle.slot_core.specs.Keeping.Plans.{PlanParts, planned}
use Rattle.slot_core.specs.Sets.Ranges.{is_sound}
use Rattle.slot_io.specs.Files.{Held, first_bytes}
use Rattle.faults.specs.declared.table_fault.TableFault.{TableFault}
use Rattle.faults.specs.declared.table_fault.TableFault.TheVariants.{Infeasible as NoPlan}
use Rattle.table_codec.specs.Grammar.{reading_of_table}
use Rattle.table_codec.proofs.Refusals.{IsTableSet-refused}
use Rattle.task_toml.specs.Reading.{reading_of_tasks}
use Rattle.task_toml.specs.TomlFields.{Read as TomlRead}
use Rattle.command_line.specs.declared.file.File.{File}
use Rattle.command_line.specs.declared.file.File.TheVariants.{Tasks as TaskFile, Table as TableFile, Second as SecondFile}
use Rattle.command_line.specs.declared.refusal.Refusal.{Refusal}
use Rattle.command_line.specs.declared.refusal.Refusal.TheVariants.{Unreadable, TooLarge, BadTasks, BadTable, Infeasible, SecondInfeasible}
use Rattle.command_line.specs.Refusals.{Outcome, name_of, limit_of}
use Rattle.command_line.specs.declared.commands.Second.{Second}
use Rattle.command_line.specs.declared.commands.Second.TheVariants.{Unread, Read}
use Rattle.command_line.specs.declared.commands.Source.{Source}
use Rattle.command_line.specs.declared.commands.Source.TheVariants.{Tasks, Spelled, Load}
use Rattle.run_steps.specs.Readings.{limited_bytes, bytes_of, sound_set, feasible_plan, planned_plan, spelled_plan, plan_from, of_second, second_plan, second_from}
use Rattle.run_steps.specs.Sets.{set_of_table, spelled_set, set_from, second_set}
use Rattle.run_steps.proofs.SourcePlans.{is_sound-from_bytes}

-- a refusal that the first of two steps does not give is that of the second
second_refuses : {X Y : Type 0} (first : Outcome X) (next : X → Outcome Y) (e : Refusal) → (first ≡ Err e → ⊥) → (first >>= next) ≡ Err e → (x : X) × (first ≡ Ok x) × (next x ≡ Err e)
second_refuses (Ok x) next e apart is = (x, refl, is)
second_refuses (Err other) next e apart is = let same : other ≡ e = cc in absurd (apart (ap Err same))

-- a step after one that gives a value
step_after : {X Y : Type 0} (first : Outcome X) (next : X → Outcome Y) (x : X) (y : Outcome Y) → first ≡ Ok x → next x ≡ y → (first >>= next) ≡ y
step_after (Ok given) next x y is after = let same : given ≡ x = cc in ap next same ∙ after
step_after (Err e) next x y is after = cc

-- the refusal of a file that is read, where it is none of the two that a reading gives
limited_bytes-apart : (file : File) (bytes : List ℕ) (large : Bool) (e : Refusal) → (TooLarge file ≡ e → ⊥) → (let o : Outcome (List ℕ) = if large then Err (TooLarge file) else Ok bytes in o) ≡ Err e → ⊥
limited_bytes-apart file bytes true e apart is = let same : TooLarge file ≡ e = cc in apart same
limited_bytes-apart file bytes false e apart is = cc

read-apart : (file : File) (o : Option (List ℕ)) (e : Refusal) → (Unreadable file ≡ e → ⊥) → (TooLarge file ≡ e → ⊥) → option_map_or (limited_bytes file) o (Err (Unreadable file)) ≡ Err e → ⊥
read-apart file None e unread large is = let same : Unreadable file ≡ e = cc in unread same
read-apart file (Some bytes) e unread large is =
    limited_bytes-apart file bytes (nat_lt (limit_of file) (length bytes)) e large is

bytes-apart : (held : Held) (words : List (List ℕ)) (file : File) (e : Refusal) → (Unreadable file ≡ e → ⊥) → (TooLarge file ≡ e → ⊥) → bytes_of held words file ≡ Err e → ⊥
bytes-apart held words file e unread large is =
    read-apart file (first_bytes held (name_of words file) (limit_of file)) e unread large is

-- a value that is read, or a fault that is refused so, gives no other refusal
kept-apart : {X F : Type 0} (r : Result X F) (refuse : F → Refusal) (e : Refusal) → ((fault : F) → refuse fault ≡ e → ⊥) → (let o : Outcome X = result_map_both (λ x. x) refuse r in o) ≡ Err e → ⊥
kept-apart (Ok x) refuse e apart is = cc
kept-apart (Err fault) refuse e apart is = let same : refuse fault ≡ e = cc in apart fault same

-- what the cycle test refuses a set for is the counterexample
tested-found : (plan : PlanParts) (o : Option Window) (window : Window) → (let s : Outcome PlanParts = option_map_or (λ w. Err (Infeasible w)) o (Ok plan) in s) ≡ Err (Infeasible window) → o ≡ Some window
tested-found plan None window is = cc
tested-found plan (Some found) window is = let same : found ≡ window = cc in ap Some same

tested-apart : (plan : PlanParts) (o : Option Window) (e : Refusal) → ((w : Window) → Infeasible w ≡ e → ⊥) → (let s : Outcome PlanParts = option_map_or (λ w. Err (Infeasible w)) o (Ok plan) in s) ≡ Err e → ⊥
tested-apart plan None e apart is = cc
tested-apart plan (Some found) e apart is = let same : Infeasible found ≡ e = cc in apart found same

-- the fault of a table is that of its reading
table-fault : (r : Result PlanParts TableFault) (fault : TableFault) → (let o : Outcome PlanParts = result_map_both (λ (plan : PlanParts). plan) BadTable r in o) ≡ Err (BadTable fault) → r ≡ Err fault
table-fault (Ok plan) fault is = cc
table-fault (Err other) fault is = let same : other ≡ fault = cc in ap Err same

-- the set of a table is that of its reading
spelled-set : (bytes : List ℕ) (set : TaskSet) → set_of_table bytes ≡ Ok set → spelled_set bytes ≡ Ok set
spelled-set bytes set is =
    let refused : Result TaskSet TableFault → Outcome TaskSet = λ r. result_map_both (λ (s : TaskSet). s) BadTable r in ap refused is

-- a sound set that is refused for this window
pub record IsRefused (made : Outcome TaskSet) (window : Window) : Type 0 where
  pub set : TaskSet
  pub writes : made ≡ Ok set
  pub sound : is_sound set ≡ true
  pub found : counterexample set (cycle_of set) ≡ Some window

-- a plan that is refused as infeasible is that of the task file, whose set has this counterexample
pub refused-tasks : (held : Held) (words : List (List ℕ)) (source : Source) (window : Window) → plan_from held words source ≡ Err (Infeasible window) → IsRefused (set_from held words source) window
refused-tasks held words Tasks window is =
    let e = Infeasible window in
    let (bytes, read, refused) = second_refuses (bytes_of held words TaskFile) planned_plan e (bytes-apart held words TaskFile e (λ same. cc) (λ same. cc)) is in
    let (set, writes, found) = second_refuses (sound_set bytes) feasible_plan e (kept-apart (reading_of_tasks bytes) BadTasks e (λ fault same. cc)) refused in
    record {
      set = set;
      writes = step_after (bytes_of held words TaskFile) sound_set bytes (Ok set) read writes;
      sound = is_sound-from_bytes bytes set writes;
      found = tested-found (planned set) (counterexample set (cycle_of set)) window found;
    }
refused-tasks held words Spelled window is =
    let e = Infeasible window in
    let (bytes, read, refused) = second_refuses (bytes_of held words TableFile) spelled_plan e (bytes-apart held words TableFile e (λ same. cc) (λ same. cc)) is in
    absurd (kept-apart (reading_of_table bytes) BadTable e (λ fault same. cc) refused)
refused-tasks held words (Load n) window is = cc

-- one that is refused for a table that is infeasible is that of the table file
pub refused-table : (held : Held) (words : List (List ℕ)) (source : Source) (window : Window) → plan_from held words source ≡ Err (BadTable (NoPlan window)) → IsRefused (set_from held words source) window
refused-table held words Tasks window is =
    let e = BadTable (NoPlan window) in
    let (bytes, read, refused) = second_refuses (bytes_of held words TaskFile) planned_plan e (bytes-apart held words TaskFile e (λ same. cc) (λ same. cc)) is in
    let (set, writes, found) = second_refuses (sound_set bytes) feasible_plan e (kept-apart (reading_of_tasks bytes) BadTasks e (λ fault same. cc)) refused in
    absurd (tested-apart (planned set) (counterexample set (cycle_of set)) e (λ w same. cc) found)
refused-table held words Spelled window is =
    let e = BadTable (NoPlan window) in
    let (bytes, read, refused) = second_refuses (bytes_of held words TableFile) spelled_plan e (bytes-apart held words TableFile e (λ same. cc) (λ same. cc)) is in
    let t = IsTableSet-refused bytes window (table-fault (reading_of_table bytes) (NoPlan window) refused) in
    record {
      set = t.set;
      writes = step_after (bytes_of held words TableFile) spelled_set bytes (Ok t.set) read (spelled-set bytes t.set t.spelled);
      sound = t.sound;
      found = t.found;
    }
refused-table held words (Load n) window is = cc

-- no first plan is refused as a second one is
pub plan-apart : (held : Held) (words : List (List ℕ)) (source : Source) (window : Window) → plan_from held words source ≡ Err (SecondInfeasible window) → ⊥
plan-apart held words Tasks window is =
    let e = SecondInfeasible window in
    let (bytes, read, refused) = second_refuses (bytes_of held words TaskFile) planned_plan e (bytes-apart held words TaskFile e (λ same. cc) (λ same. cc)) is in
    let (set, writes, found) = second_refuses (sound_set bytes) feasible_plan e (kept-apart (reading_of_tasks bytes) BadTasks e (λ fault same. cc)) refused in
    tested-apart (planned set) (counterexample set (cycle_of set)) e (λ w same. cc) found
plan-apart held words Spelled window is =
    let e = SecondInfeasible window in
    let (bytes, read, refused) = second_refuses (bytes_of held words TableFile) spelled_plan e (bytes-apart held words TableFile e (λ same. cc) (λ same. cc)) is in
    kept-apart (reading_of_table bytes) BadTable e (λ fault same. cc) refused
plan-apart held words (Load n) window is = cc

-- a second plan that is refused as infeasible is that of a set with this counterexample
second-tested : (plan : PlanParts) (o : Option Window) (window : Window) → (let s : Outcome (Option PlanParts) = result_map_both Some of_second (option_map_or (λ w. Err (Infeasible w)) o (Ok plan)) in s) ≡ Err (SecondInfeasible window) → o ≡ Some window
second-tested plan None window is = cc
second-tested plan (Some found) window is = let same : found ≡ window = cc in ap Some same

second-made : (r : TomlRead TaskSet) (window : Window) → (let s : Outcome (Option PlanParts) = result_map_both Some of_second (result_map_both (λ (set : TaskSet). set) BadTasks r >>= feasible_plan) in s) ≡ Err (SecondInfeasible window) → (set : TaskSet) × (r ≡ Ok set) × (counterexample set (cycle_of set) ≡ Some window)
second-made (Ok set) window is = (set, refl, second-tested (planned set) (counterexample set (cycle_of set)) window is)
second-made (Err fault) window is = cc

pub refused-second : (held : Held) (words : List (List ℕ)) (second : Second) (window : Window) → second_from held words second ≡ Err (SecondInfeasible window) → IsRefused (second_set held words) window
refused-second held words Unread window is = cc
refused-second held words Read window is =
    let e = SecondInfeasible window in
    let (bytes, read, refused) = second_refuses (bytes_of held words SecondFile) second_plan e (bytes-apart held words SecondFile e (λ same. cc) (λ same. cc)) is in
    let (set, made, found) = second-made (reading_of_tasks bytes) window refused in
    let writes : sound_set bytes ≡ Ok set = ap (λ (r : TomlRead TaskSet). let o : Outcome TaskSet = result_map_both (λ (s : TaskSet). s) BadTasks r in o) made in
    record {
      set = set;
      writes = step_after (bytes_of held words SecondFile) sound_set bytes (Ok set) read writes;
      sound = is_sound-from_bytes bytes set writes;
      found = found;
    }
