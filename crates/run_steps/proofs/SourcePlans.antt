-- The plan of a command is a plan.
use Rattle.std.proofs.Common.{◌≡◌, ℕ, ◌≤◌, true, List, Option, None, Some, Result, Ok, Err, refl, ap, subst}
use Rattle.std.specs.Option.{option_map_or}
use Rattle.std.specs.Result.{result_map_both}
use Rattle.slot_core.specs.Calls.Results.{◌>>=◌}
use Rattle.slot_core.specs.declared.TheConstants.{LOAD_LIMIT}
use Rattle.slot_core.specs.declared.jobs.Window.{Window}
use Rattle.slot_core.specs.declared.tasks.TaskSet.{TaskSet}
use Rattle.slot_core.specs.Sets.Cycles.{cycle_of}
use Rattle.slot_core.specs.Feasibility.Feasible.{counterexample}
use Rattle.slot_core.specs.Keeping.Plans.{PlanParts, IsPlan, planned}
use Rattle.slot_core.specs.Sets.Ranges.{is_sound}
use Rattle.slot_io.specs.Files.{Held}
use Rattle.load_gen.specs.Loads.{load_set}
use Rattle.load_gen.proofs.Sound.{load_set-sound}
use Rattle.load_gen.proofs.Feasible.{load_set-feasible}
use Rattle.task_toml.specs.Reading.{reading_of_tasks}
use Rattle.task_toml.specs.TomlFields.{Read as TomlRead}
use Rattle.task_toml.proofs.SoundReadings.{is_sound-reading}
use Rattle.slot_facts.proofs.Demand.Feasible.{IsFeasible-from_none}
use Rattle.slot_facts.proofs.Plans.Planned.{IsPlan-planned}
use Rattle.faults.specs.declared.table_fault.TableFault.{TableFault}
use Rattle.table_codec.specs.Grammar.{reading_of_table}
use Rattle.table_codec.proofs.TableLaws.{settled-from_reading}
use Rattle.command_line.specs.declared.file.File.TheVariants.{Tasks as TaskFile, Table as TableFile, Second as SecondFile}
use Rattle.command_line.specs.declared.refusal.Refusal.TheVariants.{BadTasks, BadTable, Infeasible}
use Rattle.command_line.specs.Refusals.{Outcome}
use Rattle.command_line.specs.declared.commands.Second.{Second}
use Rattle.command_line.specs.declared.commands.Second.TheVariants.{Unread, Read}
use Rattle.command_line.specs.declared.commands.Source.{Source}
use Rattle.command_line.specs.declared.commands.Source.TheVariants.{Tasks, Spelled, Load}
use Rattle.command_line.specs.Commands.{IsLoadNumber}
use Rattle.run_steps.specs.Readings.{bytes_of, sound_set, feasible_plan, planned_plan, spelled_plan, plan_from, of_second, second_plan, second_from}

-- ---- the task file

is_sound-read : (r : TomlRead TaskSet) (read : TaskSet) → ((set : TaskSet) → r ≡ Ok set → is_sound set ≡ true) → (let s : Outcome TaskSet = result_map_both (λ set. set) BadTasks r in s) ≡ Ok read → is_sound read ≡ true
is_sound-read (Ok set) read sound is = let P : TaskSet → Type 0 = λ s. is_sound s ≡ true in let same : set ≡ read = cc in subst P same (sound set refl)
is_sound-read (Err fault) read sound is = cc

-- the set that the bytes of the task file write is sound
pub is_sound-from_bytes : (bytes : List ℕ) (set : TaskSet) → sound_set bytes ≡ Ok set → is_sound set ≡ true
is_sound-from_bytes bytes set is = is_sound-read (reading_of_tasks bytes) set (is_sound-reading bytes) is

feasible-Ok : (made plan : PlanParts) (o : Option Window) → (let s : Outcome PlanParts = option_map_or (λ window. Err (Infeasible window)) o (Ok made) in s) ≡ Ok plan → (made ≡ plan) × (o ≡ None)
feasible-Ok made plan None is = (cc, refl)
feasible-Ok made plan (Some window) is = cc

IsPlan-tested : (set : TaskSet) (plan : PlanParts) → is_sound set ≡ true → feasible_plan set ≡ Ok plan → IsPlan plan
IsPlan-tested set plan sound is =
    let (same, none) = feasible-Ok (planned set) plan (counterexample set (cycle_of set)) is in
    subst IsPlan same (IsPlan-planned set sound (IsFeasible-from_none set (cycle_of set) none))

IsPlan-loaded : (bytes : List ℕ) (loaded : Outcome TaskSet) (plan : PlanParts) → sound_set bytes ≡ loaded → (loaded >>= feasible_plan) ≡ Ok plan → IsPlan plan
IsPlan-loaded bytes (Ok set) plan read is = IsPlan-tested set plan (is_sound-from_bytes bytes set read) is
IsPlan-loaded bytes (Err refusal) plan read is = cc

IsPlan-tasks : (read : Outcome (List ℕ)) (plan : PlanParts) → (read >>= planned_plan) ≡ Ok plan → IsPlan plan
IsPlan-tasks (Ok bytes) plan is = IsPlan-loaded bytes (sound_set bytes) plan refl is
IsPlan-tasks (Err refusal) plan is = cc

-- ---- the table file

-- a table gives the plan of a sound and feasible set
pub IsPlan-reading : (bytes : List ℕ) (plan : PlanParts) → reading_of_table bytes ≡ Ok plan → IsPlan plan
IsPlan-reading bytes plan h =
    let settled = settled-from_reading bytes plan h in
    subst IsPlan settled.made (IsPlan-planned plan.tasks settled.sound (IsFeasible-from_none plan.tasks (cycle_of plan.tasks) settled.none))

IsPlan-spelled_read : (r : Result PlanParts TableFault) (plan : PlanParts) → ((p : PlanParts) → r ≡ Ok p → IsPlan p) → (let s : Outcome PlanParts = result_map_both (λ (p : PlanParts). p) BadTable r in s) ≡ Ok plan → IsPlan plan
IsPlan-spelled_read (Ok p) plan each is = let same : p ≡ plan = cc in subst IsPlan same (each p refl)
IsPlan-spelled_read (Err fault) plan each is = cc

IsPlan-spelled : (read : Outcome (List ℕ)) (plan : PlanParts) → (read >>= spelled_plan) ≡ Ok plan → IsPlan plan
IsPlan-spelled (Ok bytes) plan is = IsPlan-spelled_read (reading_of_table bytes) plan (IsPlan-reading bytes) is
IsPlan-spelled (Err refusal) plan is = cc

-- ---- a load

-- the set of a load has its plan
pub IsPlan-load : (n : ℕ) → 1 ≤ n → n ≤ LOAD_LIMIT → IsPlan (planned (load_set n))
IsPlan-load n some few =
    let set = load_set n in
    let sound = load_set-sound n some few in
    IsPlan-planned set sound (load_set-feasible n some few)

same_plan : (made plan : PlanParts) → (let s : Outcome PlanParts = Ok made in s) ≡ Ok plan → made ≡ plan
same_plan made plan is = cc

-- and its plan has that set
pub tasks-load : (held : Held) (words : List (List ℕ)) (n : ℕ) (plan : PlanParts) → plan_from held words (Load n) ≡ Ok plan → load_set n ≡ plan.tasks
tasks-load held words n plan is = ap (λ (p : PlanParts). p.tasks) (same_plan (planned (load_set n)) plan is)

-- ---- the plan, from where it comes

pub IsPlan-from : (held : Held) (words : List (List ℕ)) (source : Source) (plan : PlanParts) → IsLoadNumber source → plan_from held words source ≡ Ok plan → IsPlan plan
IsPlan-from held words Tasks plan within is = IsPlan-tasks (bytes_of held words TaskFile) plan is
IsPlan-from held words Spelled plan within is = IsPlan-spelled (bytes_of held words TableFile) plan is
IsPlan-from held words (Load n) plan within is =
    subst IsPlan (same_plan (planned (load_set n)) plan is) (IsPlan-load n within.0 within.1)

-- ---- the second plan

IsPlan-second_made : (made : Outcome PlanParts) (plan : PlanParts) → ((p : PlanParts) → made ≡ Ok p → IsPlan p) → (let s : Outcome (Option PlanParts) = result_map_both Some of_second made in s) ≡ Ok (Some plan) → IsPlan plan
IsPlan-second_made (Ok p) plan each is = let same : p ≡ plan = cc in subst IsPlan same (each p refl)
IsPlan-second_made (Err refusal) plan each is = cc

IsPlan-second_read : (read : Outcome (List ℕ)) (plan : PlanParts) → (read >>= second_plan) ≡ Ok (Some plan) → IsPlan plan
IsPlan-second_read (Ok bytes) plan is = IsPlan-second_made (planned_plan bytes) plan (λ p made. IsPlan-tasks (Ok bytes) p made) is
IsPlan-second_read (Err refusal) plan is = cc

pub IsPlan-second : (held : Held) (words : List (List ℕ)) (second : Second) (plan : PlanParts) → second_from held words second ≡ Ok (Some plan) → IsPlan plan
IsPlan-second held words Unread plan is = cc
IsPlan-second held words Read plan is = IsPlan-second_read (bytes_of held words SecondFile) plan is
