-- The times at which the lines of a trace run a job, and their stretches.
use Rattle.std.specs.Prelude.{ℕ, ◌+◌, Bool, false, not, ◌==◌, List, length, map, filter, if◌then◌else◌, Option, Some, None, option_map}
use Rattle.std.specs.List.{filter_map, list_any}
use Rattle.std.specs.Option.{option_map_or}
use Rattle.slot_core.specs.declared.jobs.Key.{Key}
use Rattle.slot_core.specs.declared.jobs.Key.TheVariants.{Firm as FirmKey}
use Rattle.slot_core.specs.declared.tasks.TaskSet.{TaskSet}
use Rattle.slot_core.specs.declared.events.Done.TheVariants.{Freed}
use Rattle.slot_core.specs.declared.events.Gone.TheVariants.{Freed as GoneFreed}
use Rattle.slot_core.specs.Offline.Keys.{same_key}
use Rattle.trace_lines.specs.declared.line.KeyName.{KeyName}
use Rattle.trace_lines.specs.declared.line.Words.{Words}
use Rattle.trace_lines.specs.declared.line.Words.TheVariants.{Done, Withdraw}
use Rattle.trace_lines.specs.declared.line.TraceLine.{TraceLine}
use Rattle.trace_lines.specs.Traces.{runs_of}
use Rattle.view_jobs.specs.Deeds.{key_in}

-- whether the name is that of the job of this key
abbrev pub is_name_of : TaskSet → Key → KeyName → Bool
is_name_of set key name = option_map_or (λ k. same_key k key) (key_in set name) false

-- the times at which lines run the job of this key
abbrev pub times_run : TaskSet → List TraceLine → Key → List ℕ
times_run set lines key =
    map (λ run. run.0) (filter (λ run. is_name_of set key run.1) (runs_of lines))

-- a time begins a stretch if the time just before it is none of the times
abbrev pub begins_stretch : List ℕ → ℕ → Bool
begins_stretch times time = not (list_any (λ before. before + 1 == time) times)

-- how many stretches of times that follow one another there are
abbrev pub stretches : List ℕ → ℕ
stretches times = length (filter (begins_stretch times) times)

-- the slots that words free, where they end the job of this key early or take it back
abbrev pub frees : TaskSet → Key → Words → Option ℕ
frees set key (Done row name (Freed slots)) =
    if is_name_of set key name then Some slots else None
frees set key (Withdraw row firm (GoneFreed slots)) =
    if same_key (FirmKey firm) key then Some slots else None
frees set key words = None

-- when lines end the job of this key, and the slots that each frees
abbrev pub ends_of : TaskSet → List TraceLine → Key → List (ℕ × ℕ)
ends_of set lines key =
    filter_map (λ line. option_map (λ slots. (line.time, slots)) (frees set key line.words)) lines
