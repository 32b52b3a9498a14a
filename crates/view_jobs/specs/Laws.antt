-- What is told of a job, by the times at which the lines of a trace run it.
use Rattle.std.specs.Prelude.{◌≡◌, ◌↔◌, ℕ, ◌+◌, true, List, [], ◌∷◌, length, slice_get, Some, None, ⊤}
use Rattle.std.specs.List.{last_or}
use Rattle.slot_core.specs.declared.jobs.Key.{Key}
use Rattle.slot_core.specs.declared.tasks.TaskSet.{TaskSet}
use Rattle.slot_core.specs.Runs.Rising.{AreRising}
use Rattle.trace_lines.specs.declared.line.KeyName.{KeyName}
use Rattle.trace_lines.specs.declared.line.TraceLine.{TraceLine}
use Rattle.trace_lines.specs.Traces.{AreTrace}
use Rattle.view_jobs.specs.declared.tallies.Tally.{Tally}
use Rattle.view_jobs.specs.Deeds.{deeds_of, key_in}
use Rattle.view_jobs.specs.JobTimes.{ends_of, is_name_of, stretches, times_run}
use Rattle.view_jobs.specs.Tallies.{tally_of}

-- what lines tell of a job
abbrev pub told_by : TaskSet → List TraceLine → Key → Tally
told_by set lines key = tally_of (deeds_of set lines) key

-- each time is later than the one before it
abbrev pub Rise : List ℕ → Type 0
Rise [] = ⊤
Rise (time ∷ times) = AreRising time times

-- a name is that of a job exactly where the set has its key by this name
abbrev pub NamesAreOfKeys : Type 0
NamesAreOfKeys =
    (set : TaskSet) (key : Key) (name : KeyName)
    → (is_name_of set key name ≡ true) ↔ (key_in set name ≡ Some key)

-- the times at which a trace runs a job rise
abbrev pub TimesRise : Type 0
TimesRise =
    (set : TaskSet) (lines : List TraceLine) (key : Key) → AreTrace lines
    → Rise (times_run set lines key)

-- of a job of a trace as many slots are told as lines run it: a counter never comes to its end
abbrev pub RunsAreCounted : Type 0
RunsAreCounted =
    (set : TaskSet) (lines : List TraceLine) (key : Key) → AreTrace lines
    → (told_by set lines key).ran ≡ length (times_run set lines key)

-- the first slot is the first of the times, and none where there is none
abbrev pub FirstIsTold : Type 0
FirstIsTold =
    (set : TaskSet) (lines : List TraceLine) (key : Key)
    → (told_by set lines key).first ≡ slice_get (times_run set lines key) 0

-- the last slot is the last of them
abbrev pub LastIsTold : Type 0
LastIsTold =
    (set : TaskSet) (lines : List TraceLine) (key : Key)
    → (told_by set lines key).last ≡ last_or None (times_run set lines key)

-- a job that runs has one gap less than stretches
abbrev pub GapsAreBetweenStretches : Type 0
GapsAreBetweenStretches =
    (set : TaskSet) (lines : List TraceLine) (key : Key) (first : ℕ) (later : List ℕ)
    → AreTrace lines → times_run set lines key ≡ first ∷ later
    → stretches (times_run set lines key) ≡ (told_by set lines key).gaps + 1

-- one that does not run has none
abbrev pub NoRunHasNoGap : Type 0
NoRunHasNoGap =
    (set : TaskSet) (lines : List TraceLine) (key : Key) → times_run set lines key ≡ []
    → (told_by set lines key).gaps ≡ 0

-- the end is the first of the ends, and none where there is none
abbrev pub FirstEndIsTold : Type 0
FirstEndIsTold =
    (set : TaskSet) (lines : List TraceLine) (key : Key)
    → (told_by set lines key).ended ≡ slice_get (ends_of set lines key) 0
