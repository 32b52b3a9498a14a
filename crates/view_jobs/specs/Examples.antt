-- A worked job: each line holds by computing the definitions.
use Rattle.std.specs.Prelude.{◌≡◌, ℕ, List, [], ◌∷◌, Some, refl}
use Rattle.std.specs.Fmt.{digits}
use Rattle.slot_core.specs.declared.jobs.Key.TheVariants.{Soft as SoftKey}
use Rattle.slot_core.specs.declared.tasks.TaskSet.{TaskSet}
use Rattle.slot_core.specs.declared.events.Done.TheVariants.{Freed}
use Rattle.trace_lines.specs.declared.line.KeyName.TheVariants.{Soft}
use Rattle.trace_lines.specs.declared.line.TraceLine.{TraceLine}
use Rattle.trace_lines.specs.declared.line.Words.{Words}
use Rattle.trace_lines.specs.declared.line.Words.TheVariants.{Start, Done, Run, Idle, End}
use Rattle.view_jobs.specs.JobTimes.{ends_of, stretches, times_run}
use Rattle.view_jobs.specs.Laws.{told_by}

-- a line that shows no span
abbrev pub line : ℕ → Words → TraceLine
line time words = record { time = time; words = words; spans = []; more = 0 }

-- soft work runs in three slots, with another before the last, and ends
abbrev pub lines : List TraceLine
lines =
    line 0 Start
    ∷ line 0 (Run (Soft 1))
    ∷ line 1 (Run (Soft 1))
    ∷ line 2 (Run (Soft 2))
    ∷ line 3 (Run (Soft 1))
    ∷ line 4 (Done 3 (Soft 1) (Freed 5))
    ∷ line 4 Idle
    ∷ line 5 End
    ∷ []

-- a set of no tasks
abbrev pub set : TaskSet
set = record { soft_limit = 4; graphs = []; sporadics = [] }

-- the times of the work
pub times : times_run set lines (SoftKey 1) ≡ 0 ∷ 1 ∷ 3 ∷ []
unfolding digits
times = refl

-- their stretches
pub two_stretches : stretches (0 ∷ 1 ∷ 3 ∷ []) ≡ 2
two_stretches = refl

-- its end
pub ends : ends_of set lines (SoftKey 1) ≡ (4, 5) ∷ []
unfolding digits
ends = refl

-- what is told of it
pub told : told_by set lines (SoftKey 1)
    ≡ record { ran = 3; first = Some 0; last = Some 3; gaps = 1; ended = Some (4, 5) }
unfolding digits
told = refl
