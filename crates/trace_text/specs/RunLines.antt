-- The lines of a trace that tell what ran in a slot.
use Rattle.std.specs.Prelude.{◌≡◌, ◌≤◌, ℕ, Bool, true, ◌&&◌, List, ◌∷◌, ◌++◌, codes, decimal, if◌then◌else◌, Option, Some, None}
use Rattle.std.specs.Str.{bytes_eq}
use Rattle.slot_core.specs.declared.TheConstants.{NUMBER_LIMIT}
use Rattle.slot_core.specs.declared.events.Ran.{Ran}
use Rattle.slot_core.specs.declared.events.Ran.TheVariants.{Idle as RanIdle, Key as RanKey}
use Rattle.slot_core.specs.declared.tasks.TaskSet.{TaskSet}
use Rattle.slot_core.specs.Output.Texts.{what_text}
use Rattle.slot_core.specs.Runs.Arrivals.{key_in_set, key_in_range}
use Rattle.slot_core.specs.Runs.Traces.{told_of_slot}
use Rattle.key_texts.specs.KeyTexts.{cut_at, key_of_text}
use Rattle.key_texts.specs.Numbers.{number_of}
use Rattle.key_texts.specs.Options.{◌>>=◌}

-- nothing ran, or the job of a key that the set has
abbrev pub is_known : TaskSet → Ran → Bool
is_known set RanIdle = true
is_known set (RanKey key) = key_in_set set key && key_in_range key

-- the line tells that this ran: a number, a space, the words of the slot, a space, and any rest
pub record TellsRun (set : TaskSet) (line : List ℕ) (ran : Ran) : Type 0 where
  pub time : ℕ
  pub rest : List ℕ
  pub small : time ≤ NUMBER_LIMIT
  pub known : is_known set ran ≡ true
  pub text : line ≡ decimal time ++ 32 ∷ what_text set (told_of_slot ran) ++ 32 ∷ rest

-- the run of the key that stands before the first space
abbrev pub run_before : TaskSet → List ℕ → Option Ran
run_before set text = do
  parts ← cut_at 32 text
  key ← key_of_text set parts.0
  Some (RanKey key)

-- what ran, by the first word and what stands after it
abbrev pub worded_run : TaskSet → List ℕ → List ℕ → Option Ran
worded_run set word text =
    if bytes_eq word (codes "idle") then Some RanIdle
    else if bytes_eq word (codes "run") then run_before set text
    else None

-- what ran, read from the front of the line
abbrev pub run_of_line : TaskSet → List ℕ → Option Ran
run_of_line set line = do
  parts ← cut_at 32 line
  time ← number_of parts.0
  told ← cut_at 32 parts.1
  worded_run set told.0 told.1
