-- What a look ahead tells: what the next slot runs, and for how many slots that stays so where
-- nothing arrives.
use Rattle.std.specs.Prelude.{◌≡◌, ◌<◌, ◌≤◌, ◌⊎◌, ℕ, List, [], ◌∷◌, ◌++◌, codes}
use Rattle.slot_core.specs.declared.events.What.{What}
use Rattle.slot_core.specs.declared.events.What.TheVariants.{Run}
use Rattle.slot_core.specs.declared.jobs.Key.TheVariants.{Soft}
use Rattle.slot_core.specs.declared.tasks.TaskSet.{TaskSet}
use Rattle.slot_core.specs.Output.Texts.{what_text, worded}
use Rattle.slot_core.specs.Runs.Histories.{History}
use Rattle.slot_core.specs.Runs.Scenes.{scene_of}
use Rattle.slot_core.specs.Runs.Traces.{slot, told_of}
use Rattle.slot_exec.specs.Ahead.{TellsAhead, TellsOtherAfter}

-- the number of slots is to be the greatest one: no soft work waits, or the set has no sporadic
-- task, or soft work is to run next
abbrev pub IsExact : TaskSet → ℕ → History → Type 0
IsExact set cycle h =
    ((scene_of set cycle h).soft ≡ []) ⊎ (set.sporadics ≡ [])
    ⊎ ((row : ℕ) × (told_of set cycle h slot ≡ Run (Soft row)))

-- this number of slots is told ahead of a history, at least one, at most `most`, and at most a
-- cycle: of each of them the same is told as of the next one, where nothing arrives; and of the one
-- after them something else, where the number is to be the greatest one, below `most` and below a
-- cycle
pub record IsLook (set : TaskSet) (cycle : ℕ) (h : History) (most count : ℕ) : Type 0 where
  pub some : 1 ≤ count
  pub few : count ≤ most
  pub within : count ≤ cycle
  pub same : TellsAhead set cycle (told_of set cycle h slot) count h
  pub longest :
      IsExact set cycle h → count < most → count < cycle
      → TellsOtherAfter set cycle (told_of set cycle h slot) count h

-- the line of a look: what the next slot runs, and the number of slots
abbrev pub look_line : TaskSet → What → ℕ → List ℕ
look_line set what count = worded (codes "ahead " ++ what_text set what) count ++ 10 ∷ []

-- the text is the line of a look after this history
abbrev pub TellsLook : TaskSet → ℕ → History → ℕ → List ℕ → Type 0
TellsLook set cycle h most text =
    (count : ℕ) × IsLook set cycle h most count
    × (text ≡ look_line set (told_of set cycle h slot) count)
