-- The lines of a supply as steps of a staircase, and the text of which they are read.
use Rattle.std.specs.Prelude.{◌≡◌, ◌≢◌, ℕ, ◌+◌, ◌-◌, ◌≤◌, Bool, true, ◌&&◌, List, [], ◌∷◌, ◌++◌, codes, flat_map, length, map, nat_le, nat_lt, slice_get, if◌then◌else◌, Option, Some, None}
use Rattle.std.specs.Option.{option_map_or}
use Rattle.std.specs.Str.{bytes_eq}
use Rattle.slot_core.specs.declared.TheConstants.{NUMBER_LIMIT, SLOT_LIMIT}
use Rattle.slot_core.specs.declared.tasks.TaskSet.{TaskSet}
use Rattle.slot_core.specs.Sets.Cycles.{cycle_of}
use Rattle.slot_core.specs.Sets.Ranges.{is_sound}
use Rattle.slot_core.specs.Feasibility.Feasible.{IsFeasible}
use Rattle.slot_core.specs.Output.Texts.{worded}
use Rattle.key_texts.specs.KeyTexts.{cut_at}
use Rattle.key_texts.specs.Numbers.{number_of}
use Rattle.key_texts.specs.Options.{◌>>=◌}
use Rattle.supply_find.specs.declared.supply.Supply.{Supply}
use Rattle.supply_find.specs.Found.{supply_of}
use Rattle.supply_lines.specs.Lines.{ends_of, line_of, supply_text}
use Rattle.view_stairs.specs.declared.lines.Step.{Step}

-- a step as a number of slots and the supply within it
abbrev pub pair_of : Step → ℕ × Supply
pair_of step = (step.within, step.supply)

-- the number of slots of the last step, or 0 where there is none
abbrev pub last_within : List Step → ℕ
last_within steps = option_map_or (λ (s : Step). s.within) (slice_get steps (length steps - 1)) 0

-- the bytes of a line, before its end
abbrev pub step_bytes : Step → List ℕ
step_bytes step =
    let s = step.supply in
    worded (worded (worded (worded (codes "supply") step.within) s.slots) s.from) s.until

-- the text of lines, as those of a supply are written
abbrev pub steps_text : List Step → List ℕ
steps_text steps = flat_map (λ step. line_of (pair_of step)) steps

-- the line of the numbers that these texts write
abbrev pub step_from : List ℕ → List ℕ → List ℕ → List ℕ → Option Step
step_from within slots from until = do
  w ← number_of within
  s ← number_of slots
  f ← number_of from
  u ← number_of until
  Some (record { within = w; supply = record { slots = s; from = f; until = u } })

-- the line of the four numbers that the text writes, with a space (32) between two
abbrev pub numbers_of : List ℕ → Option Step
numbers_of text = do
  first ← cut_at 32 text
  second ← cut_at 32 first.1
  third ← cut_at 32 second.1
  step_from first.0 second.0 third.0 third.1

-- the line that the bytes write: the word supply, a space, and its numbers
abbrev pub step_of : List ℕ → Option Step
step_of bytes = do
  parts ← cut_at 32 bytes
  if bytes_eq parts.0 (codes "supply") then numbers_of parts.1 else None

-- numbers that a line may have
abbrev pub is_written : Step → Bool
is_written step =
    nat_le step.within NUMBER_LIMIT
    && nat_le step.supply.slots NUMBER_LIMIT
    && nat_le step.supply.from NUMBER_LIMIT
    && nat_le step.supply.until NUMBER_LIMIT

-- where a staircase begins: nothing within nothing
abbrev pub foot : Step
foot = record { within = 0; supply = record { slots = 0; from = 0; until = 0 } }

-- a line may stand after another: its number of slots is greater, and no more than the longest
-- cycle has; the supply is as much or more, and rises by at most one a slot
abbrev pub follows : Step → Step → Bool
follows last step =
    nat_lt last.within step.within
    && nat_le step.within SLOT_LIMIT
    && nat_le last.supply.slots step.supply.slots
    && nat_le step.supply.slots (last.supply.slots + (step.within - last.within))

-- lines that lead from one to another
abbrev pub Leads : Step → List Step → Step → Type 0
Leads from [] to = from ≡ to
Leads from (step ∷ steps) to =
    (is_written step ≡ true) × (follows from step ≡ true) × Leads step steps to

-- the lines of a staircase, of which there is one at least
abbrev pub AreStairs : List Step → Type 0
AreStairs steps = (steps ≢ []) × (last : Step) × Leads foot steps last

-- the text is that of lines of a staircase up to one, and of a rest
pub record IsRead (text : List ℕ) (steps : List Step) (last : Step) (rest : List ℕ)
    : Type 0 where
  pub whole : text ≡ steps_text steps ++ rest
  pub leads : Leads foot steps last

-- the line that the bytes write, where it may stand after another
abbrev pub next_step : Step → List ℕ → Option Step
next_step last bytes = do
  step ← step_of bytes
  if follows last step then Some step else None

-- the text is that of lines of a staircase, and then no line follows: the next bytes are none that
-- may stand there, or there are none at all; n counts the lines to the first faulty one
pub record Breaks (text : List ℕ) (n : ℕ) : Type 0 where
  pub front : List Step
  pub rest : List ℕ
  pub last : Step
  pub count : n ≡ length front + 1
  pub read : IsRead text front last rest
  pub nothing :
      (step : Step) (later : List ℕ) → is_written step ≡ true → follows last step ≡ true
      → rest ≢ line_of (pair_of step) ++ later
  pub unfinished : rest ≡ [] → front ≡ []

-- a step finds no more slots than the longest cycle has, within no more than these
abbrev pub IsSmall : Step → Type 0
IsSmall step = (step.within ≤ SLOT_LIMIT) × (step.supply.slots ≤ SLOT_LIMIT)

-- what is found within a number of slots, as a step
abbrev pub step_within : TaskSet → ℕ → Step
step_within set within = record { within = within; supply = supply_of set within }

-- the steps of a set
abbrev pub steps_of : TaskSet → List Step
steps_of set = map (step_within set) (ends_of set)

-- the lines of each set that fits are those of a staircase
abbrev pub LinesAreStairs : Type 0
LinesAreStairs =
    (set : TaskSet) → is_sound set ≡ true → IsFeasible set (cycle_of set)
    → (steps_text (steps_of set) ≡ supply_text set) × AreStairs (steps_of set)
