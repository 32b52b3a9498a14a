-- What the calls do.
use Rattle.std.specs.Prelude.{◌≡◌, ◌≢◌, ℕ, ◌≤◌, ◌<◌, ◌⊎◌, []}
use Rattle.slot_core.specs.declared.TheConstants.{TIME_LIMIT}
use Rattle.slot_core.specs.declared.events.Event.{Event}
use Rattle.slot_core.specs.declared.events.Ran.{Ran}
use Rattle.slot_core.specs.declared.events.Ran.TheVariants.{Key as RanKey}
use Rattle.slot_core.specs.declared.jobs.Key.TheVariants.{Soft as SoftKey}
use Rattle.slot_core.specs.declared.events.What.{What}
use Rattle.slot_core.specs.Keeping.Executives.{Executive, Does, StandsFor}
use Rattle.slot_core.specs.Runs.Answers.{answer}
use Rattle.slot_core.specs.Runs.Choice.{choice}
use Rattle.slot_core.specs.Runs.Histories.{History}
use Rattle.slot_core.specs.Runs.Traces.{arrive, slot, told_of_slot}
use Rattle.slot_exec.specs.Ahead.{history_ahead, TellsAhead, TellsOtherAfter}
use Rattle.slot_port.specs.declared.numbers.Told.{Told}
use Rattle.slot_port.specs.Answers.{answer_numbers}

-- the entry of an arrival
abbrev pub answer_in : Executive → ℕ → Event → What
answer_in exec row event = answer exec.plan.tasks exec.plan.cycle exec.scene row event

-- its answer in numbers
abbrev pub numbers_in : Executive → ℕ → Event → Told
numbers_in exec row event = answer_numbers (answer_in exec row event)

-- the arrival is answered as the definitions answer it
abbrev pub Takes : Executive → Executive → ℕ → Event → Type 0
Takes before after row event = Does before after (arrive row event) (answer_in before row event)

-- what runs in the next slot
abbrev pub ran_in : Executive → Ran
ran_in exec = choice exec.plan.tasks.sporadics exec.plan.cycle exec.scene

-- a slot passes as the definitions say, and the row of the last arrival stays
pub record Passes (before after : Executive) : Type 0 where
  pub does : Does before after slot (told_of_slot (ran_in before))
  pub row : after.last_row ≡ before.last_row

-- where nothing arrives, what runs in the next slot runs in this number of slots, at most `most`
-- and at most a cycle; and where no soft work waits, where the set has no sporadic task, and where
-- soft work runs, something else in the slot after them, if they are fewer than `most` and than a
-- cycle
pub record StaysAhead (exec : Executive) (most count : ℕ) : Type 0 where
  pub some : 1 ≤ count
  pub few : count ≤ most
  pub within : count ≤ exec.plan.cycle
  pub same :
      (h : History) → StandsFor exec h
      → TellsAhead exec.plan.tasks exec.plan.cycle (told_of_slot (ran_in exec)) count h
  pub longest :
      (h : History) → StandsFor exec h
      → (exec.scene.soft ≡ []) ⊎ (exec.plan.tasks.sporadics ≡ [])
      ⊎ ((row : ℕ) × (ran_in exec ≡ RanKey (SoftKey row)))
      → count < most → count < exec.plan.cycle
      → TellsOtherAfter exec.plan.tasks exec.plan.cycle (told_of_slot (ran_in exec)) count h

-- so many slots pass, at most `most`, and in each of them what was to run in the first runs; they
-- are fewer only where something else is to run, or the time is at its limit
pub record PassesSame (before after : Executive) (most count : ℕ) : Type 0 where
  pub some : 1 ≤ count
  pub few : count ≤ most
  pub same :
      (h : History) → StandsFor before h
      → TellsAhead before.plan.tasks before.plan.cycle (told_of_slot (ran_in before)) count h
  pub stands :
      (h : History) → StandsFor before h
      → StandsFor after (history_ahead (told_of_slot (ran_in before)) count h)
  pub plan : after.plan ≡ before.plan
  pub row : after.last_row ≡ before.last_row
  pub ends :
      count < most → (ran_in before ≢ ran_in after) ⊎ (after.scene.time ≡ TIME_LIMIT)
