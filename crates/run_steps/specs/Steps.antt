-- What the steps of the work answer.
use Rattle.std.specs.Prelude.{◌≡◌, ℕ, ◌+◌, ◌%◌, ◌≤◌, ◌⊎◌, ⊤, Bool, true, List, length, Option, Some, Ok, Err, IfOk, IfErr, MatchResult}
use Rattle.slot_core.specs.Calls.Counts.{Rose}
use Rattle.slot_core.specs.declared.events.Arrival.{Arrival}
use Rattle.slot_core.specs.Keeping.Plans.{PlanParts}
use Rattle.slot_io.specs.Files.{Held}
use Rattle.command_line.specs.declared.file.File.{File}
use Rattle.command_line.specs.declared.refusal.Refusal.{Refusal}
use Rattle.command_line.specs.declared.refusal.Refusal.TheVariants.{Unreadable, TooLarge, Memory}
use Rattle.command_line.specs.Refusals.{Outcome, limit_of, name_of, is_found}
use Rattle.command_line.specs.declared.commands.Check.{Check}
use Rattle.command_line.specs.declared.commands.Check.TheVariants.{HasRow, AtCycleEnd}

-- a step over bytes answers with what is due of them, as this view of its value, or with want of
-- memory
abbrev pub IsStep : {A X : Type 0} → Outcome X → Outcome A → (A → X) → Type 0
IsStep due result view =
    MatchResult result (λ a. due ≡ Ok (view a)) (λ e. (e ≡ Memory) ⊎ (due ≡ Err e))

-- the refusal is that a file which passes the test cannot be read
abbrev pub IsUnreadable : (File → Bool) → Refusal → Type 0
IsUnreadable may e = (file : File) × (may file ≡ true) × (e ≡ Unreadable file)

-- a step that may read files which pass a test may answer that one of them cannot be read, too
abbrev pub IsFileStep : {A X : Type 0}
    → (File → Bool) → Outcome X → Outcome A → (A → X) → Type 0
IsFileStep may due result view =
    MatchResult result (λ a. due ≡ Ok (view a))
    (λ e. IsUnreadable may e ⊎ ((e ≡ Memory) ⊎ (due ≡ Err e)))

-- the refusal comes of reading such a file: it cannot be read, or the bytes call for it, or memory
-- ran out
abbrev pub IsOfReading : (File → Bool) → Refusal → Type 0
IsOfReading may e = IsUnreadable may e ⊎ ((e ≡ Memory) ⊎ (is_found e ≡ true))

-- a step that may read files which pass a test, and whose names are among the words, over files of
-- which contracts see `held`, `faults`, `blamed` and `given`
pub record IsReading {S A X : Type 0} (held : S → Option Held) (faults : S → ℕ)
    (blamed : S → Option (List ℕ)) (given : S → Option (List ℕ × ℕ)) (before after : S)
    (words : List (List ℕ)) (may : File → Bool)
    (due : Held → Outcome X) (result : Outcome A) (view : A → X) : Type 0 where
  -- what it answers, where the files tell what they hold
  pub answers : (files : Held) → held before ≡ Some files → IsFileStep may (due files) result view
  -- what it refuses
  pub refuses : IfErr result (IsOfReading may)
  -- who is blamed: the name of such a file, for a fault that is counted
  pub blames : (file : File) → result ≡ Err (Unreadable file)
      → (may file ≡ true) × Rose (faults before) (faults after)
      × (blamed after ≡ Some (name_of words file))
  -- what is too large: such a file, of which the last read gave a byte more than its limit
  pub sizes : (file : File) → result ≡ Err (TooLarge file)
      → (may file ≡ true) × (given after ≡ Some (name_of words file, limit_of file + 1))
  -- what stays untouched: what the files hold, and the count where the step gives a value
  pub keeps : held after ≡ held before
  pub counts : IfOk result (λ _. faults after ≡ faults before)

-- what is asked of the arrivals holds, where it is more than that a file is lawful
abbrev pub IsChecked : Check → ℕ → PlanParts → List Arrival → Type 0
IsChecked (HasRow row) slots plan arrivals = row ≤ length arrivals
IsChecked AtCycleEnd slots plan arrivals = slots % plan.cycle ≡ 0
IsChecked _ slots plan arrivals = ⊤
