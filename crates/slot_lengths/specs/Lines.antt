-- The lines of the lengths of a slot.
use Rattle.std.specs.Prelude.{◌≡◌, ℕ, ◌-◌, ◌*◌, ◌^◌, min, List, [], ◌∷◌, ◌++◌, codes, flat_map, map, Option, Some, None, IsPermutation}
use Rattle.std.specs.List.Sorted.{IsNonDecreasingBy}
use Rattle.slot_core.specs.Output.FaultTexts.{task_fault_text}
use Rattle.slot_core.specs.Output.Texts.{worded}
use Rattle.time_texts.specs.Writing.{time_text}
use Rattle.clock_units.specs.FaultTexts.{unit_fault_text}
use Rattle.clock_units.specs.declared.sets.PhysicalSet.{PhysicalSet}
use Rattle.slot_lengths.specs.declared.checks.LengthRow.{LengthRow}
use Rattle.slot_lengths.specs.declared.checks.SlotCheck.{SlotCheck}
use Rattle.slot_lengths.specs.declared.checks.SlotCheck.TheVariants.{Fits, Infeasible, BadTasks, NoSlots}
use Rattle.slot_lengths.specs.declared.loads.Load.{Load}
use Rattle.slot_lengths.specs.declared.shorter.Shorter.{Shorter}
use Rattle.slot_lengths.specs.Checks.{row_of}
use Rattle.slot_lengths.specs.Lengths.{slot_lengths}
use Rattle.slot_lengths.specs.Loads.{millionths}

-- what is needed in a cycle: its share before rounding and after it, in millionths
abbrev pub load_text : Load → List ℕ
load_text load =
    worded (worded (worded (codes " cycle") load.cycle ++ codes " load") load.before)
    (millionths load.cycle load.needed)

-- the time of so many slots, where 64 bits hold it
abbrev pub slots_time : ℕ → ℕ → ℕ
slots_time slot slots = min (2 ^ 64 - 1) (slots * slot)

-- a shorter separation that may be planned for, with slots of a length
abbrev pub shorter_text : ℕ → Option Shorter → List ℕ
shorter_text slot None = []
shorter_text slot (Some shorter) =
    worded (codes " plan sporadic") shorter.sporadic
    ++ codes " " ++ time_text (slots_time slot shorter.separation)

-- what a length comes to
abbrev pub check_text : ℕ → SlotCheck → List ℕ
check_text slot (Fits load growth) =
    worded (worded (load_text load ++ codes " fits") load.needed ++ codes " margin") growth
check_text slot (Infeasible load window) =
    let front = load_text load ++ codes " infeasible" in
    worded (worded (worded front window.from) window.until) window.demand
check_text slot (BadTasks fault shorter) =
    codes " tasks " ++ task_fault_text fault ++ shorter_text slot shorter
check_text slot (NoSlots fault) = codes " units " ++ unit_fault_text fault

-- its line
abbrev pub row_line : LengthRow → List ℕ
row_line row = codes "slot " ++ time_text row.slot ++ check_text row.slot row.check ++ 10 ∷ []

-- the rows are those of all lengths, by their places
pub record AreRows (from to : ℕ) (set : PhysicalSet) (rows : List LengthRow) : Type 0 where
  pub all : IsPermutation (map (row_of set) (slot_lengths from to set.graphs)) rows
  pub ordered : IsNonDecreasingBy (λ (row : LengthRow). row.place) rows

-- the text has a line for each length, by its place
abbrev pub IsLengthsText : ℕ → ℕ → PhysicalSet → List ℕ → Type 0
IsLengthsText from to set text =
    (rows : List LengthRow) × AreRows from to set rows × (text ≡ flat_map row_line rows)
