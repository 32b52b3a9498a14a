-- The lines of a guaranteed supply, and how the numbers between two of them are read.
use Rattle.std.specs.Prelude.{◌≡◌, ◌↔◌, ℕ, true, ◌+◌, ◌-◌, ◌≤◌, min, List, [], ◌∷◌, ◌++◌, All, codes, map, flat_map, nat_le, nat_lt, slice_get, if◌then◌else◌}
use Rattle.std.specs.List.{range_with_len}
use Rattle.std.specs.Option.{option_map_or}
use Rattle.slot_core.specs.declared.tasks.TaskSet.{TaskSet}
use Rattle.slot_core.specs.Sets.Cycles.{cycle_of}
use Rattle.slot_core.specs.Sets.Ranges.{is_sound}
use Rattle.slot_core.specs.Feasibility.Feasible.{IsFeasible}
use Rattle.slot_core.specs.Output.Texts.{worded}
use Rattle.slot_core.specs.Runs.Histories.{History}
use Rattle.slot_core.specs.Runs.Traces.{IsLegal}
use Rattle.supply_laws.specs.Laws.{IsAccepted, firm_left_at}
use Rattle.supply_laws.specs.Requests.{used}
use Rattle.supply_laws.specs.Windows.{IsSupply, IsWorst}
use Rattle.supply_find.specs.declared.supply.Supply.{Supply}
use Rattle.supply_find.specs.Found.{supply_of, supply_slots}
use Rattle.supply_find.specs.Stairs.{flat_ends}

-- supply, a number of slots, the supply within it, and a window that leaves no more free
abbrev pub line_of : ℕ × Supply → List ℕ
line_of (within, s) =
    worded (worded (worded (worded (codes "supply") within) s.slots) s.from) s.until ++ 10 ∷ []

-- the numbers of slots that have a line: where the supply stops rising, and rises again with the
-- next number; and the cycle
abbrev pub ends_of : TaskSet → List ℕ
ends_of set = flat_ends (map (supply_slots set) (range_with_len 0 (cycle_of set + 1)))

-- what the lines of a set tell: these numbers, each with what is found within it
abbrev pub lines_of : TaskSet → List (ℕ × Supply)
lines_of set = map (λ within. (within, supply_of set within)) (ends_of set)

-- the lines of a set
abbrev pub supply_text : TaskSet → List ℕ
supply_text set = flat_map line_of (lines_of set)

-- far, the number of slots of a request that is due past a cycle, and the cycle: such a request is
-- always refused
abbrev pub far_line : ℕ → ℕ → List ℕ
far_line within cycle = worded (worded (codes "far") within) cycle ++ 10 ∷ []

-- the line of a number of slots, from a table with the supply within each
abbrev pub line_in : List Supply → ℕ → List ℕ
line_in table within = option_map_or (λ s. line_of (within, s)) (slice_get table within) []

-- the one line within a number of slots
abbrev pub within_text : TaskSet → ℕ → List ℕ
within_text set within =
    if nat_lt (cycle_of set) within
    then far_line within (cycle_of set)
    else line_of (within, supply_of set within)

-- what is read of lines within a number of slots, after a line of `low` that tells so many slots:
-- one more for each number past it, and no more than the next line tells
abbrev pub read_from : ℕ → ℕ → List (ℕ × Supply) → ℕ → ℕ
read_from low slots [] within = slots
read_from low slots ((high, s) ∷ rest) within =
    if nat_le within high
    then min s.slots (slots + (within - low))
    else read_from high s.slots rest within

-- what is read of all lines, before which there is nothing within nothing
abbrev pub read_at : List (ℕ × Supply) → ℕ → ℕ
read_at lines within = read_from 0 0 lines within

-- the line tells the supply, and a window that leaves no more free
abbrev pub IsExact : TaskSet → ℕ × Supply → Type 0
IsExact set (within, s) = IsSupply set within s.slots × IsWorst set within s.slots s.from s.until

-- the request of so many slots is accepted at every legal history in which no firm job remains and
-- no requested job ran since the processor last was idle
abbrev pub IsAlwaysAccepted : TaskSet → ℕ → ℕ → Type 0
IsAlwaysAccepted set offer within =
    (h : History) → IsLegal set (cycle_of set) h → firm_left_at set h ≡ 0 → used h ≡ 0
    → IsAccepted set h offer within

-- lines tell the supply of a set: each is exact, the supply within every number of slots up to the
-- cycle is read of them, and a request is always accepted exactly where it is no more
pub record TellSupply (set : TaskSet) (lines : List (ℕ × Supply)) : Type 0 where
  pub exact : All (IsExact set) lines
  pub read : (within : ℕ) → within ≤ cycle_of set → IsSupply set within (read_at lines within)
  pub always :
      (offer within : ℕ) → 1 ≤ within → within ≤ cycle_of set
      → (offer ≤ read_at lines within ↔ IsAlwaysAccepted set offer within)

-- the lines of a set tell its supply
abbrev pub LinesTellSupply : Type 0
LinesTellSupply =
    (set : TaskSet) → is_sound set ≡ true → IsFeasible set (cycle_of set)
    → TellSupply set (lines_of set)

-- the one line tells the supply: it is exact, and a request is always accepted exactly where it is
-- no more
pub record TellsWithin (set : TaskSet) (within : ℕ) (s : Supply) : Type 0 where
  pub exact : IsExact set (within, s)
  pub always : (offer : ℕ) → (offer ≤ s.slots ↔ IsAlwaysAccepted set offer within)

-- so does the line within each number of slots up to the cycle
abbrev pub LineTellsWithin : Type 0
LineTellsWithin =
    (set : TaskSet) (within : ℕ) → is_sound set ≡ true → IsFeasible set (cycle_of set)
    → 1 ≤ within → within ≤ cycle_of set → TellsWithin set within (supply_of set within)
