-- The guaranteed supply, found window by window.
use Rattle.std.specs.Prelude.{◌≡◌, ℕ, true, ◌+◌, ◌-◌, ◌≤◌, ◌==◌, min, List, map, fold, find, unwrap_or}
use Rattle.std.specs.List.{range_with_len}
use Rattle.slot_core.specs.declared.tasks.TaskSet.{TaskSet}
use Rattle.slot_core.specs.Sets.Cycles.{cycle_of}
use Rattle.slot_core.specs.Sets.Ranges.{is_sound}
use Rattle.slot_core.specs.Feasibility.Feasible.{IsFeasible}
use Rattle.supply_laws.specs.Windows.{window_need, IsSupply, IsWorst}
use Rattle.supply_find.specs.declared.supply.Supply.{Supply}

-- the slots that the window of so many slots from a on leaves free
abbrev pub free_in : TaskSet → ℕ → ℕ → ℕ
free_in set length a = length - window_need set 3 a (a + length)

-- the least that a window of so many slots leaves free, whatever its start in the first cycle
abbrev pub least_free : TaskSet → ℕ → ℕ
least_free set length = fold min length (map (free_in set length) (range_with_len 0 (cycle_of set)))

-- the least that a window of `within` slots or up to a cycle more leaves free
abbrev pub supply_slots : TaskSet → ℕ → ℕ
supply_slots set within =
    fold min within (map (least_free set) (range_with_len within (cycle_of set + 1)))

-- the least length of such a window
abbrev pub shortest : TaskSet → ℕ → ℕ
shortest set within =
    unwrap_or
    (find
    (λ length. least_free set length == supply_slots set within)
    (range_with_len within (cycle_of set + 1)))
    within

-- the first start of a window of so many slots that leaves least free
abbrev pub first_start : TaskSet → ℕ → ℕ
first_start set length =
    unwrap_or
    (find
    (λ a. free_in set length a == least_free set length)
    (range_with_len 0 (cycle_of set)))
    0

-- the supply within so many slots, and a window that leaves no more free: the shortest, and of
-- these the first
abbrev pub supply_of : TaskSet → ℕ → Supply
supply_of set within =
    let length = shortest set within in
    let from = first_start set length in
    record { slots = supply_slots set within; from = from; until = from + length }

-- for each number of slots from 0 to the cycle
abbrev pub supplies_of : TaskSet → List Supply
supplies_of set = map (supply_of set) (range_with_len 0 (cycle_of set + 1))

-- what is found is the supply, and its window is one that leaves no more free
abbrev pub SupplyIsFound : Type 0
SupplyIsFound =
    (set : TaskSet) (within : ℕ)
    → is_sound set ≡ true → IsFeasible set (cycle_of set) → within ≤ cycle_of set
    → let found = supply_of set within in
    IsSupply set within found.slots × IsWorst set within found.slots found.from found.until

-- with one slot more the supply is as much or one slot more
abbrev pub SupplyRisesSlowly : Type 0
SupplyRisesSlowly =
    (set : TaskSet) (within : ℕ)
    → is_sound set ≡ true → IsFeasible set (cycle_of set)
    → (supply_slots set within ≤ supply_slots set (within + 1))
    × (supply_slots set (within + 1) ≤ supply_slots set within + 1)
