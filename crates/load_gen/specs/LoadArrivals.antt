-- The arrivals of a generated load.
use Rattle.std.specs.Prelude.{ℕ, zero, suc, ◌+◌, ◌*◌, ◌/◌, ◌%◌, ◌==◌, List, [], ◌∷◌, ◌++◌, length, Option, Some, None, if◌then◌else◌}
use Rattle.std.specs.Option.{option_map_or}
use Rattle.slot_core.specs.declared.events.Event.{Event}
use Rattle.slot_core.specs.declared.events.Event.TheVariants.{Soft, Firm, Sporadic}
use Rattle.slot_core.specs.declared.events.Arrival.{Arrival}

-- the number of the next slot, of 31 bits (a linear congruential generator)
abbrev pub next_number : ℕ → ℕ
next_number x = (x * 1103515245 + 12345) % 2147483648

-- soft work of 1 to 4 slots
abbrev pub soft_of : ℕ → Event
soft_of x = Soft (1 + (x / 524288) % 4)

-- a firm task of 1 to 8 slots, with at most 63 slots to spare
abbrev pub firm_of : ℕ → Event
firm_of x = let slots = 1 + (x / 524288) % 8 in Firm slots (slots + (x / 4194304) % 64)

-- what arrives at a slot of this number: in one slot of eight each soft work, a firm task and the
-- sporadic task, else nothing
abbrev pub load_event : ℕ → Option Event
load_event x =
    let kind = (x / 65536) % 8 in
    if kind == 0 then Some (soft_of x)
    else (if kind == 1 then Some (firm_of x)
    else (if kind == 2 then Some (Sporadic 0) else None))

-- the arrivals of one slot of this number: none, or one with this row
abbrev pub arrivals_at : ℕ → ℕ → ℕ → List Arrival
arrivals_at slot row x =
    option_map_or
    (λ (e : Event). record { row = row; slot = slot; event = e } ∷ [])
    (load_event x)
    []

-- the arrivals of so many slots from this one on, with rows from this one on, where x was the
-- number before
abbrev pub arrivals_from : ℕ → ℕ → ℕ → ℕ → List Arrival
arrivals_from zero slot row x = []
arrivals_from (suc n) slot row x =
    let next = next_number x in
    let here = arrivals_at slot row next in
    here ++ arrivals_from n (slot + 1) (row + length here) next

-- the arrivals of load n over so many slots
abbrev pub load_arrivals : ℕ → ℕ → List Arrival
load_arrivals n slots = arrivals_from slots 0 1 n
