-- The lengths of a slot that are looked at.
use Rattle.std.specs.Prelude.{ℕ, ◌*◌, ◌/◌, ◌%◌, ◌==◌, Bool, ◌&&◌, List, [], ◌∷◌, flat_map, nat_le, nat_lt, if◌then◌else◌}
use Rattle.std.specs.List.{list_all, range_with_len}
use Rattle.slot_core.specs.declared.TheConstants.{SLOT_LIMIT}
use Rattle.clock_units.specs.declared.sets.PhysicalGraph.{PhysicalGraph}

-- each period is a whole number of slots
abbrev pub divides_all : ℕ → List PhysicalGraph → Bool
divides_all slot graphs = list_all (λ (g : PhysicalGraph). g.period % slot == 0) graphs

-- it is within the range, and each period is a whole number of slots
abbrev pub is_length : ℕ → ℕ → List PhysicalGraph → ℕ → Bool
is_length from to graphs slot =
    nat_lt 0 slot && nat_le from slot && nat_le slot to && divides_all slot graphs

-- the period of the first graph
abbrev pub first_period : List PhysicalGraph → ℕ
first_period [] = 0
first_period (g ∷ gs) = g.period

-- the length of which a period has so many, where it is one
abbrev pub length_at : ℕ → ℕ → List PhysicalGraph → ℕ → List ℕ
length_at from to graphs parts =
    let slot = first_period graphs / parts in
    if slot * parts == first_period graphs && is_length from to graphs slot then slot ∷ []
    else []

-- the lengths of which the first period has 1 to so many, the longest first
unfoldable pub lengths_in : ℕ → ℕ → ℕ → List PhysicalGraph → List ℕ
lengths_in most from to graphs = flat_map (length_at from to graphs) (range_with_len 1 most)

-- the lengths of a slot from one to another that divide all periods, the longest first: no period
-- of a task file has more than 8192 slots
abbrev pub slot_lengths : ℕ → ℕ → List PhysicalGraph → List ℕ
slot_lengths from to graphs = lengths_in SLOT_LIMIT from to graphs
