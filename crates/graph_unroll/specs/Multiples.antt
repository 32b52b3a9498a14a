-- The running multiple of lengths, up to the limit.
use Rattle.std.specs.Prelude.{ℕ, ◌*◌, ◌%◌, ◌==◌, Bool, List, [], ◌∷◌, map, find, unwrap_or, nat_lt, if◌then◌else◌, Result, Ok, Err}
use Rattle.std.specs.List.{range_with_len}
use Rattle.slot_core.specs.declared.TheConstants.{SLOT_LIMIT}
use Rattle.slot_core.specs.declared.tasks.Graph.{Graph}
use Rattle.slot_core.specs.declared.tasks.Sporadic.{Sporadic}
use Rattle.slot_core.specs.Sets.Cycles.{least_common_multiple}

-- the periods of graphs
abbrev pub periods_of : List Graph → List ℕ
periods_of graphs = map (λ (g : Graph). g.period) graphs

-- the separations of sporadic tasks
abbrev pub separations_of : List Sporadic → List ℕ
separations_of sporadics = map (λ (s : Sporadic). s.separation) sporadics

-- the length divides this many times the multiple
abbrev pub is_common : ℕ → ℕ → ℕ → Bool
is_common multiple length times = (multiple * times) % length == 0

-- the least such number of times
abbrev pub times_to_common : ℕ → ℕ → ℕ
times_to_common multiple length =
    unwrap_or (find (is_common multiple length) (range_with_len 1 length)) length

-- the multiple, where it is within the limit
abbrev pub within_limit : ℕ → Result ℕ ℕ
within_limit multiple = if nat_lt SLOT_LIMIT multiple then Err multiple else Ok multiple

-- the least multiple of the first number and all lengths, or the running multiple at the first
-- place where it is above the limit
abbrev pub multiple_along : ℕ → List ℕ → Result ℕ ℕ
multiple_along multiple [] = Ok multiple
multiple_along multiple (n ∷ ns) =
    let next = least_common_multiple multiple n in
    if nat_lt SLOT_LIMIT next then Err next else multiple_along next ns
