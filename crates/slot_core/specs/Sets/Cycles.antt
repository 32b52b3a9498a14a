-- The cycle of a task set: the least common multiple of all periods and separations.
use Rattle.std.specs.Prelude.{ℕ, ◌*◌, ◌%◌, ◌==◌, List, [], ◌∷◌, ◌++◌, map, find, fold, unwrap_or, nat_lt, if◌then◌else◌, Option, Some, None}
use Rattle.std.specs.List.{range_with_len}
use Rattle.slot_core.specs.declared.tasks.Graph.{Graph}
use Rattle.slot_core.specs.declared.tasks.Sporadic.{Sporadic}
use Rattle.slot_core.specs.declared.tasks.TaskSet.{TaskSet}

-- the least multiple of a, from a on, that b divides too
abbrev pub least_common_multiple : ℕ → ℕ → ℕ
least_common_multiple a b = a * unwrap_or (find (λ n. (a * n) % b == 0) (range_with_len 1 b)) b

-- the periods in the order of the file, then the separations
abbrev pub cycle_lengths : TaskSet → List ℕ
cycle_lengths set =
    map (λ (g : Graph). g.period) set.graphs
    ++ map (λ (s : Sporadic). s.separation) set.sporadics

-- the cycle: the least common multiple of all periods and separations
abbrev pub cycle_of : TaskSet → ℕ
cycle_of set = fold least_common_multiple 1 (cycle_lengths set)

-- the running multiple at the first place where it is above the limit, or none
abbrev pub first_multiple_above : ℕ → ℕ → List ℕ → Option ℕ
first_multiple_above limit multiple [] = None
first_multiple_above limit multiple (n ∷ ns) =
    let next = least_common_multiple multiple n in
    if nat_lt limit next then Some next else first_multiple_above limit next ns
