-- Sporadic tasks: the densest arrivals that their separations allow.
use Rattle.std.specs.Prelude.{◌≡◌, ℕ, ◌+◌, ◌*◌, ◌≤◌, ◌<◌, max, ◌==◌, List, [], ◌∷◌, ◌++◌, length, map, filter, count_by, nat_le, slice_get, slice_index_or, Some, All, ⊤}
use Rattle.std.specs.List.{range_with_len}
use Rattle.slot_core.specs.declared.tasks.Sporadic.{Sporadic}

-- how many arrivals from time r on are due by x, the first at r or at the next legal arrival, each
-- later one a separation after the one before
abbrev pub arrivals_due : Sporadic → ℕ → ℕ → ℕ → ℕ
arrivals_due s next r x =
    count_by (λ m. nat_le (max r next + m * s.separation + s.deadline) x) (range_with_len 0 (x + 1))

-- the slots that the densest legal arrivals from r on need by x, each task with its next legal
-- arrival (0 where none is given)
abbrev pub sporadic_demand : List Sporadic → List ℕ → ℕ → ℕ → ℕ
sporadic_demand [] nexts r x = 0
sporadic_demand (s ∷ ss) [] r x = s.wcet * arrivals_due s 0 r x + sporadic_demand ss [] r x
sporadic_demand (s ∷ ss) (n ∷ ns) r x = s.wcet * arrivals_due s n r x + sporadic_demand ss ns r x

-- the densest legal arrivals from r on of the task at this index, as pairs of the index and a time:
-- those that are due by x
abbrev pub densest_arrivals : ℕ → Sporadic → ℕ → ℕ → ℕ → List (ℕ × ℕ)
densest_arrivals index s next r x =
    map
    (λ m. (index, max r next + m * s.separation))
    (range_with_len 0 (arrivals_due s next r x))

-- those of all tasks, the first of them at this index
abbrev pub densest_pattern : ℕ → List Sporadic → List ℕ → ℕ → ℕ → List (ℕ × ℕ)
densest_pattern index [] nexts r x = []
densest_pattern index (s ∷ ss) [] r x =
    densest_arrivals index s 0 r x ++ densest_pattern (index + 1) ss [] r x
densest_pattern index (s ∷ ss) (n ∷ ns) r x =
    densest_arrivals index s n r x ++ densest_pattern (index + 1) ss ns r x

-- the times are at least `from`, and each is at least a separation after the one before
abbrev pub AreSpaced : ℕ → ℕ → List ℕ → Type 0
AreSpaced separation from [] = ⊤
AreSpaced separation from (t ∷ ts) = (from ≤ t) × AreSpaced separation (t + separation) ts

-- the times of one sporadic task in a pattern, whose arrivals are pairs of a task and a time
abbrev pub times_of : ℕ → List (ℕ × ℕ) → List ℕ
times_of index pattern = map (λ (a : ℕ × ℕ). a.1) (filter (λ (a : ℕ × ℕ). a.0 == index) pattern)

-- a legal pattern from r: each task's times are at least r and its next legal arrival (0 where none
-- is given), and spaced
pub record IsLegalPattern
    (sporadics : List Sporadic) (nexts : List ℕ) (r : ℕ) (pattern : List (ℕ × ℕ)) : Type 0 where
  pub named : All (λ (a : ℕ × ℕ). a.0 < length sporadics) pattern
  pub spaced :
      (index : ℕ) (s : Sporadic) → slice_get sporadics index ≡ Some s
      → AreSpaced s.separation (max r (slice_index_or nexts index 0)) (times_of index pattern)
