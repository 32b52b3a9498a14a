-- A loop that joins each task with its list of places.
use Rattle.std.proofs.Common.{◌≡◌, ℕ, List, [], ◌∷◌, length, map, refl, ap, arith}
use Rattle.std.specs.List.{zip}
use Rattle.clock_units.specs.declared.sets.PhysicalTask.{PhysicalTask}
use Rattle.unit_toml.specs.Reading.{NamedTask}

-- the task, with these places in its list
abbrev pub joined : NamedTask × List ℕ → PhysicalTask
joined p = record { name = p.0.name; wcet = p.0.wcet; after = p.1 }

-- the tasks that are still to come, joined
abbrev pub all_joined : List NamedTask → List (List ℕ) → List PhysicalTask
all_joined ts ls = map joined (zip ts ls)

-- lists that are made of the tasks
pub all_joined-map : (f : NamedTask → List ℕ) (ts : List NamedTask) → all_joined ts (map f ts) ≡ map (λ t. joined (t, f t)) ts
all_joined-map f [] = refl
all_joined-map f (t ∷ ts) = ap (λ xs. joined (t, f t) ∷ xs) (all_joined-map f ts)

-- nothing is to come where either list has ended
pub all_joined-empty_first : (ts : List NamedTask) (ls : List (List ℕ)) → length ts ≡ 0 → all_joined ts ls ≡ []
all_joined-empty_first [] ls h = refl
all_joined-empty_first (t ∷ ts) ls h = absurd (omega arith)

pub all_joined-empty_second : (ts : List NamedTask) (ls : List (List ℕ)) → length ls ≡ 0 → all_joined ts ls ≡ []
all_joined-empty_second [] ls h = refl
all_joined-empty_second (t ∷ ts) [] h = refl
all_joined-empty_second (t ∷ ts) (l ∷ ls) h = absurd (omega arith)
