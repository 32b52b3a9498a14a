-- What the tables of the search hold.
use Rattle.std.specs.Prelude.{◌≡◌, ◌⊎◌, ℕ, ◌+◌, ◌-◌, ◌*◌, ◌%◌, ◌≤◌, ◌<◌, List, length, take, drop, All, slice_index}
use Rattle.slot_core.specs.declared.jobs.Job.{Job}
use Rattle.supply_find.specs.Due.{due_by, inside}
use Rattle.supply_find.specs.declared.supply.Supply.{Supply}
use Rattle.supply_find.specs.declared.supply.TheConstants.{WEIGHT}

-- the key of a window with so much work that starts at a
abbrev pub key_of : ℕ → ℕ → ℕ → ℕ
key_of cycle work a = work * WEIGHT + (cycle - a)

-- the key of the window of so many slots from a on
abbrev pub window_key : List Job → ℕ → ℕ → ℕ → ℕ
window_key jobs cycle length a = key_of cycle (inside jobs cycle a (a + length)) a

-- of each time the table has the slots of the jobs behind the front that are due by it
abbrev pub IsCounted : List Job → ℕ → List ℕ → Type 0
IsCounted jobs front due =
    (b : ℕ) → b < length due → slice_index due b ≡ due_by (drop front jobs) b

-- the jobs of the front start before a, and the others at a or later
pub record IsSplit (jobs : List Job) (a front : ℕ) : Type 0 where
  pub before : All (λ (j : Job). j.est < a) (take front jobs)
  pub later : All (λ (j : Job). a ≤ j.est) (drop front jobs)

-- the greatest value of f from low to below high, or 0 where there is none
pub record IsGreatest (f : ℕ → ℕ) (low high value : ℕ) : Type 0 where
  pub bound : (a : ℕ) → low ≤ a → a < high → f a ≤ value
  pub reached : (value ≡ 0) ⊎ ((a : ℕ) × (low ≤ a) × (a < high) × (f a ≡ value))

-- the first place from this one on at which the number is least
pub record IsShortest (numbers : List ℕ) (place shortest : ℕ) : Type 0 where
  pub from : place ≤ shortest
  pub within : shortest < length numbers
  pub least :
      (k : ℕ) → place ≤ k → k < length numbers
      → slice_index numbers shortest ≤ slice_index numbers k
  pub first :
      (k : ℕ) → place ≤ k → k < shortest → slice_index numbers shortest < slice_index numbers k

-- the entry of a table: the number of free slots of the shortest length, and the start in its key
abbrev pub entry_of : List ℕ → List ℕ → List ℕ → ℕ → ℕ → Supply
entry_of most free shortest cycle within =
    let length = slice_index shortest within in
    let from = cycle - slice_index most length % WEIGHT in
    record { slots = slice_index free length; from = from; until = from + length }
