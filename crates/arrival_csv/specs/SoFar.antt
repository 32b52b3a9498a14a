-- What is read so far of the rows of an arrivals file, and what the rows after them make of it.
use Rattle.std.specs.Prelude.{◌≡◌, ⊤, ◌≢◌, MatchResult, ℕ, List, ◌∷◌, ◌++◌, Result, Ok, Err}
use Rattle.slot_core.specs.declared.events.Arrival.{Arrival}
use Rattle.slot_core.specs.declared.tasks.TaskSet.{TaskSet}
use Rattle.slot_core.specs.Calls.Results.{◌>>=◌}
use Rattle.faults.specs.declared.arrival_fault.ArrivalFault.{ArrivalFault}
use Rattle.faults.specs.declared.arrival_fault.ArrivalFault.TheVariants.{Memory}
use Rattle.arrival_csv.specs.declared.so_far.SoFar.{SoFar}
use Rattle.arrival_csv.specs.Reading.{Read, arrivals_from}

-- the arrivals that are read, and then those of the rows that are left
abbrev pub after : List Arrival → Read (List Arrival) → Read (List Arrival)
after arrivals rest = rest >>= (λ more. Ok (arrivals ++ more))

-- what is read in the end, where these rows are left
abbrev pub read_with : TaskSet → ℕ → SoFar → List (List (List ℕ)) → Read (List Arrival)
read_with set slots so_far rows =
    after so_far.arrivals.items (arrivals_from set slots so_far.row so_far.before rows)

-- once a row of these fields is taken, the same is read in the end; a row that is not taken has
-- the fault that is
abbrev pub TakesFields : TaskSet → ℕ → SoFar → SoFar → List (List ℕ)
    → Result ⊤ ArrivalFault → Type 0
TakesFields set slots old new fields taken = (rows : List (List (List ℕ))) → MatchResult taken
    (λ done. read_with set slots new rows ≡ read_with set slots old (fields ∷ rows))
    (λ e. e ≢ Memory → read_with set slots old (fields ∷ rows) ≡ Err e)
