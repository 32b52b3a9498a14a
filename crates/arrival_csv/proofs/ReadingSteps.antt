-- What reading one more row does to the arrivals that are read.
use Rattle.std.proofs.Common.{◌≡◌, ℕ, ◌+◌, List, [], ◌∷◌, ◌++◌, Ok, Err, refl, sym, ap, ◌∙◌, append_assoc}
use Rattle.std.proofs.lemmas.List.{append-nil}
use Rattle.slot_core.specs.declared.events.Arrival.{Arrival}
use Rattle.slot_core.specs.declared.tasks.TaskSet.{TaskSet}
use Rattle.slot_core.specs.Calls.Results.{◌>>=◌}
use Rattle.arrival_csv.specs.Reading.{Read, arrival_of, arrivals_from}
use Rattle.arrival_csv.specs.SoFar.{after}

-- no row is left
pub after-none : (arrivals : List Arrival) (read : Read (List Arrival)) → after arrivals (Ok []) ≡ read → read ≡ Ok arrivals
after-none arrivals read is = sym is ∙ ap Ok (append-nil arrivals)

-- a row that is read stands behind those before it
pub after-read : (set : TaskSet) (slots row before : ℕ) (fields : List (List ℕ)) (rows : List (List (List ℕ))) (a : Arrival) (arrivals : List Arrival) → arrival_of set slots row before fields ≡ Ok a
    → after arrivals (arrivals_from set slots row before (fields ∷ rows)) ≡ after (arrivals ++ a ∷ []) (arrivals_from set slots (row + 1) a.slot rows)
after-read set slots row before fields rows a arrivals is =
    rw is (by_rest (arrivals_from set slots (row + 1) a.slot rows))
  where
    by_rest : (rest : Read (List Arrival)) → after arrivals (rest >>= (λ more. Ok (a ∷ more))) ≡ after (arrivals ++ a ∷ []) rest
    by_rest (Ok more) = ap Ok (sym (append_assoc arrivals (a ∷ []) more))
    by_rest (Err fault) = refl
