-- What the arrivals keep that the bytes of an arrivals file write.
use Rattle.std.proofs.Common.{◌≡◌, ℕ, true, List, Vec, Global, Result, Ok, Err}
use Rattle.std.specs.Prelude.{IfOk}
use Rattle.csv.specs.Reading.{records, default_config, strip_bom}
use Rattle.slot_core.specs.declared.events.Arrival.{Arrival}
use Rattle.slot_core.specs.declared.tasks.TaskSet.{TaskSet}
use Rattle.slot_core.specs.Runs.Arrivals.{are_fitting}
use Rattle.faults.specs.declared.arrival_fault.ArrivalFault.{ArrivalFault}
use Rattle.arrival_csv.specs.Reading.{AnswersAs, reading_of_arrivals}
use Rattle.arrival_csv.proofs.FittingLemmas.{are_fitting-from_reading}

-- they fit the set and the number of slots
pub are_fitting-reading : (bytes : List ℕ) (slots : ℕ) (set : TaskSet) (arrivals : List Arrival) → reading_of_arrivals bytes slots set ≡ Ok arrivals → are_fitting set slots arrivals ≡ true
are_fitting-reading bytes slots set arrivals is =
    are_fitting-from_reading set slots (records default_config (strip_bom bytes)) arrivals is

-- and so do those of an answer that is what is read
pub are_fitting-answer : (bytes : List ℕ) (slots : ℕ) (set : TaskSet) (answer : Result (Vec Arrival Global) ArrivalFault) → AnswersAs (λ arrivals. arrivals.items) answer (reading_of_arrivals bytes slots set) → IfOk answer (λ arrivals. are_fitting set slots arrivals.items ≡ true)
are_fitting-answer bytes slots set (Ok arrivals) is = are_fitting-reading bytes slots set arrivals.items is
are_fitting-answer bytes slots set (Err fault) is = tt
