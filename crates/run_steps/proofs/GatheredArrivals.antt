-- The arrivals of a command fit its plan and its slots.
use Rattle.std.proofs.Common.{◌≡◌, ℕ, true, List, [], Result, Ok, Err, refl, sym, ap, subst, ◌∙◌, arith}
use Rattle.std.specs.Result.{result_map_both}
use Rattle.slot_core.specs.declared.events.Arrival.{Arrival}
use Rattle.slot_core.specs.declared.tasks.TaskSet.{TaskSet}
use Rattle.slot_core.specs.Runs.Arrivals.{are_fitting}
use Rattle.slot_core.specs.Keeping.Plans.{PlanParts}
use Rattle.slot_core.specs.Calls.Results.{◌>>=◌}
use Rattle.faults.specs.declared.arrival_fault.ArrivalFault.{ArrivalFault}
use Rattle.arrival_csv.specs.Reading.{reading_of_arrivals}
use Rattle.arrival_csv.proofs.ReadArrivals.{are_fitting-reading}
use Rattle.load_gen.specs.LoadArrivals.{load_arrivals}
use Rattle.load_gen.specs.Loads.{load_set}
use Rattle.load_gen.proofs.ArrivalLemmas.{load_arrivals-fit}
use Rattle.command_line.specs.declared.refusal.Refusal.TheVariants.{BadArrivals}
use Rattle.command_line.specs.Refusals.{Outcome}
use Rattle.slot_io.specs.Files.{Held}
use Rattle.command_line.specs.declared.file.File.TheVariants.{Arrivals as ArrivalsFile}
use Rattle.command_line.specs.declared.TheConstants.{LOAD_SLOTS}
use Rattle.command_line.specs.declared.commands.Arrivals.{Arrivals}
use Rattle.command_line.specs.declared.commands.Arrivals.TheVariants.{Absent, Recorded, Generated}
use Rattle.command_line.specs.declared.commands.Source.{Source}
use Rattle.command_line.specs.declared.commands.Source.TheVariants.{Load}
use Rattle.command_line.specs.Commands.{slots_in}
use Rattle.run_steps.specs.Readings.{bytes_of, fitting_arrivals, recorded_arrivals, arrivals_from, plan_from}
use Rattle.run_steps.proofs.SourcePlans.{tasks-load}

-- arrivals that are due are those of the reading
due-read : (r : Result (List Arrival) ArrivalFault) (arrivals : List Arrival) → (let s : Outcome (List Arrival) = result_map_both (λ (read : List Arrival). read) BadArrivals r in s) ≡ Ok arrivals → r ≡ Ok arrivals
due-read (Ok read) arrivals is = let same : read ≡ arrivals = cc in ap Ok same
due-read (Err fault) arrivals is = cc

-- arrivals of a file that is read fit the set and the slots
are_fitting-read : (read : Outcome (List ℕ)) (slots : ℕ) (set : TaskSet) (arrivals : List Arrival) → (read >>= (λ bytes. fitting_arrivals bytes slots set)) ≡ Ok arrivals → are_fitting set slots arrivals ≡ true
are_fitting-read (Ok bytes) slots set arrivals is =
    are_fitting-reading bytes slots set arrivals (due-read (reading_of_arrivals bytes slots set) arrivals is)
are_fitting-read (Err refusal) slots set arrivals is = cc

-- so do the recorded arrivals of a run
fitting-recorded : (held : Held) (words : List (List ℕ)) (set : TaskSet) (slots : ℕ) (arrivals : List Arrival) → recorded_arrivals held words slots set ≡ Ok arrivals → are_fitting set slots arrivals ≡ true
fitting-recorded held words set slots arrivals is =
    are_fitting-read (bytes_of held words ArrivalsFile) slots set arrivals is

same_arrivals : (made arrivals : List Arrival) → (let o : Outcome (List Arrival) = Ok made in o) ≡ Ok arrivals → made ≡ arrivals
same_arrivals made arrivals is = cc

-- no arrivals fit every set
fitting-none : (set : TaskSet) (arrivals : List Arrival) → (let o : Outcome (List Arrival) = Ok [] in o) ≡ Ok arrivals → are_fitting set 0 arrivals ≡ true
fitting-none set arrivals is = subst (λ (none : List Arrival). are_fitting set 0 none ≡ true) (same_arrivals [] arrivals is) refl

-- those of a load fit its set
fitting-load : (n : ℕ) (set : TaskSet) (arrivals : List Arrival) → load_set n ≡ set → (let o : Outcome (List Arrival) = Ok (load_arrivals n LOAD_SLOTS) in o) ≡ Ok arrivals → are_fitting set LOAD_SLOTS arrivals ≡ true
fitting-load n set arrivals same is =
    subst (λ s. are_fitting s LOAD_SLOTS arrivals ≡ true) same (subst (λ (made : List Arrival). are_fitting (load_set n) LOAD_SLOTS made ≡ true) (same_arrivals (load_arrivals n LOAD_SLOTS) arrivals is) (load_arrivals-fit n LOAD_SLOTS (omega arith)))

pub fitting-from : (held : Held) (words : List (List ℕ)) (arrivals : Arrivals) (set : TaskSet) (made : List Arrival) → ((n : ℕ) → arrivals ≡ Generated n → load_set n ≡ set) → arrivals_from held words arrivals set ≡ Ok made → are_fitting set (slots_in arrivals) made ≡ true
fitting-from held words Absent set made load is = fitting-none set made is
fitting-from held words (Recorded slots) set made load is = fitting-recorded held words set slots made is
fitting-from held words (Generated n) set made load is = fitting-load n set made (load n refl) is

-- the plan of a load has its set
pub set-of_load : (held : Held) (words : List (List ℕ)) (source : Source) (plan : PlanParts) (n : ℕ) → source ≡ Load n → plan_from held words source ≡ Ok plan → load_set n ≡ plan.tasks
set-of_load held words source plan n is from = tasks-load held words n plan (ap (λ s. plan_from held words s) (sym is) ∙ from)
