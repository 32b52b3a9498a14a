-- What the verdict on a recorded trace means.
use Rattle.std.specs.Prelude.{◌≡◌, ◌≤◌, ◌↔◌, ℕ, true, List, Ok}
use Rattle.slot_core.specs.declared.TheConstants.{REPLAY_LIMIT}
use Rattle.slot_core.specs.declared.tasks.TaskSet.{TaskSet}
use Rattle.slot_core.specs.declared.events.Arrival.{Arrival}
use Rattle.slot_core.specs.declared.events.Entry.{Entry}
use Rattle.slot_core.specs.Claims.Lawful.{IsLawfulTrace}
use Rattle.slot_core.specs.Output.Texts.{trace_text}
use Rattle.slot_core.specs.Runs.Arrivals.{are_fitting}
use Rattle.slot_core.specs.Sets.Cycles.{cycle_of}
use Rattle.slot_core.specs.Sets.Ranges.{is_sound}
use Rattle.trace_verify.specs.Verdicts.{verdict}

-- the text is that of a lawful trace of the set, these arrivals and so many slots
abbrev pub IsLawfulText : TaskSet → List Arrival → ℕ → List ℕ → Type 0
IsLawfulText set arrivals n text =
    (entries : List Entry) × IsLawfulTrace set arrivals n entries × (text ≡ trace_text set entries)

-- for every sound set, fitting arrivals and number of slots within the limit, the verdict on a text
-- is Ok exactly where the text is that of a lawful trace
abbrev pub VerdictIsExact : Type 0
VerdictIsExact =
    (set : TaskSet) (arrivals : List Arrival) (n : ℕ) (text : List ℕ)
    → is_sound set ≡ true → n ≤ REPLAY_LIMIT → are_fitting set n arrivals ≡ true
    → (verdict set (cycle_of set) arrivals n text ≡ Ok tt) ↔ IsLawfulText set arrivals n text
