-- What a dialogue has to do with the replay of its arrivals.
use Rattle.std.specs.Prelude.{◌≡◌, ℕ, Bool, true, false, List, [], ◌∷◌, ◌++◌, nat_lt, if◌then◌else◌, Ok, Err}
use Rattle.std.specs.List.{list_all}
use Rattle.slot_core.specs.declared.events.Arrival.{Arrival}
use Rattle.slot_core.specs.declared.tasks.TaskSet.{TaskSet}
use Rattle.slot_core.specs.Output.Texts.{trace_text}
use Rattle.slot_core.specs.Runs.Arrivals.{are_fitting}
use Rattle.slot_core.specs.Runs.Histories.{time_of}
use Rattle.slot_core.specs.Runs.Traces.{started, trace}
use Rattle.slot_core.specs.Sets.Cycles.{cycle_of}
use Rattle.live_lines.specs.Commands.{Asked}
use Rattle.live_lines.specs.declared.commands.LiveCommand.TheVariants.{Ahead, Carried}
use Rattle.live_lines.specs.Lines.{Heard}
use Rattle.live_run.specs.Dialogues.{Exchange, exchanges, history_heard, arrivals_made, start_text, AreAnswers, IsOver}

-- lines of a trace answer: it is no look ahead, asks for no change, and is not refused
abbrev pub is_traced : Asked → Bool
is_traced (Ok (Ahead slots)) = false
is_traced (Ok (Carried keep)) = false
is_traced (Ok command) = true
is_traced (Err fault) = false

-- of the texts that answer exchanges, those that are lines of a trace
abbrev pub traced_text : List Exchange → List (List ℕ) → List ℕ
traced_text (x ∷ xs) (text ∷ texts) =
    (if is_traced x.asked then text else []) ++ traced_text xs texts
traced_text xs texts = []

-- the slots that pass in a dialogue
abbrev pub slots_passed : TaskSet → List Heard → ℕ
slots_passed set heards = time_of (history_heard set (cycle_of set) started heards)

-- a slot passes after each arrival
abbrev pub have_slots : ℕ → List Arrival → Bool
have_slots n arrivals = list_all (λ (a : Arrival). nat_lt a.slot n) arrivals

-- the answers of a dialogue that is over, without those of lines that are refused, of looks ahead
-- and of what a change would carry over, are the trace of its arrivals over its slots, where a slot
-- passes after each arrival: they fit, and a replay of them writes the same text
abbrev pub DialoguesAreReplays : Type 0
DialoguesAreReplays =
    (set : TaskSet) (heards : List Heard) (answers : List (List ℕ)) → IsOver set heards
    → let cycle = cycle_of set in
    let xs = exchanges set cycle heards in
    let arrivals = arrivals_made xs in
    let n = slots_passed set heards in
    AreAnswers set cycle xs answers → have_slots n arrivals ≡ true
    → (are_fitting set n arrivals ≡ true)
    × (start_text set cycle ++ traced_text xs answers
    ≡ trace_text set (trace set arrivals n))
