-- The trace of a task set and its arrivals, and the histories that the definitions allow.
use Rattle.std.specs.Prelude.{◌≡◌, true, ℕ, ◌==◌, List, [], ◌∷◌, ◌++◌, map, filter, flat_map, reverse, ⊤}
use Rattle.std.specs.List.{range_with_len}
use Rattle.slot_core.specs.declared.tasks.TaskSet.{TaskSet}
use Rattle.slot_core.specs.declared.events.Event.{Event}
use Rattle.slot_core.specs.declared.events.Arrival.{Arrival}
use Rattle.slot_core.specs.declared.events.Entry.{Entry}
use Rattle.slot_core.specs.declared.events.Ran.{Ran}
use Rattle.slot_core.specs.declared.events.Ran.TheVariants.{Idle as RanIdle, Key}
use Rattle.slot_core.specs.declared.events.What.{What}
use Rattle.slot_core.specs.declared.events.What.TheVariants.{Start, Run, Idle, End}
use Rattle.slot_core.specs.Sets.Cycles.{cycle_of}
use Rattle.slot_core.specs.Runs.Histories.{History, time_of, last_row}
use Rattle.slot_core.specs.Runs.Arrivals.{MayHaveRow, event_may_come}
use Rattle.slot_core.specs.Runs.Scenes.{scene_of}
use Rattle.slot_core.specs.Runs.Choice.{choice}
use Rattle.slot_core.specs.Runs.Answers.{answer}
use Rattle.slot_core.specs.Runs.Spans.{shown_of}

-- what happens next: an arrival in this row, or a slot that passes
pub data Occurrence : Type 0 where
  arrive : ℕ → Event → Occurrence
  slot : Occurrence

-- what an entry tells of the slot that passed
abbrev pub told_of_slot : Ran → What
told_of_slot RanIdle = Idle
told_of_slot (Key key) = Run key

-- what is told of an occurrence after a history: the answer, or what runs
abbrev pub told_of : TaskSet → ℕ → History → Occurrence → What
told_of set cycle h (arrive row event) = answer set cycle (scene_of set cycle h) row event
told_of set cycle h slot = told_of_slot (choice set.sporadics cycle (scene_of set cycle h))

-- the entry at this time, with the spans after it
abbrev pub shown_entry : TaskSet → ℕ → ℕ → What → History → Entry
shown_entry set cycle time what h =
    record { time = time; what = what; shown = shown_of cycle (scene_of set cycle h) }

-- the history after these occurrences
abbrev pub history_after : TaskSet → ℕ → History → List Occurrence → History
history_after set cycle h [] = h
history_after set cycle h (next ∷ later) =
    history_after set cycle (told_of set cycle h next ∷ h) later

-- the entries of these occurrences from a history on
abbrev pub entries : TaskSet → ℕ → History → List Occurrence → List Entry
entries set cycle h [] = []
entries set cycle h (next ∷ later) =
    let what = told_of set cycle h next in
    shown_entry set cycle (time_of h) what (what ∷ h) ∷ entries set cycle (what ∷ h) later

-- the arrivals of this slot in their order, and then the slot
abbrev pub occurrences_in : List Arrival → ℕ → List Occurrence
occurrences_in arrivals time =
    map
    (λ (a : Arrival). arrive a.row a.event)
    (filter (λ (a : Arrival). a.slot == time) arrivals)
    ++ slot ∷ []

-- what happens in the first n slots
abbrev pub occurrences_of : List Arrival → ℕ → List Occurrence
occurrences_of arrivals n = flat_map (occurrences_in arrivals) (range_with_len 0 n)

-- the history that holds the start entry alone
abbrev pub started : History
started = Start ∷ []

-- the last entry, which shows nothing
abbrev pub end_entry : ℕ → Entry
end_entry n = record { time = n; what = End; shown = record { spans = []; more = 0 } }

-- the trace of n slots: the start, the entries of each slot, and the end
abbrev pub trace_in : TaskSet → ℕ → List Arrival → ℕ → List Entry
trace_in set cycle arrivals n =
    shown_entry set cycle 0 Start started
    ∷ (entries set cycle started (occurrences_of arrivals n) ++ end_entry n ∷ [])

-- the trace of a set over n slots
abbrev pub trace : TaskSet → List Arrival → ℕ → List Entry
trace set arrivals n = trace_in set (cycle_of set) arrivals n

-- the history that entries tell, newest first
abbrev pub history_of : List Entry → History
history_of trace = reverse (map (λ (e : Entry). e.what) trace)

-- an occurrence may come: an arrival's event may have its row, and may come
abbrev pub MayCome : TaskSet → History → Occurrence → Type 0
MayCome set h (arrive row event) =
    MayHaveRow (last_row h) row event × (event_may_come set event ≡ true)
MayCome set h slot = ⊤

-- what an entry tells is what the definitions tell, at the history before it, of an occurrence that
-- may come
abbrev pub IsDue : TaskSet → ℕ → History → What → Type 0
IsDue set cycle h what =
    (next : Occurrence) × MayCome set h next × (what ≡ told_of set cycle h next)

-- each entry of the history but starts and ends is due at those before it
abbrev pub IsLegal : TaskSet → ℕ → History → Type 0
IsLegal set cycle [] = ⊤
IsLegal set cycle (Start ∷ h) = IsLegal set cycle h
IsLegal set cycle (End ∷ h) = IsLegal set cycle h
IsLegal set cycle (what ∷ h) = IsDue set cycle h what × IsLegal set cycle h
