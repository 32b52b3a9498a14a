-- The time after a whole trace.
use Rattle.std.proofs.Common.{◌≡◌, ℕ, zero, suc, ◌+◌, List, [], ◌∷◌, ◌++◌, map, append-nil, append_assoc, refl, ap, ◌∙◌, sym, arith}
use Rattle.std.proofs.lemmas.List.{reverse-append}
use Rattle.slot_core.specs.declared.tasks.TaskSet.{TaskSet}
use Rattle.slot_core.specs.declared.events.Arrival.{Arrival}
use Rattle.slot_core.specs.declared.events.Entry.{Entry}
use Rattle.slot_core.specs.declared.events.What.TheVariants.{Start, End}
use Rattle.slot_core.specs.Sets.Cycles.{cycle_of}
use Rattle.slot_core.specs.Runs.Choice.{choice}
use Rattle.slot_core.specs.Runs.Histories.{History, time_of}
use Rattle.slot_core.specs.Runs.Scenes.{scene_of}
use Rattle.slot_core.specs.Runs.Traces.{Occurrence, arrive, slot, told_of, shown_entry, history_after, entries, occurrences_of, started, end_entry, trace, history_of}
use Rattle.slot_facts.proofs.Legal.Traces.{arrivals_in}
use Rattle.slot_facts.proofs.Replays.Entries.{time_of-arrival, time_of-ran}
use Rattle.slot_facts.proofs.Replays.Following.{occurrences_from}
use Rattle.slot_facts.proofs.Replays.Told.{history_of-more}

-- the first entry of a list is the oldest of its history
history_of-cons : (e : Entry) (told : List Entry) (h : History) → history_of (e ∷ told) ++ h ≡ history_of told ++ e.what ∷ h
history_of-cons e told h =
    rw (reverse-append (e.what ∷ []) (map (λ (e : Entry). e.what) told)) (append_assoc (history_of told) (e.what ∷ []) h)

-- the entries of occurrences tell the history after them
pub history_of-entries : (set : TaskSet) (cycle : ℕ) (h : History) (next : List Occurrence) → history_of (entries set cycle h next) ++ h ≡ history_after set cycle h next
history_of-entries set cycle h [] = refl
history_of-entries set cycle h (next ∷ later) =
    let what = told_of set cycle h next in
    history_of-cons (shown_entry set cycle (time_of h) what (what ∷ h)) (entries set cycle (what ∷ h) later) h
    ∙ history_of-entries set cycle (what ∷ h) later

-- arrivals and a slot take one slot
time_of-slot : (set : TaskSet) (cycle : ℕ) (h : History) (arrivals : List Arrival) (later : List Occurrence) (time : ℕ) → ((after : History) → time_of after ≡ suc (time_of h) → time_of (history_after set cycle after later) ≡ time) → time_of (history_after set cycle h ((map (λ (a : Arrival). arrive a.row a.event) arrivals ++ slot ∷ []) ++ later)) ≡ time
time_of-slot set cycle h [] later time more =
    more (told_of set cycle h slot ∷ h) (time_of-ran (choice set.sporadics cycle (scene_of set cycle h)) h)
time_of-slot set cycle h (a ∷ arrivals) later time more =
    let same = time_of-arrival set cycle h a.row a.event in
    time_of-slot set cycle (told_of set cycle h (arrive a.row a.event) ∷ h) arrivals later time (λ after e. more after (e ∙ ap suc same))

-- what happens in so many slots takes so many
time_of-slots : (set : TaskSet) (cycle : ℕ) (h : History) (arrivals : List Arrival) (time count : ℕ) → time_of (history_after set cycle h (occurrences_from arrivals time count)) ≡ time_of h + count
time_of-slots set cycle h arrivals time zero = omega arith
time_of-slots set cycle h arrivals time (suc count) =
    time_of-slot set cycle h (arrivals_in arrivals time) (occurrences_from arrivals (time + 1) count) (time_of h + suc count) λ after e.
    omega (arith, e, time_of-slots set cycle after arrivals (time + 1) count)

-- the history of a trace of n slots is at time n
pub time_of-trace : (set : TaskSet) (arrivals : List Arrival) (n : ℕ) → time_of (history_of (trace set arrivals n)) ≡ n
time_of-trace set arrivals n =
    let cycle = cycle_of set in
    let first = shown_entry set cycle 0 Start started in
    let told = entries set cycle started (occurrences_of arrivals n) in
    let whole : history_of (trace set arrivals n) ≡ End ∷ history_of (first ∷ told) = history_of-more (first ∷ told) (end_entry n) in
    let after : history_of (first ∷ told) ++ [] ≡ history_after set cycle started (occurrences_of arrivals n) =
    history_of-cons first told [] ∙ history_of-entries set cycle started (occurrences_of arrivals n) in
    omega (arith, ap time_of whole, ap time_of (sym (append-nil (history_of (first ∷ told))) ∙ after), time_of-slots set cycle started arrivals 0 n)
