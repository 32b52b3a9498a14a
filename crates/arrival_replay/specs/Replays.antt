-- How a replay goes, where it stops, and how it ends before its trace does.
use Rattle.std.specs.Prelude.{◌≡◌, ℕ, ◌+◌, ◌-◌, ◌≤◌, Bool, true, false, ◌&&◌, ◌||◌, ◌==◌, nat_lt, List, [], ◌∷◌, ◌++◌, length, take, slice_get, Option, Some, None, is_none, if◌then◌else◌, ⊤}
use Rattle.slot_core.specs.declared.events.Arrival.{Arrival}
use Rattle.slot_core.specs.declared.events.Entry.{Entry}
use Rattle.slot_core.specs.declared.events.What.{What}
use Rattle.slot_core.specs.declared.events.What.TheVariants.{Soft, Firm, Sporadic, Done, Withdraw}
use Rattle.slot_core.specs.declared.events.Firm.TheVariants.{Accepted}
use Rattle.slot_core.specs.declared.events.Spo.TheVariants.{Soon}
use Rattle.slot_core.specs.declared.events.Done.TheVariants.{NotRunning}
use Rattle.slot_core.specs.declared.events.Gone.TheVariants.{NoJob}
use Rattle.arrival_replay.specs.declared.Stay.{Stay}
use Rattle.arrival_replay.specs.declared.Stay.TheVariants.{Nothing, Others, All}
use Rattle.slot_core.specs.Runs.Arrivals.{event_may_come, event_names_known}
use Rattle.slot_core.specs.Keeping.Executives.{Executive, StandsFor}
use Rattle.slot_core.specs.Keeping.Plans.{PlanParts}
use Rattle.slot_core.specs.Runs.Histories.{History, time_of}
use Rattle.slot_core.specs.Runs.ShownSpans.{ShownSpans, others_of}
use Rattle.slot_core.specs.Runs.Traces.{Occurrence, arrive, slot, told_of, shown_entry, end_entry, history_of}

-- the arrival, where it is due at this time
abbrev pub due_at : ℕ → Option Arrival → Option Arrival
due_at time None = None
due_at time (Some arrival) = if arrival.slot == time then Some arrival else None

-- the arrival at this place, where it is due at this time
abbrev pub due_arrival : List Arrival → ℕ → ℕ → Option Arrival
due_arrival arrivals place time = due_at time (slice_get arrivals place)

-- what happens next: an arrival that is due, and else the slot
abbrev pub next_occurrence : Option Arrival → Occurrence
next_occurrence None = slot
next_occurrence (Some arrival) = arrive arrival.row arrival.event

-- a replay up to the arrival at a place is on the way: slots are left, and what comes next is an
-- earlier arrival, or no arrival that is due
abbrev pub is_on_the_way : List Arrival → ℕ → ℕ → ℕ → ℕ → Bool
is_on_the_way arrivals slots place next time =
    nat_lt time slots && (nat_lt next place || is_none (due_arrival arrivals next time))

-- what happened may have changed the spans: soft work, a refused arrival, and an early end or a
-- withdrawal that found no job change none
abbrev pub may_change_spans : What → Bool
may_change_spans (Soft row slots answer) = false
may_change_spans (Firm row slots within Accepted) = true
may_change_spans (Firm row slots within refused) = false
may_change_spans (Sporadic row index (Soon next)) = false
may_change_spans (Done row key NotRunning) = false
may_change_spans (Withdraw row firm NoJob) = false
may_change_spans other = true

-- the entry of this arrival after a history
abbrev pub entry_of : PlanParts → History → Arrival → Entry
entry_of plan h a =
    let what = told_of plan.tasks plan.cycle h (arrive a.row a.event) in
    shown_entry plan.tasks plan.cycle (time_of h) what (what ∷ h)

-- how many entries of a trace come before that of this arrival: the start, the slots before its
-- own, and the arrivals of the rows before its own
abbrev pub entries_before : Arrival → ℕ
entries_before a = 1 + a.slot + (a.row - 1)

-- the history before the entry of this arrival
abbrev pub history_before : List Entry → Arrival → History
history_before trace a = history_of (take (entries_before a) trace)

-- the executive stands for the history before the entry of this arrival, which comes next, and may
pub record StandsBefore (exec : Executive) (trace : List Entry) (a : Arrival) : Type 0 where
  pub stands : StandsFor exec (history_before trace a)
  pub now : exec.scene.time ≡ a.slot
  pub row : exec.last_row + 1 ≡ a.row
  pub may_come : event_may_come exec.plan.tasks a.event ≡ true
  pub named : event_names_known exec.plan.tasks a.event ≡ true
  pub next :
      slice_get trace (entries_before a) ≡ Some (entry_of exec.plan (history_before trace a) a)

-- when this arrival comes, or without one the end
abbrev pub time_of_next : ℕ → Option Arrival → ℕ
time_of_next slots None = slots
time_of_next slots (Some a) = a.slot

-- the entries from then on: that of the arrival and later ones, or the end
abbrev pub entries_from : PlanParts → ℕ → History → Option Arrival → List Entry → List Entry
entries_from plan slots h None later = end_entry slots ∷ []
entries_from plan slots h (Some a) later = entry_of plan h a ∷ later

-- a replay has stopped where this arrival comes next, or without one at the end: entries were told
-- and taken, as many as there were slots and arrivals and the start, the executive stands for their
-- history, and the trace goes on from there
pub record IsStopped
    (Took : List Entry → Type 0) (exec : Executive) (trace : List Entry) (slots : ℕ)
    (next : Option Arrival) : Type 0 where
  pub told : List Entry
  pub took : Took told
  pub stands : StandsFor exec (history_of told)
  pub now : exec.scene.time ≡ time_of_next slots next
  pub count : length told ≡ 1 + exec.scene.time + exec.last_row
  pub later : List Entry
  pub whole : told ++ entries_from exec.plan slots (history_of told) next later ≡ trace

-- a trace breaks off: of its first entries all are taken but the last, and the executive stands for
-- the history that they tell
pub record BreaksOff (Broke : List Entry → Type 0) (exec : Executive) (trace : List Entry) : Type 0
  where
    pub told : ℕ
    pub within : told ≤ length trace
    pub broke : Broke (take told trace)
    pub stands : StandsFor exec (history_of (take told trace))

-- these spans stay between two entries: none need to, or those after the first do, with the number
-- of those that are not shown, or all do
abbrev pub Stays : Stay → ShownSpans → ShownSpans → Type 0
Stays Nothing before after = ⊤
Stays Others before after = others_of before ≡ others_of after
Stays All before after = before ≡ after
