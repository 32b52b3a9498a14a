-- Arrivals that fit a task set and a number of slots.
use Rattle.std.specs.Prelude.{ℕ, ◌+◌, ◌<◌, ◌≤◌, Bool, true, ◌&&◌, ◌==◌, List, [], ◌∷◌, length, nat_le, nat_lt}
use Rattle.slot_core.specs.declared.jobs.Key.{Key}
use Rattle.slot_core.specs.declared.jobs.Key.TheVariants.{Offline, Sporadic as SporadicKey, Firm as FirmKey, Soft as SoftKey}
use Rattle.slot_core.specs.declared.events.Event.{Event}
use Rattle.slot_core.specs.declared.events.Event.TheVariants.{Soft, Firm, Sporadic, Done, Withdraw}
use Rattle.slot_core.specs.declared.events.Arrival.{Arrival}
use Rattle.slot_core.specs.declared.events.What.{What}
use Rattle.slot_core.specs.declared.events.What.TheVariants.{Sporadic as SporadicEntry, Done as DoneEntry, Run}
use Rattle.slot_core.specs.declared.tasks.TaskSet.{TaskSet}
use Rattle.slot_core.specs.Offline.OfflineJobs.{tasks_of}
use Rattle.slot_core.specs.declared.TheConstants.{ARRIVAL_LIMIT, NUMBER_LIMIT, OFFER_LIMIT}
use Rattle.slot_core.specs.Sets.Ranges.{is_between}

-- the key names a graph, task or sporadic task of the set, where it names one
abbrev pub key_in_set : TaskSet → Key → Bool
key_in_set set (Offline graph task instance) =
    nat_lt graph (length set.graphs) && nat_lt task (length (tasks_of set graph))
key_in_set set (SporadicKey index row) = nat_lt index (length set.sporadics)
key_in_set set (FirmKey row) = true
key_in_set set (SoftKey row) = true

-- what an entry names lies in the set
abbrev pub what_in_set : TaskSet → What → Bool
what_in_set set (SporadicEntry row index a) = nat_lt index (length set.sporadics)
what_in_set set (DoneEntry row key a) = key_in_set set key
what_in_set set (Run key) = key_in_set set key
what_in_set set _ = true

-- the numbers of a key that an arrival names are in range
abbrev pub key_in_range : Key → Bool
key_in_range (Offline graph task instance) = nat_le instance NUMBER_LIMIT
key_in_range (SporadicKey index row) = is_between 1 ARRIVAL_LIMIT row
key_in_range (FirmKey row) = is_between 1 ARRIVAL_LIMIT row
key_in_range (SoftKey row) = is_between 1 ARRIVAL_LIMIT row

-- the event may come: its numbers are in range; an early end may name any key, and a withdrawal
-- any row
abbrev pub event_may_come : TaskSet → Event → Bool
event_may_come set (Soft slots) = is_between 1 OFFER_LIMIT slots
event_may_come set (Firm slots within) =
    is_between 1 OFFER_LIMIT slots && nat_le within OFFER_LIMIT
event_may_come set (Sporadic index) = nat_lt index (length set.sporadics)
event_may_come set (Done key) = true
event_may_come set (Withdraw firm) = true

-- after the last arrival's row the event may have this one: a row above it, since a job is named by
-- the row in which it came; an early end or a withdrawal brings no job, so it may have the last row
-- too
abbrev pub MayHaveRow : ℕ → ℕ → Event → Type 0
MayHaveRow last row (Done key) = last ≤ row
MayHaveRow last row (Withdraw firm) = last ≤ row
MayHaveRow last row _ = last < row

-- what the event names is in range, and the set has it
abbrev pub event_names_known : TaskSet → Event → Bool
event_names_known set (Done key) = key_in_set set key && key_in_range key
event_names_known set (Withdraw firm) = is_between 1 ARRIVAL_LIMIT firm
event_names_known set _ = true

-- the event may stand in an arrivals file: it may come, and names what is known
abbrev pub event_fits : TaskSet → Event → Bool
event_fits set event = event_may_come set event && event_names_known set event

-- rows count up from this one, and slots never fall below this one and stay below n
abbrev pub arrivals_follow : TaskSet → ℕ → ℕ → ℕ → List Arrival → Bool
arrivals_follow set n row slot [] = true
arrivals_follow set n row slot (a ∷ arrivals) =
    a.row == row
    && nat_le slot a.slot
    && nat_lt a.slot n
    && event_fits set a.event
    && arrivals_follow set n (row + 1) a.slot arrivals

-- arrivals that fit n slots and the set: no more than the limit, their rows 1, 2, 3 and so on
abbrev pub are_fitting : TaskSet → ℕ → List Arrival → Bool
are_fitting set n arrivals =
    nat_le (length arrivals) ARRIVAL_LIMIT && arrivals_follow set n 1 0 arrivals
