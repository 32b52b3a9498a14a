-- What is left of a trace after slots in which nothing arrives.
use Rattle.std.proofs.Common.{◌≡◌, ℕ, zero, suc, ◌+◌, ◌<◌, ◌≤◌, true, List, [], ◌∷◌, ◌++◌, length, refl, ap, ◌∙◌, arith}
use Rattle.std.proofs.Math.ListN.{replicate}
use Rattle.std.proofs.lemmas.Bool.{le-leb}
use Rattle.slot_core.specs.declared.TheConstants.{ARRIVAL_LIMIT}
use Rattle.slot_core.specs.declared.events.Arrival.{Arrival}
use Rattle.slot_core.specs.declared.tasks.TaskSet.{TaskSet}
use Rattle.slot_core.specs.Runs.Arrivals.{arrivals_follow}
use Rattle.slot_core.specs.Runs.Choice.{choice}
use Rattle.slot_core.specs.Runs.Histories.{History, last_row, time_of}
use Rattle.slot_core.specs.Runs.Scenes.{scene_of}
use Rattle.slot_core.specs.Runs.Traces.{slot, told_of, entries, history_after}
use Rattle.slot_facts.proofs.Legal.Traces.{last_row-ran, BeginsWith-from}
use Rattle.slot_facts.proofs.Replays.Entries.{AreLeft, entries_left, entries_left-slot, entry_after, time_of-ran}
use Rattle.slot_facts.proofs.Replays.Following.{NoneIsDue}

-- a slot takes one, and leaves the last row
time-slot : (set : TaskSet) (cycle : ℕ) (h : History) → time_of (told_of set cycle h slot ∷ h) ≡ suc (time_of h)
time-slot set cycle h = time_of-ran (choice set.sporadics cycle (scene_of set cycle h)) h

row-slot : (set : TaskSet) (cycle : ℕ) (h : History) → last_row (told_of set cycle h slot ∷ h) ≡ last_row h
row-slot set cycle h = last_row-ran (choice set.sporadics cycle (scene_of set cycle h)) h

-- and so do slots
pub time-slots : (set : TaskSet) (cycle : ℕ) (h : History) (count : ℕ) → time_of (history_after set cycle h (replicate count slot)) ≡ time_of h + count
time-slots set cycle h zero = omega arith
time-slots set cycle h (suc count) = omega (arith, time-slots set cycle (told_of set cycle h slot ∷ h) count, time-slot set cycle h)

pub row-slots : (set : TaskSet) (cycle : ℕ) (h : History) (count : ℕ) → last_row (history_after set cycle h (replicate count slot)) ≡ last_row h
row-slots set cycle h zero = refl
row-slots set cycle h (suc count) = row-slots set cycle (told_of set cycle h slot ∷ h) count ∙ row-slot set cycle h

-- arrivals that follow from a time on follow from an earlier one on
pub follow-earlier : (set : TaskSet) (n row from time : ℕ) (arrivals : List Arrival) → time ≤ from → arrivals_follow set n row from arrivals ≡ true → arrivals_follow set n row time arrivals ≡ true
follow-earlier set n row from time [] early follow = refl
follow-earlier set n row from time (a ∷ arrivals) early follow =
    let f = BeginsWith-from set n row from a arrivals follow in
    rw (le-leb time a.slot (omega (arith, early, f.not_before))) (rw (le-leb from a.slot f.not_before) at follow)

-- and none of them is due before
none-due : (set : TaskSet) (n row from time : ℕ) (arrivals : List Arrival) → time < from → arrivals_follow set n row from arrivals ≡ true → NoneIsDue time arrivals
none-due set n row from time [] early follow = tt
none-due set n row from time (a ∷ arrivals) early follow =
    let f = BeginsWith-from set n row from a arrivals follow in
    λ now. absurd (omega (arith, early, f.not_before, now))

-- the arrivals that follow after the last row, from a time on, are left
are-left : (set : TaskSet) (n from : ℕ) (h : History) (arrivals : List Arrival) → time_of h ≤ from → arrivals_follow set n (last_row h + 1) from arrivals ≡ true → last_row h + length arrivals ≤ ARRIVAL_LIMIT → AreLeft set n h arrivals
are-left set n from h arrivals early follow few = record {
  row = last_row h + 1;
  above = omega arith;
  follow = follow-earlier set n (last_row h + 1) from (time_of h) arrivals early follow;
  few = omega (arith, few);
}

-- the entries that are left are those of the slots before the first arrival, and then those that are
-- left after them
pub entries_left-slots : (set : TaskSet) (cycle n count : ℕ) (h : History) (arrivals : List Arrival) → arrivals_follow set n (last_row h + 1) (time_of h + count) arrivals ≡ true → last_row h + length arrivals ≤ ARRIVAL_LIMIT → time_of h + count ≤ n → entries_left set cycle n h arrivals ≡ entries set cycle h (replicate count slot) ++ entries_left set cycle n (history_after set cycle h (replicate count slot)) arrivals
entries_left-slots set cycle n zero h arrivals follow few within = refl
entries_left-slots set cycle n (suc count) h arrivals follow few within =
    let what = told_of set cycle h slot in
    let from = time_of h + suc count in
    let none = none-due set n (last_row h + 1) from (time_of h) arrivals (omega arith) follow in
    let left = are-left set n from h arrivals (omega arith) follow few in
    let time : time_of h + suc count ≡ time_of (what ∷ h) + count = omega (arith, time-slot set cycle h) in
    let later : arrivals_follow set n (last_row (what ∷ h) + 1) (time_of (what ∷ h) + count) arrivals ≡ true = rw (row-slot set cycle h, ← time) follow in
    let fewer : last_row (what ∷ h) + length arrivals ≤ ARRIVAL_LIMIT = rw (row-slot set cycle h) few in
    entries_left-slot set cycle n h arrivals none left (omega (arith, within))
    ∙ ap (λ es. entry_after set cycle h slot ∷ es) (entries_left-slots set cycle n count (what ∷ h) arrivals later fewer (omega (arith, within, time)))
