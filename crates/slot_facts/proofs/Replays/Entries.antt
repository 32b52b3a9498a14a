-- The entries that are left after a history, with the arrivals that are left.
use Rattle.std.proofs.Common.{◌≡◌, ℕ, suc, ◌+◌, ◌-◌, ◌<◌, ◌≤◌, true, List, [], ◌∷◌, ◌++◌, length, refl, sym, ap, ◌∙◌, subst, arith}
use Rattle.std.specs.Prelude.{nat_le}
use Rattle.std.proofs.lemmas.Bool.{and_parts, leb-true}
use Rattle.slot_core.specs.declared.TheConstants.{ARRIVAL_LIMIT}
use Rattle.slot_core.specs.declared.tasks.TaskSet.{TaskSet}
use Rattle.slot_core.specs.declared.events.Event.{Event}
use Rattle.slot_core.specs.declared.events.Event.TheVariants.{Soft, Firm, Sporadic, Done, Withdraw}
use Rattle.slot_core.specs.declared.events.Arrival.{Arrival}
use Rattle.slot_core.specs.declared.events.Entry.{Entry}
use Rattle.slot_core.specs.declared.events.Ran.{Ran}
use Rattle.slot_core.specs.declared.events.Ran.TheVariants.{Idle as RanIdle, Key as RanKey}
use Rattle.slot_core.specs.declared.events.What.TheVariants.{Start}
use Rattle.slot_core.specs.Runs.Arrivals.{arrivals_follow, are_fitting}
use Rattle.slot_core.specs.Runs.Choice.{choice}
use Rattle.slot_core.specs.Runs.Histories.{History, time_of, last_row}
use Rattle.slot_core.specs.Runs.Scenes.{scene_of}
use Rattle.slot_core.specs.Runs.Traces.{Occurrence, arrive, slot, told_of_slot, told_of, shown_entry, entries, started, end_entry, trace_in}
use Rattle.slot_facts.proofs.Legal.Traces.{last_row-arrival, last_row-ran, BeginsWith-from}
use Rattle.slot_facts.proofs.Replays.Following.{occurrences_from, NoneIsDue, occurrences_from-due, follow-later, occurrences_from-none}

-- the arrivals that are left after a history follow, from a row above its last one and from its
-- time on
pub record AreLeft (set : TaskSet) (n : ℕ) (h : History) (arrivals : List Arrival) : Type 0 where
  pub row : ℕ
  pub above : last_row h < row
  pub follow : arrivals_follow set n row (time_of h) arrivals ≡ true
  pub few : row + length arrivals ≤ ARRIVAL_LIMIT + 1

-- so the last row is within the limit
pub AreLeft-row : (set : TaskSet) (n : ℕ) (h : History) (arrivals : List Arrival) → AreLeft set n h arrivals → last_row h ≤ ARRIVAL_LIMIT
AreLeft-row set n h arrivals left = omega (arith, left.above, left.few)

-- what is left to happen then, in the slots up to the n-th
abbrev pub occurrences_left : ℕ → History → List Arrival → List Occurrence
occurrences_left n h arrivals = occurrences_from arrivals (time_of h) (n - time_of h)

-- the entries that are left then: those of the slots up to the n-th, and the end
abbrev pub entries_left : TaskSet → ℕ → ℕ → History → List Arrival → List Entry
entries_left set cycle n h arrivals =
    entries set cycle h (occurrences_left n h arrivals) ++ end_entry n ∷ []

-- the entry of what happens next
abbrev pub entry_after : TaskSet → ℕ → History → Occurrence → Entry
entry_after set cycle h next =
    let what = told_of set cycle h next in
    shown_entry set cycle (time_of h) what (what ∷ h)

-- an arrival takes no time
pub time_of-arrival : (set : TaskSet) (cycle : ℕ) (h : History) (row : ℕ) (event : Event) → time_of (told_of set cycle h (arrive row event) ∷ h) ≡ time_of h
time_of-arrival set cycle h row (Soft slots) = refl
time_of-arrival set cycle h row (Firm slots within) = refl
time_of-arrival set cycle h row (Sporadic index) = refl
time_of-arrival set cycle h row (Done key) = refl
time_of-arrival set cycle h row (Withdraw firm) = refl

-- a slot takes one
pub time_of-ran : (ran : Ran) (h : History) → time_of (told_of_slot ran ∷ h) ≡ suc (time_of h)
time_of-ran RanIdle h = refl
time_of-ran (RanKey key) h = refl

-- at the start all fitting arrivals are left
pub AreLeft-start : (set : TaskSet) (n : ℕ) (arrivals : List Arrival) → are_fitting set n arrivals ≡ true → AreLeft set n started arrivals
AreLeft-start set n arrivals fits =
    let both = and_parts (nat_le (length arrivals) ARRIVAL_LIMIT) (arrivals_follow set n 1 0 arrivals) fits in
    record {
      row = 1;
      above = omega arith;
      follow = both.1;
      few = omega (arith, leb-true (length arrivals) ARRIVAL_LIMIT both.0);
    }

-- and so are all entries of the trace but the first
pub entries_left-start : (set : TaskSet) (cycle n : ℕ) (arrivals : List Arrival) → trace_in set cycle arrivals n ≡ shown_entry set cycle 0 Start started ∷ entries_left set cycle n started arrivals
entries_left-start set cycle n arrivals =
    let all : n ≡ n - 0 = omega arith in
    ap (λ count. shown_entry set cycle 0 Start started ∷ (entries set cycle started (occurrences_from arrivals 0 count) ++ end_entry n ∷ [])) all

-- where the first arrival that is left is due, it is what happens next
pub occurrences_left-arrival : (set : TaskSet) (cycle n : ℕ) (h : History) (a : Arrival) (arrivals : List Arrival) → a.slot ≡ time_of h → time_of h < n → occurrences_left n h (a ∷ arrivals) ≡ arrive a.row a.event ∷ occurrences_left n (told_of set cycle h (arrive a.row a.event) ∷ h) arrivals
occurrences_left-arrival set cycle n h a arrivals due early =
    let next = arrive a.row a.event in
    let what = told_of set cycle h next in
    let count : n - time_of h ≡ suc (n - time_of h - 1) = omega arith in
    let happens : occurrences_left n h (a ∷ arrivals) ≡ next ∷ occurrences_left n h arrivals =
    rw count (occurrences_from-due a arrivals (time_of h) (n - time_of h - 1) due) in
    let later : occurrences_left n h arrivals ≡ occurrences_left n (what ∷ h) arrivals =
    ap (λ t. occurrences_from arrivals t (n - t)) (sym (time_of-arrival set cycle h a.row a.event)) in
    happens ∙ ap (λ os. next ∷ os) later

-- and its entry is the next one
pub entries_left-arrival : (set : TaskSet) (cycle n : ℕ) (h : History) (a : Arrival) (arrivals : List Arrival) → a.slot ≡ time_of h → time_of h < n → entries_left set cycle n h (a ∷ arrivals) ≡ entry_after set cycle h (arrive a.row a.event) ∷ entries_left set cycle n (told_of set cycle h (arrive a.row a.event) ∷ h) arrivals
entries_left-arrival set cycle n h a arrivals due early =
    ap (λ os. entries set cycle h os ++ end_entry n ∷ []) (occurrences_left-arrival set cycle n h a arrivals due early)

-- and the others are left after it
pub AreLeft-arrival : (set : TaskSet) (cycle n : ℕ) (h : History) (a : Arrival) (arrivals : List Arrival) → a.slot ≡ time_of h → AreLeft set n h (a ∷ arrivals) → AreLeft set n (told_of set cycle h (arrive a.row a.event) ∷ h) arrivals
AreLeft-arrival set cycle n h a arrivals due left =
    let f = BeginsWith-from set n left.row (time_of h) a arrivals left.follow in
    record {
      row = left.row + 1;
      above = omega (arith, last_row-arrival set cycle h a.row a.event, f.row_is);
      follow = subst (λ t. arrivals_follow set n (left.row + 1) t arrivals ≡ true) (due ∙ sym (time_of-arrival set cycle h a.row a.event)) f.rest;
      few = omega (arith, left.few);
    }

-- where none is due, all are left after the slot, whatever ran
pub AreLeft-ran : (set : TaskSet) (n : ℕ) (ran : Ran) (h : History) (arrivals : List Arrival) → NoneIsDue (time_of h) arrivals → AreLeft set n h arrivals → AreLeft set n (told_of_slot ran ∷ h) arrivals
AreLeft-ran set n ran h arrivals none left =
    let time : time_of h + 1 ≡ time_of (told_of_slot ran ∷ h) = omega (arith, time_of-ran ran h) in
    record {
      row = left.row;
      above = omega (arith, last_row-ran ran h, left.above);
      follow = subst (λ t. arrivals_follow set n left.row t arrivals ≡ true) time (follow-later set n left.row (time_of h) arrivals none left.follow);
      few = left.few;
    }

pub AreLeft-slot : (set : TaskSet) (cycle n : ℕ) (h : History) (arrivals : List Arrival) → NoneIsDue (time_of h) arrivals → AreLeft set n h arrivals → AreLeft set n (told_of set cycle h slot ∷ h) arrivals
AreLeft-slot set cycle n h arrivals none left =
    AreLeft-ran set n (choice set.sporadics cycle (scene_of set cycle h)) h arrivals none left

-- the slot is what happens next
pub occurrences_left-ran : (set : TaskSet) (n : ℕ) (ran : Ran) (h : History) (arrivals : List Arrival) → NoneIsDue (time_of h) arrivals → AreLeft set n h arrivals → time_of h < n → occurrences_left n h arrivals ≡ slot ∷ occurrences_left n (told_of_slot ran ∷ h) arrivals
occurrences_left-ran set n ran h arrivals none left early =
    let time : time_of h + 1 ≡ time_of (told_of_slot ran ∷ h) = omega (arith, time_of-ran ran h) in
    let count : n - time_of h ≡ suc (n - (time_of h + 1)) = omega arith in
    let happens : occurrences_left n h arrivals ≡ slot ∷ occurrences_from arrivals (time_of h + 1) (n - (time_of h + 1)) =
    rw count (occurrences_from-none set n left.row (time_of h) (n - (time_of h + 1)) arrivals (follow-later set n left.row (time_of h) arrivals none left.follow)) in
    happens ∙ ap (λ t. slot ∷ occurrences_from arrivals t (n - t)) time

-- and its entry is the next one
pub entries_left-slot : (set : TaskSet) (cycle n : ℕ) (h : History) (arrivals : List Arrival) → NoneIsDue (time_of h) arrivals → AreLeft set n h arrivals → time_of h < n → entries_left set cycle n h arrivals ≡ entry_after set cycle h slot ∷ entries_left set cycle n (told_of set cycle h slot ∷ h) arrivals
entries_left-slot set cycle n h arrivals none left early =
    let ran = choice set.sporadics cycle (scene_of set cycle h) in
    ap (λ os. entries set cycle h os ++ end_entry n ∷ []) (occurrences_left-ran set n ran h arrivals none left early)

-- after the last slot the end is left
pub entries_left-end : (set : TaskSet) (cycle n : ℕ) (h : History) (arrivals : List Arrival) → time_of h ≡ n → entries_left set cycle n h arrivals ≡ end_entry n ∷ []
entries_left-end set cycle n h arrivals all =
    let none : n - time_of h ≡ 0 = omega arith in
    rw none refl
