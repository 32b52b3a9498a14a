-- What happens from a slot on, with the arrivals that are left.
use Rattle.std.proofs.Common.{◌≡◌, ℕ, zero, suc, ◌+◌, ◌<◌, true, List, [], ◌∷◌, ◌++◌, refl, ap, arith}
use Rattle.std.specs.Prelude.{flat_map, ⊤}
use Rattle.std.specs.List.{range_with_len}
use Rattle.std.proofs.lemmas.Bool.{ne_eqb, eq-eqb, le-leb}
use Rattle.slot_core.specs.declared.tasks.TaskSet.{TaskSet}
use Rattle.slot_core.specs.declared.events.Arrival.{Arrival}
use Rattle.slot_core.specs.Runs.Arrivals.{arrivals_follow}
use Rattle.slot_core.specs.Runs.Traces.{Occurrence, arrive, slot, occurrences_in}
use Rattle.slot_facts.proofs.Legal.Traces.{BeginsWith-from, none_before}

-- what happens in so many slots from this one on
abbrev pub occurrences_from : List Arrival → ℕ → ℕ → List Occurrence
occurrences_from arrivals time count =
    flat_map (occurrences_in arrivals) (range_with_len time count)

-- none of the arrivals, of which the first comes first, comes at this time
abbrev pub NoneIsDue : ℕ → List Arrival → Type 0
NoneIsDue time [] = ⊤
NoneIsDue time (a ∷ arrivals) = a.slot ≡ time → ⊥

-- an arrival of an earlier slot is none of later ones
occurrences_from-passed : (a : Arrival) (arrivals : List Arrival) (time count : ℕ) → a.slot < time → occurrences_from (a ∷ arrivals) time count ≡ occurrences_from arrivals time count
occurrences_from-passed a arrivals time zero early = refl
occurrences_from-passed a arrivals time (suc count) early =
    let later = occurrences_from-passed a arrivals (time + 1) count (omega arith) in
    rw (ne_eqb a.slot time (λ e. absurd (omega arith)))
    (ap (λ next. occurrences_in arrivals time ++ next) later)

-- the first arrival that is left is what happens next, where it is due
pub occurrences_from-due : (a : Arrival) (arrivals : List Arrival) (time count : ℕ) → a.slot ≡ time → occurrences_from (a ∷ arrivals) time (suc count) ≡ arrive a.row a.event ∷ occurrences_from arrivals time (suc count)
occurrences_from-due a arrivals time count due =
    let later = occurrences_from-passed a arrivals (time + 1) count (omega arith) in
    rw (eq-eqb a.slot time due)
    (ap (λ next. arrive a.row a.event ∷ (occurrences_in arrivals time ++ next)) later)

-- where none is due, those that are left follow from the next slot on
pub follow-later : (set : TaskSet) (n row time : ℕ) (arrivals : List Arrival) → NoneIsDue time arrivals → arrivals_follow set n row time arrivals ≡ true → arrivals_follow set n row (time + 1) arrivals ≡ true
follow-later set n row time [] none follow = refl
follow-later set n row time (a ∷ arrivals) none follow =
    let f = BeginsWith-from set n row time a arrivals follow in
    let before = le-leb time a.slot f.not_before in
    let after = le-leb (time + 1) a.slot (omega (arith, f.not_before, none)) in
    rw after (rw before at follow)

-- and the slot is what happens next
pub occurrences_from-none : (set : TaskSet) (n row time count : ℕ) (arrivals : List Arrival) → arrivals_follow set n row (time + 1) arrivals ≡ true → occurrences_from arrivals time (suc count) ≡ slot ∷ occurrences_from arrivals (time + 1) count
occurrences_from-none set n row time count arrivals follow =
    rw (none_before set n row (time + 1) time arrivals (omega arith) follow) refl
