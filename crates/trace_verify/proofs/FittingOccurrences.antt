-- What happens in slots with fitting arrivals: rows rise within the limit, events fit, and time stays below the end.
use Rattle.std.proofs.Common.{◌≡◌, ℕ, zero, suc, ◌+◌, ◌<◌, ◌≤◌, true, ◌==◌, List, [], ◌∷◌, length, refl, sym, subst, inl, inr, arith}
use Rattle.std.specs.Prelude.{⊤, nat_le}
use Rattle.std.proofs.lemmas.Bool.{and_parts, and_from, cases_Bool, eqb-true, eqb-false, leb-true}
use Rattle.slot_core.specs.declared.TheConstants.{ARRIVAL_LIMIT}
use Rattle.slot_core.specs.declared.tasks.TaskSet.{TaskSet}
use Rattle.slot_core.specs.declared.events.Arrival.{Arrival}
use Rattle.slot_core.specs.Runs.Arrivals.{event_may_come, event_names_known, event_fits, arrivals_follow, are_fitting}
use Rattle.slot_core.specs.Runs.Traces.{Occurrence, arrive, slot, occurrences_of}
use Rattle.slot_facts.proofs.Legal.Traces.{BeginsWith-from}
use Rattle.slot_facts.proofs.Replays.Following.{occurrences_from, occurrences_from-due, occurrences_from-none, follow-later}

-- from a last row and a time on, rows rise, events fit, rows stay within the limit, and slots begin before the end
abbrev pub AllFit : TaskSet → ℕ → ℕ → ℕ → List Occurrence → Type 0
AllFit set n low time [] = ⊤
AllFit set n low time (arrive row event ∷ later) =
    (low < row) × (row ≤ ARRIVAL_LIMIT) × (event_fits set event ≡ true) × AllFit set n row time later
AllFit set n low time (slot ∷ later) = (time < n) × AllFit set n low (time + 1) later

-- the arrivals follow from a row above the last one on, and their rows stay within the limit
record AreToCome (set : TaskSet) (n low time : ℕ) (arrivals : List Arrival) : Type 0 where
  row : ℕ
  above : low < row
  follow : arrivals_follow set n row time arrivals ≡ true
  few : row + length arrivals ≤ ARRIVAL_LIMIT + 1

-- so what happens in a slot fits, and what happens from the next one on
fits-slot : (set : TaskSet) (n low time count : ℕ) (arrivals : List Arrival) → AreToCome set n low time arrivals → time < n → ((last : ℕ) (left : List Arrival) → AreToCome set n last (time + 1) left → AllFit set n last (time + 1) (occurrences_from left (time + 1) count)) → AllFit set n low time (occurrences_from arrivals time (suc count))
fits-slot set n low time count [] next early more =
    let later : AreToCome set n low (time + 1) [] = record { row = next.row; above = next.above; follow = refl; few = next.few } in
    subst (AllFit set n low time) (sym (occurrences_from-none set n next.row time count [] refl)) (early, more low [] later)
fits-slot set n low time count (a ∷ arrivals) next early more =
    let f = BeginsWith-from set n next.row time a arrivals next.follow in
    elim (cases_Bool (a.slot == time)) [
      | inl on ↦
          let due : a.slot ≡ time = eqb-true a.slot time on in
          let event = and_from (event_may_come set a.event) (event_names_known set a.event) f.may f.named in
          let others : AreToCome set n a.row time arrivals = record {
            row = next.row + 1;
            above = omega (arith, f.row_is);
            follow = subst (λ t. arrivals_follow set n (next.row + 1) t arrivals ≡ true) due f.rest;
            few = omega (arith, next.few);
          } in
          let rest = fits-slot set n a.row time count arrivals others early more in
          subst (AllFit set n low time) (sym (occurrences_from-due a arrivals time count due)) (omega (arith, f.row_is, next.above), omega (arith, f.row_is, next.few), event, rest)
      | inr off ↦
          let follow = follow-later set n next.row time (a ∷ arrivals) (eqb-false a.slot time off) next.follow in
          let later : AreToCome set n low (time + 1) (a ∷ arrivals) = record { row = next.row; above = next.above; follow = follow; few = next.few } in
          subst (AllFit set n low time) (sym (occurrences_from-none set n next.row time count (a ∷ arrivals) follow)) (early, more low (a ∷ arrivals) later)
    ]

-- so does what happens in so many slots
fits-slots : (set : TaskSet) (n low time count : ℕ) (arrivals : List Arrival) → AreToCome set n low time arrivals → time + count ≡ n → AllFit set n low time (occurrences_from arrivals time count)
fits-slots set n low time zero arrivals next all = tt
fits-slots set n low time (suc count) arrivals next all =
    fits-slot set n low time count arrivals next (omega arith) λ last left come. fits-slots set n last (time + 1) count left come (omega arith)

-- what happens in n slots with fitting arrivals fits
pub all_fit : (set : TaskSet) (arrivals : List Arrival) (n : ℕ) → are_fitting set n arrivals ≡ true → AllFit set n 0 0 (occurrences_of arrivals n)
all_fit set arrivals n fits =
    let both = and_parts (nat_le (length arrivals) ARRIVAL_LIMIT) (arrivals_follow set n 1 0 arrivals) fits in
    let next : AreToCome set n 0 0 arrivals = record { row = 1; above = omega arith; follow = both.1; few = omega (arith, leb-true (length arrivals) ARRIVAL_LIMIT both.0) } in
    fits-slots set n 0 0 n arrivals next (omega arith)
