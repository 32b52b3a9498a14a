-- Arrivals that are read fit the set and the number of slots.
use Rattle.std.proofs.Common.{◌≡◌, ℕ, ◌+◌, ◌<◌, ◌≤◌, true, nat_le, nat_lt, List, [], ◌∷◌, length, drop, Option, Some, None, Ok, Err, refl, sym, inl, inr, arith}
use Rattle.std.specs.Prelude.{Bool, ok_or, position}
use Rattle.std.specs.Str.{bytes_eq}
use Rattle.std.proofs.lemmas.List.Quantifiers.{position-Some}
use Rattle.std.proofs.lemmas.Bool.{cases_Bool, and_from, and_parts, eq-eqb, le-leb, lt-ltb, ltb-false, leb-false}
use Rattle.slot_core.specs.declared.TheConstants.{ARRIVAL_LIMIT, OFFER_LIMIT}
use Rattle.slot_core.specs.declared.events.Arrival.{Arrival}
use Rattle.slot_core.specs.declared.events.Event.{Event}
use Rattle.slot_core.specs.declared.events.Event.TheVariants.{Soft as SoftEvent, Firm as FirmEvent, Sporadic as SporadicEvent, Done as DoneEvent, Withdraw as WithdrawEvent}
use Rattle.slot_core.specs.declared.tasks.Sporadic.{Sporadic}
use Rattle.slot_core.specs.declared.tasks.TaskSet.{TaskSet}
use Rattle.slot_core.specs.Runs.Arrivals.{event_fits, arrivals_follow, are_fitting}
use Rattle.slot_core.specs.Calls.Results.{◌>>=◌}
use Rattle.faults.specs.declared.arrival_fault.ArrivalFault.{ArrivalFault}
use Rattle.faults.specs.declared.arrival_fault.ArrivalFault.TheVariants.{UnknownKind, BadNumber, UnknownSporadic, BadKey}
use Rattle.arrival_csv.specs.declared.kinds.Kind.{Kind}
use Rattle.arrival_csv.specs.declared.kinds.Kind.TheVariants.{Soft, Firm, Sporadic as SporadicKind, Done, Withdraw}
use Rattle.key_texts.specs.KeyTexts.{key_of_text, sporadic_named}
use Rattle.arrival_csv.specs.Kinds.{kind_of}
use Rattle.key_texts.specs.Numbers.{number_of, number_between, row_number}
use Rattle.arrival_csv.specs.Reading.{Read, slots_of, soft_of, firm_of, sporadic_of, done_of, withdraw_of, one_field, two_fields, event_of, slot_in_turn, limited_row, first_fields, arrival_of, arrivals_from}
use Rattle.key_texts.proofs.DigitLemmas.{number_between-Some}
use Rattle.key_texts.proofs.KeyLemmas.{IsKeyText-from_key}

-- a reading that gave a value took its first step
pub step : {X Y P : Type 0} (r : Read X) {f : X → Read Y} {y : Y} → (r >>= f) ≡ Ok y → ((x : X) → r ≡ Ok x → f x ≡ Ok y → P) → P
step (Ok x) h next = next x refl h
step (Err fault) h next = cc

-- a value that is there
ok_or-Ok : {X : Type 0} (o : Option X) (fault : ArrivalFault) (x : X) → ok_or o fault ≡ Ok x → o ≡ Some x
ok_or-Ok None fault x h = cc
ok_or-Ok (Some y) fault x h = cc

-- soft work that is read fits the set
soft_of-fits : (set : TaskSet) (row : ℕ) (slots : List ℕ) (event : Event) → soft_of row slots ≡ Ok event → event_fits set event ≡ true
soft_of-fits set row slots event h =
    step (slots_of row slots) h (λ n number h.
    let same : SoftEvent n ≡ event = cc in
    let range = number_between-Some 1 OFFER_LIMIT n slots (ok_or-Ok _ _ n number) in
    rw (← same, range) refl)

-- an early end that is read fits the set
done_of-fits : (set : TaskSet) (row : ℕ) (text : List ℕ) (event : Event) → done_of set row text ≡ Ok event → event_fits set event ≡ true
done_of-fits set row text event h =
    step (ok_or (key_of_text set text) (BadKey row)) h (λ key found h.
    let same : DoneEvent key ≡ event = cc in
    let is = IsKeyText-from_key set text key (ok_or-Ok _ _ key found) in
    rw (← same, is.in_set, is.in_range) refl)

-- a firm task that is read fits the set
firm_of-fits : (set : TaskSet) (row : ℕ) (both : List ℕ × List ℕ) (event : Event) → firm_of row both ≡ Ok event → event_fits set event ≡ true
firm_of-fits set row both event h =
    step (slots_of row both.0) h (λ slots first h.
    step (ok_or (number_between 0 OFFER_LIMIT both.1) (BadNumber row 4)) h (λ within second h.
    let same : FirmEvent slots within ≡ event = cc in
    let range = number_between-Some 1 OFFER_LIMIT slots both.0 (ok_or-Ok _ _ slots first) in
    let reach = number_between-Some 0 OFFER_LIMIT within both.1 (ok_or-Ok _ _ within second) in
    rw (← same, range, (and_parts (nat_le 0 within) (nat_le within OFFER_LIMIT) reach).1) refl))

-- the first place that passes a test is a place of the list
position-within : {X : Type 0} (p : X → Bool) (xs : List X) (i : ℕ) → position p xs ≡ Some i → i < length xs
position-within p [] i found = cc found
position-within p (x ∷ xs) i found = (position-Some p (x ∷ xs) i x found).0

-- a sporadic arrival that is read fits the set
sporadic_of-fits : (set : TaskSet) (row : ℕ) (name : List ℕ) (event : Event) → sporadic_of set row name ≡ Ok event → event_fits set event ≡ true
sporadic_of-fits set row name event h =
    step (ok_or (sporadic_named set.sporadics name) (UnknownSporadic row)) h (λ index found h.
    let same : SporadicEvent index ≡ event = cc in
    let there = position-within (λ (s : Sporadic). bytes_eq s.name name) set.sporadics index (ok_or-Ok _ _ index found) in
    rw (← same, lt-ltb index (length set.sporadics) there) refl)

-- a withdrawal that is read fits the set
withdraw_of-fits : (set : TaskSet) (row : ℕ) (text : List ℕ) (event : Event) → withdraw_of row text ≡ Ok event → event_fits set event ≡ true
withdraw_of-fits set row text event h =
    step (ok_or (row_number text) (BadNumber row 3)) h (λ firm number h.
    let same : WithdrawEvent firm ≡ event = cc in
    let range = number_between-Some 1 ARRIVAL_LIMIT firm text (ok_or-Ok _ _ firm number) in
    rw (← same, range) refl)

-- the event of a row fits the set
pub event_of-fits : (set : TaskSet) (row : ℕ) (kind : Kind) (fields : List (List ℕ)) (event : Event) → event_of set row kind fields ≡ Ok event → event_fits set event ≡ true
event_of-fits set row Soft fields event h = step (one_field row fields) h (λ slots one h. soft_of-fits set row slots event h)
event_of-fits set row Firm fields event h = step (two_fields row fields) h (λ both two h. firm_of-fits set row both event h)
event_of-fits set row SporadicKind fields event h = step (one_field row fields) h (λ name one h. sporadic_of-fits set row name event h)
event_of-fits set row Withdraw fields event h = step (one_field row fields) h (λ text one h. withdraw_of-fits set row text event h)
event_of-fits set row Done fields event h = step (one_field row fields) h (λ text one h. done_of-fits set row text event h)

-- a slot in turn is not below the one before and below the end
slot_in_turn-Ok : (slots row before slot n : ℕ) → slot_in_turn slots row before slot ≡ Ok n → (before ≤ n) × (n < slots)
slot_in_turn-Ok slots row before slot n h =
    elim (cases_Bool (nat_lt slot before)) [
      | inl early ↦ let none = rw early at h in cc
      | inr due ↦ elim (cases_Bool (nat_le slots slot)) [
        | inl late ↦ let none = rw (due, late) at h in cc
        | inr inside ↦
            let same : slot ≡ n = cc (rw (due, inside) at h) in
            (omega (arith, ltb-false slot before due), omega (arith, leb-false slots slot inside))
      ]
    ]

-- a row that may be is not above the limit
limited_row-Ok : (row n : ℕ) → limited_row row ≡ Ok n → (row ≤ ARRIVAL_LIMIT) × (row ≡ n)
limited_row-Ok row n h =
    elim (cases_Bool (nat_lt ARRIVAL_LIMIT row)) [
      | inl many ↦ let none = rw many at h in cc
      | inr may ↦ let same = rw may at h in (ltb-false ARRIVAL_LIMIT row may, cc)
    ]

-- what an arrival of a row keeps
record FitsAfter (set : TaskSet) (slots row before : ℕ) (a : Arrival) : Type 0 where
  few : row ≤ ARRIVAL_LIMIT
  is_row : a.row ≡ row
  later : before ≤ a.slot
  inside : a.slot < slots
  event : event_fits set a.event ≡ true

-- the arrival of a row keeps this
arrival_of-fits : (set : TaskSet) (slots row before : ℕ) (fields : List (List ℕ)) (a : Arrival) → arrival_of set slots row before fields ≡ Ok a → FitsAfter set slots row before a
arrival_of-fits set slots row before fields a h =
    step (limited_row row) h (λ n allowed h.
    step (first_fields n fields) h (λ first two h.
    step (ok_or (number_of first.0) (BadNumber n 1)) h (λ number found h.
    step (ok_or (kind_of first.1) (UnknownKind n)) h (λ kind known h.
    step (event_of set n kind (drop 2 fields)) h (λ event made h.
    step (slot_in_turn slots n before number) h (λ slot turn h.
    let same : record { row = n; slot = slot; event = event } ≡ a = cc in
    let (few, same_row) = limited_row-Ok row n allowed in
    let (later, inside) = slot_in_turn-Ok slots n before number slot turn in
    rw (← same) (record { few = few; is_row = sym same_row; later = later; inside = inside; event = event_of-fits set n kind (drop 2 fields) event made })))))))

-- arrivals that are read follow the row and the slot before them, and are no more than may be
follows : (set : TaskSet) (slots row before : ℕ) (rows : List (List (List ℕ))) (arrivals : List Arrival) → row ≤ ARRIVAL_LIMIT + 1 → arrivals_from set slots row before rows ≡ Ok arrivals
    → (arrivals_follow set slots row before arrivals ≡ true) × (length arrivals + row ≤ ARRIVAL_LIMIT + 1)
follows set slots row before [] arrivals few h = let same : [] ≡ arrivals = cc in rw (← same) (refl, omega arith)
follows set slots row before (fields ∷ rows) arrivals few h =
    step (arrival_of set slots row before fields) h (λ a read h.
    step (arrivals_from set slots (row + 1) a.slot rows) h (λ rest later h.
    let same : a ∷ rest ≡ arrivals = cc in
    let fits = arrival_of-fits set slots row before fields a read in
    let (follow, count) = follows set slots (row + 1) a.slot rows rest (omega (arith, fits.few)) later in
    rw (← same) (
      rw (eq-eqb a.row row fits.is_row, le-leb before a.slot fits.later, lt-ltb a.slot slots fits.inside, fits.event) follow,
      omega (arith, count),
    )))

-- arrivals that are read from the first row on are fitting
pub are_fitting-from_reading : (set : TaskSet) (slots : ℕ) (rows : List (List (List ℕ))) (arrivals : List Arrival) → arrivals_from set slots 1 0 rows ≡ Ok arrivals → are_fitting set slots arrivals ≡ true
are_fitting-from_reading set slots rows arrivals h =
    let (follow, few) = follows set slots 1 0 rows arrivals (omega arith) h in
    and_from _ _ (le-leb (length arrivals) ARRIVAL_LIMIT (omega arith)) follow
