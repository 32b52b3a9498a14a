-- The history of each front part of a trace of fitting arrivals is legal.
use Rattle.std.proofs.Common.{◌≡◌, ℕ, zero, suc, ◌+◌, ◌<◌, ◌≤◌, true, ◌==◌, List, [], ◌∷◌, ◌++◌, map, filter, length, take, append-nil, append_assoc, refl, sym, ◌∙◌, subst, inl, inr, arith}
use Rattle.std.specs.Prelude.{reverse, flat_map, ⊤, nat_le, nat_lt, ◌&&◌}
use Rattle.std.specs.List.{range_with_len}
use Rattle.std.proofs.lemmas.Bool.{and_parts, eqb-true, leb-true, ne_eqb, cases_order, eq-eqb}
use Rattle.std.proofs.lemmas.List.{reverse-append}
use Rattle.slot_core.specs.declared.tasks.TaskSet.{TaskSet}
use Rattle.slot_core.specs.declared.events.Event.{Event}
use Rattle.slot_core.specs.declared.events.Event.TheVariants.{Soft, Firm, Sporadic, Done, Withdraw}
use Rattle.slot_core.specs.declared.events.Arrival.{Arrival}
use Rattle.slot_core.specs.declared.events.Entry.{Entry}
use Rattle.slot_core.specs.declared.events.Ran.{Ran}
use Rattle.slot_core.specs.declared.events.Ran.TheVariants.{Idle as RanIdle, Key as RanKey}
use Rattle.slot_core.specs.declared.events.What.{What}
use Rattle.slot_core.specs.declared.events.What.TheVariants.{Start, Soft as SoftEntry, Firm as FirmEntry, Sporadic as SporadicEntry, Done as DoneEntry, Withdraw as WithdrawEntry, Run, Idle, End}
use Rattle.slot_core.specs.declared.TheConstants.{ARRIVAL_LIMIT}
use Rattle.slot_core.specs.Sets.Cycles.{cycle_of}
use Rattle.slot_core.specs.Runs.Histories.{History, time_of, last_row}
use Rattle.slot_core.specs.Runs.Scenes.{scene_of}
use Rattle.slot_core.specs.Runs.Choice.{choice}
use Rattle.slot_core.specs.Runs.Arrivals.{MayHaveRow, event_may_come, event_names_known, event_fits, arrivals_follow, are_fitting}
use Rattle.slot_core.specs.Runs.Traces.{Occurrence, arrive, slot, told_of_slot, told_of, shown_entry, entries, occurrences_in, occurrences_of, started, end_entry, trace, history_of, MayCome, IsDue, IsLegal}
use Rattle.slot_facts.specs.Service.{EveryTraceIsLegal}

-- an entry that is due keeps a history legal
pub legal-due : (set : TaskSet) (cycle : ℕ) (h : History) (what : What) → IsLegal set cycle h → IsDue set cycle h what → IsLegal set cycle (what ∷ h)
legal-due set cycle h Start legal due = legal
legal-due set cycle h End legal due = legal
legal-due set cycle h (SoftEntry row slots a) legal due = (due, legal)
legal-due set cycle h (FirmEntry row slots within a) legal due = (due, legal)
legal-due set cycle h (SporadicEntry row index a) legal due = (due, legal)
legal-due set cycle h (DoneEntry row key a) legal due = (due, legal)
legal-due set cycle h (WithdrawEntry row firm a) legal due = (due, legal)
legal-due set cycle h (Run key) legal due = (due, legal)
legal-due set cycle h Idle legal due = (due, legal)

-- from a row on, occurrences may come one after the other, each arrival in a row above the last
abbrev pub MayAllCome : TaskSet → ℕ → List Occurrence → Type 0
MayAllCome set row [] = ⊤
MayAllCome set row (arrive r event ∷ later) = (row < r) × (event_may_come set event ≡ true) × MayAllCome set r later
MayAllCome set row (slot ∷ later) = MayAllCome set row later

-- an event may have any row above the last one
pub MayHaveRow-above : (last row : ℕ) (event : Event) → last < row → MayHaveRow last row event
MayHaveRow-above last row (Soft slots) above = above
MayHaveRow-above last row (Firm slots within) above = above
MayHaveRow-above last row (Sporadic index) above = above
MayHaveRow-above last row (Done key) above = omega (arith, above)
MayHaveRow-above last row (Withdraw firm) above = omega (arith, above)

-- so the first may come
pub MayCome-first : (set : TaskSet) (h : History) (next : Occurrence) (later : List Occurrence) → MayAllCome set (last_row h) (next ∷ later) → MayCome set h next
MayCome-first set h (arrive row event) later may = (MayHaveRow-above (last_row h) row event may.0, may.1)
MayCome-first set h slot later may = tt

-- the last row after what happens next
abbrev pub row_past : Occurrence → ℕ → ℕ
row_past (arrive row event) last = row
row_past slot last = last

-- from which the others may come
pub MayAllCome-past : (set : TaskSet) (row : ℕ) (next : Occurrence) (later : List Occurrence) → MayAllCome set row (next ∷ later) → MayAllCome set (row_past next row) later
MayAllCome-past set row (arrive r event) later may = may.2
MayAllCome-past set row slot later may = may

-- the last row after an arrival is its row
pub last_row-arrival : (set : TaskSet) (cycle : ℕ) (h : History) (row : ℕ) (event : Event) → last_row (told_of set cycle h (arrive row event) ∷ h) ≡ row
last_row-arrival set cycle h row (Soft slots) = refl
last_row-arrival set cycle h row (Firm slots within) = refl
last_row-arrival set cycle h row (Sporadic index) = refl
last_row-arrival set cycle h row (Done key) = refl
last_row-arrival set cycle h row (Withdraw firm) = refl

-- a slot leaves the last row
pub last_row-ran : (ran : Ran) (h : History) → last_row (told_of_slot ran ∷ h) ≡ last_row h
last_row-ran RanIdle h = refl
last_row-ran (RanKey key) h = refl

-- so is it after what is told of what happens next
last_row-told : (set : TaskSet) (cycle : ℕ) (h : History) (next : Occurrence) → last_row (told_of set cycle h next ∷ h) ≡ row_past next (last_row h)
last_row-told set cycle h (arrive row event) = last_row-arrival set cycle h row event
last_row-told set cycle h slot = last_row-ran (choice set.sporadics cycle (scene_of set cycle h)) h

pub MayAllCome-told : (set : TaskSet) (cycle : ℕ) (h : History) (next : Occurrence) (later : List Occurrence) → MayAllCome set (last_row h) (next ∷ later) → MayAllCome set (last_row (told_of set cycle h next ∷ h)) later
MayAllCome-told set cycle h next later may =
    subst (λ r. MayAllCome set r later) (sym (last_row-told set cycle h next)) (MayAllCome-past set (last_row h) next later may)

-- the history that the first entries tell, on top of this one
abbrev told_front : ℕ → List Entry → History → History
told_front m told h = reverse (map (λ (e : Entry). e.what) (take m told)) ++ h

told_front-cons : (m : ℕ) (e : Entry) (told : List Entry) (h : History) → told_front (suc m) (e ∷ told) h ≡ told_front m told (e.what ∷ h)
told_front-cons m e told h =
    let front = map (λ (e : Entry). e.what) (take m told) in
    rw (reverse-append (e.what ∷ []) front) (append_assoc (reverse front) (e.what ∷ []) h)

-- each front part of the entries of such occurrences keeps a history legal
legal-entries : (set : TaskSet) (h : History) (next : List Occurrence) (n m : ℕ) → IsLegal set (cycle_of set) h → MayAllCome set (last_row h) next → IsLegal set (cycle_of set) (told_front m (entries set (cycle_of set) h next ++ end_entry n ∷ []) h)
legal-entries set h next n zero legal may = legal
legal-entries set h [] n (suc zero) legal may = legal
legal-entries set h [] n (suc (suc m)) legal may = legal
legal-entries set h (next ∷ later) n (suc m) legal may =
    let cycle = cycle_of set in
    let what = told_of set cycle h next in
    let longer = legal-due set cycle h what legal (next, MayCome-first set h next later may, refl) in
    let more = legal-entries set (what ∷ h) later n m longer (MayAllCome-told set cycle h next later may) in
    subst (IsLegal set cycle) (sym (told_front-cons m (shown_entry set cycle (time_of h) what (what ∷ h)) (entries set cycle (what ∷ h) later ++ end_entry n ∷ []) h)) more

-- the first arrival of a list that follows, and the rest
pub record BeginsWith (set : TaskSet) (n row from : ℕ) (a : Arrival) (arrivals : List Arrival) : Type 0 where
  pub row_is : a.row ≡ row
  pub not_before : from ≤ a.slot
  pub may : event_may_come set a.event ≡ true
  pub named : event_names_known set a.event ≡ true
  pub rest : arrivals_follow set n (row + 1) a.slot arrivals ≡ true

-- a list that follows begins so
pub BeginsWith-from : (set : TaskSet) (n row from : ℕ) (a : Arrival) (arrivals : List Arrival) → arrivals_follow set n row from (a ∷ arrivals) ≡ true → BeginsWith set n row from a arrivals
BeginsWith-from set n row from a arrivals h =
    let rest = and_parts (a.row == row && nat_le from a.slot && nat_lt a.slot n && event_fits set a.event) (arrivals_follow set n (row + 1) a.slot arrivals) h in
    let fits = and_parts (a.row == row && nat_le from a.slot && nat_lt a.slot n) (event_fits set a.event) rest.0 in
    let below = and_parts (a.row == row && nat_le from a.slot) (nat_lt a.slot n) fits.0 in
    let both = and_parts (a.row == row) (nat_le from a.slot) below.0 in
    let event = and_parts (event_may_come set a.event) (event_names_known set a.event) fits.1 in
    record {
      row_is = eqb-true a.row row both.0;
      not_before = leb-true from a.slot both.1;
      may = event.0;
      named = event.1;
      rest = rest.1;
    }

-- the arrivals of this slot or later have rows above this one
abbrev AreAbove : ℕ → ℕ → List Arrival → Type 0
AreAbove row time [] = ⊤
AreAbove row time (a ∷ arrivals) = (time ≤ a.slot → row < a.row) × AreAbove row time arrivals

-- so have those of a list that follows from a higher row on
above-follow : (set : TaskSet) (n low row from time : ℕ) (arrivals : List Arrival) → low < row → arrivals_follow set n row from arrivals ≡ true → AreAbove low time arrivals
above-follow set n low row from time [] above h = tt
above-follow set n low row from time (a ∷ arrivals) above h =
    let f = BeginsWith-from set n row from a arrivals h in
    (λ _. omega (arith, f.row_is), above-follow set n low (row + 1) a.slot time arrivals (omega arith) f.rest)

above-later : (row time : ℕ) (arrivals : List Arrival) → AreAbove row time arrivals → AreAbove row (time + 1) arrivals
above-later row time [] above = tt
above-later row time (a ∷ arrivals) above = (λ late. above.0 (omega arith), above-later row time arrivals above.1)

-- the arrivals of a slot
abbrev pub arrivals_in : List Arrival → ℕ → List Arrival
arrivals_in arrivals time = filter (λ (a : Arrival). a.slot == time) arrivals

-- no arrival of a list that follows comes before its first slot
pub none_before : (set : TaskSet) (n row from time : ℕ) (arrivals : List Arrival) → time < from → arrivals_follow set n row from arrivals ≡ true → arrivals_in arrivals time ≡ []
none_before set n row from time [] early h = refl
none_before set n row from time (a ∷ arrivals) early h =
    let f = BeginsWith-from set n row from a arrivals h in
    rw (ne_eqb a.slot time (λ e. absurd (omega (arith, f.not_before)))) (none_before set n (row + 1) a.slot time arrivals (omega (arith, f.not_before)) f.rest)

-- the arrivals of a slot, the slot, and what may come later may all come
in_slot : (set : TaskSet) (n start from row time : ℕ) (arrivals : List Arrival) (later : List Occurrence) → arrivals_follow set n start from arrivals ≡ true → AreAbove row time arrivals → ((r : ℕ) → AreAbove r (time + 1) arrivals → MayAllCome set r later) → MayAllCome set row ((map (λ (a : Arrival). arrive a.row a.event) (arrivals_in arrivals time) ++ slot ∷ []) ++ later)
in_slot set n start from row time [] later h above more = more row tt
in_slot set n start from row time (a ∷ arrivals) later h above more =
    let f = BeginsWith-from set n start from a arrivals h in
    elim (cases_order a.slot time) [
      | inl same ↦
          let rest = in_slot set n (start + 1) a.slot a.row time arrivals later f.rest (above-follow set n a.row (start + 1) a.slot time arrivals (omega (arith, f.row_is)) f.rest) (λ r up. more r (λ late. absurd (omega arith), up)) in
          rw (eq-eqb a.slot time same) (above.0 (omega arith), f.may, rest)
      | inr other ↦ elim other [
        | inl before ↦
            let rest = in_slot set n (start + 1) a.slot row time arrivals later f.rest above.1 (λ r up. more r (λ late. absurd (omega arith), up)) in
            rw (ne_eqb a.slot time (λ e. absurd (omega arith))) rest
        | inr after ↦
            rw (ne_eqb a.slot time (λ e. absurd (omega arith)), none_before set n (start + 1) a.slot time arrivals after f.rest) (more row (λ late. above.0 (omega arith), above-later row time arrivals above.1))
      ]
    ]

-- the occurrences of a range of slots may all come
in_slots : (set : TaskSet) (n start from row time count : ℕ) (arrivals : List Arrival) → arrivals_follow set n start from arrivals ≡ true → AreAbove row time arrivals → MayAllCome set row (flat_map (occurrences_in arrivals) (range_with_len time count))
in_slots set n start from row time zero arrivals h above = tt
in_slots set n start from row time (suc count) arrivals h above =
    in_slot set n start from row time arrivals (flat_map (occurrences_in arrivals) (range_with_len (time + 1) count)) h above (λ r up. in_slots set n start from r (time + 1) count arrivals h up)

-- what happens in n slots with fitting arrivals may all come
pub may_all_come-fitting : (set : TaskSet) (arrivals : List Arrival) (n : ℕ) → are_fitting set n arrivals ≡ true → MayAllCome set 0 (occurrences_of arrivals n)
may_all_come-fitting set arrivals n fits =
    let follow = (and_parts (nat_le (length arrivals) ARRIVAL_LIMIT) (arrivals_follow set n 1 0 arrivals) fits).1 in
    in_slots set n 1 0 0 0 n arrivals follow (above-follow set n 0 1 0 0 arrivals (omega arith) follow)

-- the history of each front part of a trace of fitting arrivals is legal
pub every_trace_is_legal : EveryTraceIsLegal
every_trace_is_legal set arrivals n zero fits = tt
every_trace_is_legal set arrivals n (suc m) fits =
    let cycle = cycle_of set in
    let legal = legal-entries set started (occurrences_of arrivals n) n m tt (may_all_come-fitting set arrivals n fits) in
    let rest = entries set cycle started (occurrences_of arrivals n) ++ end_entry n ∷ [] in
    let whole = told_front-cons m (shown_entry set cycle 0 Start started) rest [] in
    subst (IsLegal set cycle) (sym whole ∙ append-nil (history_of (take (suc m) (trace set arrivals n)))) legal
