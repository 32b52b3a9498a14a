-- The arrivals of a load, slot by slot, and why they fit.
use Rattle.std.proofs.Common.{◌≡◌, ℕ, zero, suc, ◌+◌, ◌-◌, ◌/◌, ◌%◌, ◌==◌, ◌<◌, ◌≤◌, Bool, true, false, cond, List, [], ◌∷◌, ◌++◌, append-nil, append_assoc, length, Option, Some, None, refl, sym, ap, ap₂, ◌∙◌, ◌⊎◌, inl, inr, arith}
use Rattle.std.specs.Option.{option_map_or}
use Rattle.std.proofs.lemmas.Bool.{and_from, le-leb, lt-ltb}
use Rattle.std.proofs.lemmas.Bool.Decides.{nat_tests}
use Rattle.std.proofs.lemmas.List.{length-append}
use Rattle.slot_core.specs.declared.TheConstants.{ARRIVAL_LIMIT}
use Rattle.slot_core.specs.declared.events.Event.{Event}
use Rattle.slot_core.specs.declared.events.Event.TheVariants.{Soft, Firm, Sporadic}
use Rattle.slot_core.specs.declared.events.Arrival.{Arrival}
use Rattle.slot_core.specs.declared.tasks.TaskSet.{TaskSet}
use Rattle.slot_core.specs.Runs.Arrivals.{are_fitting, arrivals_follow, event_fits}
use Rattle.load_gen.specs.Loads.{load_set}
use Rattle.load_gen.specs.LoadArrivals.{arrivals_at, arrivals_from, firm_of, load_arrivals, load_event, next_number, soft_of}

-- one slot more
pub arrivals_from-more : (items new all : List Arrival) (slots slot x : ℕ) → slot < slots → items ++ arrivals_from (slots - slot) slot (length items + 1) x ≡ all → new ≡ items ++ arrivals_at slot (length items + 1) (next_number x) → new ++ arrivals_from (slots - (slot + 1)) (slot + 1) (length new + 1) (next_number x) ≡ all
arrivals_from-more items new all slots slot x low before pushed =
    let next = next_number x in
    let here = arrivals_at slot (length items + 1) next in
    let left = slots - (slot + 1) in
    let one : slots - slot ≡ suc left = omega arith in
    let row : length new + 1 ≡ length items + 1 + length here = omega (arith, ap length pushed, length-append items here) in
    ap₂ (λ (ys : List Arrival) (r : ℕ). ys ++ arrivals_from left (slot + 1) r next) pushed row
    ∙ append_assoc items here (arrivals_from left (slot + 1) (length items + 1 + length here) next)
    ∙ sym (ap (λ m. items ++ arrivals_from m slot (length items + 1) x) one)
    ∙ before

-- no slot more
pub arrivals_from-end : (items all : List Arrival) (slots slot x : ℕ) → slots ≤ slot → items ++ arrivals_from (slots - slot) slot (length items + 1) x ≡ all → items ≡ all
arrivals_from-end items all slots slot x end before =
    let none : slots - slot ≡ 0 = omega arith in
    sym (append-nil items) ∙ sym (ap (λ m. items ++ arrivals_from m slot (length items + 1) x) none) ∙ before

-- in a slot comes at most one
pub length-arrivals_at : (slot row x : ℕ) → length (arrivals_at slot row x) ≤ 1
length-arrivals_at slot row x = go (load_event x)
  where
    go : (o : Option Event) → length (option_map_or (λ (e : Event). let a : Arrival = record { row = row; slot = slot; event = e } in a ∷ []) o []) ≤ 1
    go None = omega arith
    go (Some e) = omega arith

length-arrivals_from : (m slot row x : ℕ) → length (arrivals_from m slot row x) ≤ m
length-arrivals_from zero slot row x = omega arith
length-arrivals_from (suc m) slot row x =
    let next = next_number x in
    let here = arrivals_at slot row next in
    let rest = arrivals_from m (slot + 1) (row + length here) next in
    omega (arith, length-append here rest, length-arrivals_at slot row next, length-arrivals_from m (slot + 1) (row + length here) next)

-- each event fits
soft-fits : (set : TaskSet) (c : ℕ) → c < 4 → event_fits set (Soft (1 + c)) ≡ true
soft-fits set c small = grind (arith, nat_tests)

firm-fits : (set : TaskSet) (c d : ℕ) → c < 8 → d < 64 → event_fits set (Firm (1 + c) (1 + c + d)) ≡ true
firm-fits set c d small near = grind (arith, nat_tests)

chosen : (s t u : Bool) (a b c e : Event) → cond s (Some a) (cond t (Some b) (cond u (Some c) None)) ≡ Some e → (a ≡ e) ⊎ ((b ≡ e) ⊎ (c ≡ e))
chosen true t u a b c e is = inl (cc is)
chosen false true u a b c e is = inr (inl (cc is))
chosen false false true a b c e is = inr (inr (cc is))
chosen false false false a b c e is = absurd (cc is)

event-fits : (n x : ℕ) (e : Event) → load_event x ≡ Some e → event_fits (load_set n) e ≡ true
event-fits n x e is =
    let kind = (x / 65536) % 8 in
    elim (chosen (kind == 0) (kind == 1) (kind == 2) (soft_of x) (firm_of x) (Sporadic 0) e is) [
      | inl soft ↦ ap (event_fits (load_set n)) (sym soft) ∙ soft-fits (load_set n) ((x / 524288) % 4) (omega arith)
      | inr other ↦ elim other [
        | inl firm ↦ ap (event_fits (load_set n)) (sym firm) ∙ firm-fits (load_set n) ((x / 524288) % 8) ((x / 4194304) % 64) (omega arith) (omega arith)
        | inr sporadic ↦ ap (event_fits (load_set n)) (sym sporadic)
      ]
    ]

itself : (n : ℕ) → (n == n) ≡ true
itself n = grind (arith, nat_tests)

-- the arrival of a slot, if there is one, and those of later slots
follow-one : (set : TaskSet) (slots slot low row : ℕ) (o : Option Event) (rest : ℕ → List Arrival) → low ≤ slot → slot < slots → ((e : Event) → o ≡ Some e → event_fits set e ≡ true) → ((above next : ℕ) → above ≤ slot → arrivals_follow set slots next above (rest next) ≡ true) → (let here : List Arrival = option_map_or (λ (e : Event). let a : Arrival = record { row = row; slot = slot; event = e } in a ∷ []) o [] in arrivals_follow set slots row low (here ++ rest (row + length here))) ≡ true
follow-one set slots slot low row None rest above below each later =
    let same : row + 0 ≡ row = omega arith in
    ap (λ r. arrivals_follow set slots row low (rest r)) same ∙ later low row above
follow-one set slots slot low row (Some e) rest above below each later =
    and_from _ _ (and_from _ _ (and_from _ _ (and_from _ _ (itself row) (le-leb low slot above)) (lt-ltb slot slots below)) (each e refl)) (later slot (row + 1) (omega arith))

follow : (n slots m slot low row x : ℕ) → low ≤ slot → slot + m ≤ slots → arrivals_follow (load_set n) slots row low (arrivals_from m slot row x) ≡ true
follow n slots zero slot low row x above below = refl
follow n slots (suc m) slot low row x above below =
    let next = next_number x in
    follow-one (load_set n) slots slot low row (load_event next) (λ r. arrivals_from m (slot + 1) r next) above (omega arith) (event-fits n next)
    (λ from r low_enough. follow n slots m (slot + 1) from r next (omega arith) (omega arith))

pub load_arrivals-fit : (n slots : ℕ) → slots ≤ ARRIVAL_LIMIT → are_fitting (load_set n) slots (load_arrivals n slots) ≡ true
load_arrivals-fit n slots few =
    let count = length-arrivals_from slots 0 1 n in
    and_from _ _ (le-leb (length (load_arrivals n slots)) ARRIVAL_LIMIT (omega arith)) (follow n slots slots 0 0 1 n (omega arith) (omega arith))
