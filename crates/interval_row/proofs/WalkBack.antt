-- The capacities of rows whose spans are set one by one.
use Rattle.std.proofs.Common.{◌≡◌, ℕ, zero, suc, ◌+◌, ◌-◌, ◌*◌, ◌<◌, ◌≤◌, ◌^◌, ℤ, pos, neg_ℤ, ◌-ℤ◌, ◌≤ℤ◌, List, [], ◌∷◌, ◌++◌, length, get_or, set, insert, take, drop, add-one, ltb, cond, inl, inr, refl, sym, ◌∙◌, ap, arith}
use Rattle.std.proofs.lemmas.Bool.{lt-ltb, le-ltb, ne_eqb, cases_lt}
use Rattle.std.proofs.lemmas.Int.{ints, clamps}
use Rattle.std.proofs.lemmas.List.{drop-set, drop_more, set_split, take-append-drop, take-set}
use Rattle.std.proofs.lemmas.List.Sums.{sum_by-cons}
use Rattle.slot_core.specs.declared.jobs.Span.{Span}
use Rattle.spare_capacity.specs.Recurrence.{filled, first_spare, with_spare, FollowOn}
use Rattle.spare_capacity.specs.PlanSpans.{AreProper}
use Rattle.spare_capacity.specs.Lending.{repaid}
use Rattle.spare_capacity.specs.Refill.{IsShort}
use Rattle.spare_capacity.proofs.Filled.{drop-filled}
use Rattle.spare_capacity.proofs.Free.{rest-filled}
use Rattle.spare_capacity.proofs.Lending.{filled-moved, moved-zero}
use Rattle.spare_capacity.proofs.Steps.{no_row, first_spare-low}
use Rattle.interval_row.specs.Changes.{after_pass, ends_before, part_before, part_from}
use Rattle.interval_row.specs.Spans.{place_of, with_work_at, AreFilled, HoldsInside}
use Rattle.interval_row.specs.declared.spans.Change.{Change}
use Rattle.interval_row.specs.declared.spans.Change.TheVariants.{More, Fewer}
use Rattle.interval_row.specs.Walks.{walked}
use Rattle.interval_row.specs.Works.{changed_by, spare_by, MayChangeBy}
use Rattle.interval_row.proofs.Cuts.{halved, LendsSame-halved}
use Rattle.interval_row.proofs.Fillings.{filled-first, with_spare-LendsSame, LendsSame}
use Rattle.interval_row.proofs.Works.{set-with_work_at}

-- the walk from the front stays before the place that it looks for
pub place_of-next : (x : ℕ) (rows : List Span) (k : ℕ) → k ≤ place_of x rows → k < length rows → (get_or rows k no_row).end < x → k + 1 ≤ place_of x rows
place_of-next x [] k low l ends = elim l [ ]
place_of-next x (s ∷ ss) zero low l ends = rw (lt-ltb s.end x ends) (omega arith)
place_of-next x (s ∷ ss) (suc k) low l ends =
    elim (cases_lt s.end x) [
      | inl before ↦
          let here : suc k ≤ suc (place_of x ss) = rw (lt-ltb s.end x before) at low in
          rw (lt-ltb s.end x before) (omega (arith, place_of-next x ss k (omega (arith, here)) (omega arith) ends))
      | inr after ↦
          let here : suc k ≤ 0 = rw (le-ltb s.end x after) at low in
          absurd (omega (arith, here))
    ]

-- and ends there
pub place_of-here : (x : ℕ) (rows : List Span) (k : ℕ) → k ≤ place_of x rows → k < length rows → x ≤ (get_or rows k no_row).end → k ≡ place_of x rows
place_of-here x [] k low l ends = elim l [ ]
place_of-here x (s ∷ ss) zero low l ends = rw (le-ltb s.end x ends) refl
place_of-here x (s ∷ ss) (suc k) low l ends =
    elim (cases_lt s.end x) [
      | inl before ↦
          let here : suc k ≤ suc (place_of x ss) = rw (lt-ltb s.end x before) at low in
          rw (lt-ltb s.end x before) (ap suc (place_of-here x ss k (omega (arith, here)) (omega arith) ends))
      | inr after ↦
          let here : suc k ≤ 0 = rw (le-ltb s.end x after) at low in
          absurd (omega (arith, here))
    ]

-- no more rows stand before a place than end before it
pub place_of-ends_before : (x : ℕ) (rows : List Span) → place_of x rows ≤ ends_before x rows
place_of-ends_before x [] = omega arith
place_of-ends_before x (s ∷ ss) =
    elim (cases_lt s.end x) [
      | inl before ↦
          let more : ends_before x (s ∷ ss) ≡ cond (ltb s.end x) 1 0 + ends_before x ss = sum_by-cons (λ (r : Span). cond (ltb r.end x) 1 0) s ss in
          let count : ends_before x (s ∷ ss) ≡ 1 + ends_before x ss = more ∙ ap (λ b. cond b 1 0 + ends_before x ss) (lt-ltb s.end x before) in
          let here : place_of x (s ∷ ss) ≡ suc (place_of x ss) = rw (lt-ltb s.end x before) refl in
          omega (arith, count, here, place_of-ends_before x ss)
      | inr after ↦ rw (le-ltb s.end x after) (omega arith)
    ]

-- a capacity by the recurrence is within these bounds
pub record IsWithin (spare : ℤ) : Type 0 where
  pub low : neg_ℤ (pos (2 ^ 60)) ≤ℤ spare
  pub high : spare ≤ℤ pos (2 ^ 60)

pub IsWithin-spare : (start : ℕ) (rows : List Span) (k : ℕ) → FollowOn start rows → rows ≡ filled rows → length rows ≤ 2 ^ 20 → k < length rows → IsWithin (get_or rows k no_row).spare
IsWithin-spare start [] k h e few l = elim l [ ]
IsWithin-spare start (s ∷ ss) zero h e few l =
    let low : neg_ℤ (pos (length (s ∷ ss) * 2 ^ 40)) ≤ℤ first_spare (filled (s ∷ ss)) = first_spare-low start (s ∷ ss) h in
    let same : s.spare ≡ first_spare (filled (s ∷ ss)) = ap first_spare e in
    let own : s.spare ≡ (with_spare s (first_spare ss)).spare = ap (λ (x : Span). x.spare) (filled-first s ss e) in
    let rising : s.start ≤ s.end = h.1 in
    let short : s.end - s.start ≤ 2 ^ 40 = h.2 in
    record { low = omega (arith, ints, low, same); high = omega (arith, ints, clamps, own) }
IsWithin-spare start (s ∷ ss) (suc k) h e few l = IsWithin-spare s.end ss k h.4 (rest-filled s ss e) (omega arith) (omega arith)

-- a consecutive span is short
pub IsShort-at : (start : ℕ) (rows : List Span) (k : ℕ) → FollowOn start rows → k < length rows → IsShort (get_or rows k no_row)
IsShort-at start [] k h l = elim l [ ]
IsShort-at start (s ∷ ss) zero h l = record { rising = h.1; length = h.2; work = h.3 }
IsShort-at start (s ∷ ss) (suc k) h l = IsShort-at s.end ss k h.4 (omega arith)

-- a span inside which a time lies starts before it and ends after it
pub HoldsInside-at : (x k : ℕ) (rows : List Span) → HoldsInside x k rows → ((get_or rows k no_row).start < x) × (x < (get_or rows k no_row).end)
HoldsInside-at x k [] inside = elim inside [ ]
HoldsInside-at x zero (s ∷ ss) inside = inside
HoldsInside-at x (suc k) (s ∷ ss) inside = HoldsInside-at x k ss inside

-- a proper span ends after it starts
pub IsProper-first : (rows : List Span) → AreProper rows → 1 ≤ length rows → (get_or rows 0 no_row).start < (get_or rows 0 no_row).end
IsProper-first [] h some = absurd (omega arith)
IsProper-first (s ∷ ss) h some = h.0

passed-spare : (s : Span) (m : ℤ) → s ≡ with_spare s m → s.start < s.end → s.spare -ℤ pos 1 ≡ (with_spare (record s { start = s.start + 1 }) m).spare
passed-spare s m e low =
    let own : s.spare ≡ (with_spare s m).spare = ap (λ (x : Span). x.spare) e in
    omega (arith, ints, clamps, own)

-- and else has one slot less to spare
pub passed-on : (rows : List Span) (new : Span) → rows ≡ filled rows → 1 ≤ length rows → (get_or rows 0 no_row).start < (get_or rows 0 no_row).end → ((get_or rows 0 no_row).start + 1 ≡ (get_or rows 0 no_row).end → ⊥) → new ≡ record (get_or rows 0 no_row) { start = (get_or rows 0 no_row).start + 1; spare = (get_or rows 0 no_row).spare -ℤ pos 1 } → set rows 0 new ≡ filled (after_pass rows)
passed-on [] new e some low more put = absurd (omega arith)
passed-on (s ∷ ss) new e some low more put =
    let rest = rest-filled s ss e in
    let first : s ≡ with_spare s (first_spare (filled ss)) = filled-first s ss e ∙ ap (λ xs. with_spare s (first_spare xs)) rest in
    let spare = passed-spare s (first_spare (filled ss)) first low in
    let made : new ≡ with_spare (record s { start = s.start + 1 }) (first_spare (filled ss)) = put ∙ ap (λ z. record s { start = s.start + 1; spare = z }) spare in
    rw (ne_eqb (s.start + 1) s.end more) (ap (λ x. x ∷ ss) made ∙ ap (λ xs. with_spare (record s { start = s.start + 1 }) (first_spare (filled ss)) ∷ xs) rest)

changed_spare : (s : Span) (m : ℤ) (change : Change) → s ≡ with_spare s m → MayChangeBy change s.work → spare_by change s.spare ≡ (with_spare (record s { work = changed_by change s.work }) m).spare
changed_spare s m (More slots) e may =
    let own : s.spare ≡ (with_spare s m).spare = ap (λ (x : Span). x.spare) e in
    omega (arith, ints, clamps, own)
changed_spare s m (Fewer slots) e may =
    let own : s.spare ≡ (with_spare s m).spare = ap (λ (x : Span). x.spare) e in
    omega (arith, ints, clamps, own)

-- each span has its capacity by the one after it
own_spare : (rows : List Span) (k : ℕ) → rows ≡ filled rows → k < length rows → get_or rows k no_row ≡ with_spare (get_or rows k no_row) (first_spare (drop (suc k) rows))
own_spare [] k e l = elim l [ ]
own_spare (s ∷ ss) zero e l = filled-first s ss e
own_spare (s ∷ ss) (suc k) e l = own_spare ss k (rest-filled s ss e) (omega arith)

own_spare_after : (rows : List Span) (k : ℕ) → rows ≡ filled rows → k < length rows → get_or rows k no_row ≡ with_spare (get_or rows k no_row) (first_spare (drop (k + 1) rows))
own_spare_after rows k e l = rw add-one (own_spare rows k e l)

-- what is more work is less to spare
pub with_spare-changed : (rows : List Span) (k : ℕ) (change : Change) (span : Span) → rows ≡ filled rows → k < length rows → span ≡ get_or rows k no_row → MayChangeBy change span.work → record span { work = changed_by change span.work; spare = spare_by change span.spare } ≡ with_spare (record span { work = changed_by change span.work }) (first_spare (drop (k + 1) rows))
with_spare-changed rows k change span e l is may =
    let own : span ≡ with_spare span (first_spare (drop (k + 1) rows)) = rw is (own_spare_after rows k e l) in
    ap (λ z. record span { work = changed_by change span.work; spare = z }) (changed_spare span (first_spare (drop (k + 1) rows)) change own may)

-- a span is put in the place of one, with another work and its capacity: the rows before it follow
pub walked-put : (rows : List Span) (k : ℕ) (was span : Span) → AreFilled rows → k < length rows → was ≡ get_or rows k no_row → span ≡ with_spare (record was { work = span.work }) (first_spare (drop (k + 1) rows)) → walked (repaid was.spare span.spare) k (set rows k span) ≡ filled (with_work_at k span.work rows)
walked-put rows k was span h l is put =
    let rest = drop (k + 1) rows in
    let worked = record (get_or rows k no_row) { work = span.work } in
    let one : k + 1 ≡ suc k = omega arith in
    let later : filled rest ≡ rest = sym (drop-filled (k + 1) rows) ∙ ap (drop (k + 1)) (sym h.filled) in
    let made : span ≡ with_spare worked (first_spare rest) = rw is at put in
    let whole : take k rows ++ drop k rows ≡ filled (take k rows ++ drop k rows) = rw take-append-drop h.filled in
    let first : first_spare (drop k rows) ≡ was.spare = ap first_spare (drop_more rows k no_row l) ∙ ap (λ (s : Span). s.spare) (sym is) in
    let split : set rows k worked ≡ take k rows ++ worked ∷ rest = rw one (set_split rows k worked l) in
    cc (filled-moved (take k rows) (drop k rows) (worked ∷ rest) whole, set-with_work_at k span.work rows l, take-set rows k span, drop-set rows k span l)

-- nothing is repaid
pub walked-end : (rows : List Span) (k : ℕ) → walked (pos 0) k rows ≡ rows
walked-end rows k = ap (λ xs. xs ++ drop k rows) (moved-zero (take k rows)) ∙ take-append-drop k rows

pub length-walked : (more : ℤ) (k : ℕ) (rows : List Span) → length (walked more k rows) ≡ length rows
length-walked more zero rows = refl
length-walked more (suc k) [] = refl
length-walked more (suc k) (s ∷ ss) = ap suc (length-walked more k ss)

second_spare : (s : Span) (m : ℤ) (x : ℕ) → s ≡ with_spare s m → s.start < x → x < s.end → s.spare -ℤ pos (x - s.start) ≡ (with_spare (part_from x s) m).spare
second_spare s m x e low high =
    let own : s.spare ≡ (with_spare s m).spare = ap (λ (y : Span). y.spare) e in
    omega (arith, ints, clamps, own)

-- a span that becomes two with their capacities leaves all others as they are
pub halves-filled : (x k : ℕ) (rows : List Span) (first second : Span) → rows ≡ filled rows → HoldsInside x k rows → second ≡ record (part_from x (get_or rows k no_row)) { spare = (get_or rows k no_row).spare -ℤ pos (x - (get_or rows k no_row).start) } → first ≡ with_spare (part_before x (get_or rows k no_row)) second.spare → set (insert rows k first) (suc k) second ≡ filled (halved k x rows)
halves-filled x k [] first second e inside b a = elim inside [ ]
halves-filled x zero (s ∷ ss) first second e inside b a =
    let rest = rest-filled s ss e in
    let own : s ≡ with_spare s (first_spare (filled ss)) = filled-first s ss e ∙ ap (λ xs. with_spare s (first_spare xs)) rest in
    let later : second ≡ with_spare (part_from x s) (first_spare (filled ss)) = b ∙ ap (λ z. record (part_from x s) { spare = z }) (second_spare s (first_spare (filled ss)) x own inside.0 inside.1) in
    let earlier : first ≡ with_spare (part_before x s) (with_spare (part_from x s) (first_spare (filled ss))).spare = a ∙ ap (λ (y : Span). with_spare (part_before x s) y.spare) later in
    ap (λ y. y ∷ second ∷ ss) earlier ∙ ap (λ y. with_spare (part_before x s) (with_spare (part_from x s) (first_spare (filled ss))).spare ∷ y ∷ ss) later ∙ ap (λ ys. with_spare (part_before x s) (with_spare (part_from x s) (first_spare (filled ss))).spare ∷ with_spare (part_from x s) (first_spare (filled ss)) ∷ ys) rest
halves-filled x (suc k) (s ∷ ss) first second e inside b a =
    let lends : LendsSame (first_spare (filled (halved k x ss))) (first_spare ss) = LendsSame-halved k x ss (rest-filled s ss e) inside in
    let same : with_spare s (first_spare (filled (halved k x ss))) ≡ s = with_spare-LendsSame s (first_spare (filled (halved k x ss))) (first_spare ss) lends ∙ sym (filled-first s ss e) in
    ap (λ xs. s ∷ xs) (halves-filled x k ss first second (rest-filled s ss e) inside b a) ∙ ap (λ y. y ∷ filled (halved k x ss)) (sym same)
