-- One turn of the loop that fills the rows from the last to the first.
use Rattle.std.proofs.Common.{◌≡◌, ℕ, zero, suc, ◌+◌, ◌-◌, ◌*◌, ◌<◌, ◌≤◌, ◌^◌, pos, neg_ℤ, ◌≤ℤ◌, List, [], ◌∷◌, ◌++◌, length, get_or, set, take, drop, refl, ap, subst, sub-one, arith}
use Rattle.std.proofs.lemmas.List.{drop_more}
use Rattle.std.proofs.lemmas.Int.{ints, clamps}
use Rattle.slot_core.specs.declared.jobs.Span.{Span}
use Rattle.spare_capacity.specs.Recurrence.{filled, first_spare, with_spare, FollowOn, AreConsecutive}
use Rattle.spare_capacity.specs.Refill.{refilled, CanRefill}

-- the row that a read names past the end
abbrev pub no_row : Span
no_row = record { start = 0; end = 0; work = 0; spare = pos 0 }

-- what may be refilled, at its first row
pub CanRefill-at : (rows : List Span) (at : ℕ) → at < length rows → CanRefill (drop at rows) → CanRefill (get_or rows at no_row ∷ drop (at + 1) rows)
CanRefill-at rows at l h = subst CanRefill (drop_more rows at no_row l) h

-- to write the first row with its capacity refills the rows from there on
pub set_with_spare : (rows : List Span) (at : ℕ) → at < length rows → set rows at (with_spare (get_or rows at no_row) (first_spare (drop (at + 1) rows))) ≡ take at rows ++ refilled (drop at rows)
set_with_spare [] at l = elim l [ ]
set_with_spare (r ∷ rows) zero l = refl
set_with_spare (r ∷ rows) (suc at) l =
    let e : set rows at (with_spare (get_or rows at no_row) (first_spare (drop (at + 1) rows))) ≡ take at rows ++ refilled (drop at rows) = set_with_spare rows at (omega arith) in
    let n : suc at + 1 ≡ suc (at + 1) = omega arith in
    rw n (ap (λ rest. r ∷ rest) e)

-- rows whose first k are as they were, and whose others have their capacities
abbrev pub filled_from : ℕ → List Span → List Span
filled_from k rows = take k rows ++ filled (drop k rows)

-- to refill the row before them goes one row back
pub refilled-filled_from : (rows : List Span) (k : ℕ) → k < length rows → take k (filled_from (suc k) rows) ++ refilled (drop k (filled_from (suc k) rows)) ≡ filled_from k rows
refilled-filled_from [] k l = elim l [ ]
refilled-filled_from (r ∷ rows) zero l = refl
refilled-filled_from (r ∷ rows) (suc k) l =
    let e : take k (filled_from (suc k) rows) ++ refilled (drop k (filled_from (suc k) rows)) ≡ filled_from k rows = refilled-filled_from rows k (omega arith) in
    ap (λ rest. r ∷ rest) e

-- a row borrows at most 2 ^ 40 more than the row after it
pub first_spare-low : (start : ℕ) (rows : List Span) → FollowOn start rows → neg_ℤ (pos (length rows * 2 ^ 40)) ≤ℤ first_spare (filled rows)
first_spare-low start [] h = omega (arith, ints)
first_spare-low start (r ∷ rows) h =
    let low : neg_ℤ (pos (length rows * 2 ^ 40)) ≤ℤ first_spare (filled rows) = first_spare-low r.end rows h.4 in
    let work : r.work ≤ 2 ^ 40 = h.3 in
    omega (arith, ints, clamps)

-- so the row before them may be refilled
pub CanRefill-filled_from : (start : ℕ) (rows : List Span) (k : ℕ) → k < length rows → length rows ≤ 2 ^ 20 → FollowOn start rows → CanRefill (drop k (filled_from (suc k) rows))
CanRefill-filled_from start [] k l few h = elim l [ ]
CanRefill-filled_from start (r ∷ rows) zero l few h =
    let low : neg_ℤ (pos (length rows * 2 ^ 40)) ≤ℤ first_spare (filled rows) = first_spare-low r.end rows h.4 in
    (record { rising = omega (arith, h.1); length = h.2; work = h.3 }, omega (arith, ints))
CanRefill-filled_from start (r ∷ rows) (suc k) l few h = CanRefill-filled_from r.end rows k (omega arith) (omega arith) h.4

CanRefill-consecutive : (rows : List Span) (k : ℕ) → k < length rows → length rows ≤ 2 ^ 20 → AreConsecutive rows → CanRefill (drop k (filled_from (suc k) rows))
CanRefill-consecutive [] k l few h = elim l [ ]
CanRefill-consecutive (r ∷ rows) k l few h = CanRefill-filled_from r.start (r ∷ rows) k l few h

-- the step of the loop: with the rows from `at` on filled, the row before may be refilled
pub CanRefill-before : (rows now : List Span) (at : ℕ) → 0 < at → at ≤ length rows → length rows ≤ 2 ^ 20 → AreConsecutive rows → now ≡ filled_from at rows → CanRefill (drop (at - 1) now)
CanRefill-before rows now zero some l few h e = elim some [ ]
CanRefill-before rows now (suc k) some l few h e =
    rw (sub-one, e) (CanRefill-consecutive rows k (omega arith) few h)

-- and then the rows from there on are filled
pub refilled_before : (rows now : List Span) (at : ℕ) → 0 < at → at ≤ length rows → now ≡ filled_from at rows → take (at - 1) now ++ refilled (drop (at - 1) now) ≡ filled_from (at - 1) rows
refilled_before rows now zero some l e = elim some [ ]
refilled_before rows now (suc k) some l e = rw (sub-one, e) (refilled-filled_from rows k (omega arith))
