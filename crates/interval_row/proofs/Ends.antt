-- The last end of rows that change.
use Rattle.std.proofs.Common.{◌≡◌, ℕ, ◌+◌, ◌<◌, ◌≤◌, ◌&&◌, List, [], ◌∷◌, ◌++◌, length, map, eqb, ltb, refl, arith}
use Rattle.std.proofs.lemmas.Bool.{cond_both, eqb-true}
use Rattle.slot_core.specs.declared.jobs.Span.{Span}
use Rattle.spare_capacity.specs.Recurrence.{first_start, last_end}
use Rattle.interval_row.specs.Changes.{after_pass, appended, cut, part_before, part_from, shifted, with_work}

-- another work leaves it
pub last_end-with_work : (f : ℕ → ℕ) (deadline start : ℕ) (rows : List Span) → last_end start (with_work f deadline rows) ≡ last_end start rows
last_end-with_work f deadline start [] = refl
last_end-with_work f deadline start (s ∷ ss) =
    cond_both (eqb s.end deadline) (record s { work = f s.work } ∷ ss) (s ∷ with_work f deadline ss) (λ xs. last_end start xs ≡ last_end s.end ss)
    (λ t. refl)
    (λ t. last_end-with_work f deadline s.end ss)

-- so does a cut
pub last_end-cut : (at start : ℕ) (rows : List Span) → last_end start (cut at rows) ≡ last_end start rows
last_end-cut at start [] = refl
last_end-cut at start (s ∷ ss) =
    cond_both (ltb s.start at && ltb at s.end) (part_before at s ∷ part_from at s ∷ ss) (s ∷ cut at ss) (λ xs. last_end start xs ≡ last_end s.end ss)
    (λ t. refl)
    (λ t. last_end-cut at s.end ss)

-- and a slot that passes, where it is not the last
rest_end : (s : Span) (ss : List Span) → s.end < last_end s.end ss → last_end 0 ss ≡ last_end s.end ss
rest_end s [] more = absurd (omega arith)
rest_end s (t ∷ ts) more = refl

pub last_end-after_pass : (rows : List Span) → first_start rows + 1 < last_end 0 rows → last_end 0 (after_pass rows) ≡ last_end 0 rows
last_end-after_pass [] more = absurd (omega arith)
last_end-after_pass (s ∷ ss) more =
    cond_both (eqb (s.start + 1) s.end) ss (record s { start = s.start + 1 } ∷ ss) (λ xs. last_end 0 xs ≡ last_end s.end ss)
    (λ t. rest_end s ss (omega (arith, more, eqb-true (s.start + 1) s.end t)))
    (λ t. refl)

-- appended spans put it off by their own
last_end-shifted : (start by : ℕ) (spans : List Span) → last_end (start + by) (map (shifted by) spans) ≡ last_end start spans + by
last_end-shifted start by [] = refl
last_end-shifted start by (s ∷ ss) = last_end-shifted s.end by ss

last_end-append : (start : ℕ) (rows ys : List Span) → last_end start (rows ++ ys) ≡ last_end (last_end start rows) ys
last_end-append start [] ys = refl
last_end-append start (s ∷ ss) ys = last_end-append s.end ss ys

pub last_end-appended : (spans rows : List Span) → 1 ≤ length spans → last_end 0 (appended spans rows) ≡ last_end 0 rows + last_end 0 spans
last_end-appended [] rows some = absurd (omega arith)
last_end-appended (s ∷ ss) rows some =
    let by = last_end 0 rows in
    omega (arith, last_end-append 0 rows (map (shifted by) (s ∷ ss)), last_end-shifted s.end by ss)
