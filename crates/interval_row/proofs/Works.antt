-- A new work of one span.
use Rattle.std.proofs.Common.{◌≡◌, ℕ, zero, suc, ◌<◌, ◌≤◌, ◌^◌, List, [], ◌∷◌, length, drop, get_or, set, take, refl, ap, sym, arith}
use Rattle.slot_core.specs.declared.jobs.Span.{Span}
use Rattle.spare_capacity.specs.Recurrence.{filled, FollowOn, first_start, last_end}
use Rattle.spare_capacity.proofs.Free.{rest-filled}
use Rattle.spare_capacity.proofs.Steps.{no_row}
use Rattle.spare_capacity.specs.PlanSpans.{AreProper}
use Rattle.interval_row.specs.Spans.{with_work_at}
use Rattle.interval_row.specs.declared.spans.Change.{Change}
use Rattle.interval_row.specs.declared.spans.Change.TheVariants.{More, Fewer}
use Rattle.interval_row.specs.Works.{changed_by, MayChangeBy}

-- to write the span with the work
pub set-with_work_at : (place work : ℕ) (rows : List Span) → place < length rows → set rows place (record (get_or rows place no_row) { work = work }) ≡ with_work_at place work rows
set-with_work_at place work [] l = elim l [ ]
set-with_work_at zero work (s ∷ ss) l = refl
set-with_work_at (suc place) work (s ∷ ss) l = ap (λ xs. s ∷ xs) (set-with_work_at place work ss (omega arith))

pub length-with_work_at : (place work : ℕ) (rows : List Span) → length (with_work_at place work rows) ≡ length rows
length-with_work_at place work [] = refl
length-with_work_at zero work (s ∷ ss) = refl
length-with_work_at (suc place) work (s ∷ ss) = ap suc (length-with_work_at place work ss)

pub first_start-with_work_at : (place work : ℕ) (rows : List Span) → first_start (with_work_at place work rows) ≡ first_start rows
first_start-with_work_at place work [] = refl
first_start-with_work_at zero work (s ∷ ss) = refl
first_start-with_work_at (suc place) work (s ∷ ss) = refl

pub FollowOn-with_work_at : (place work start : ℕ) (rows : List Span) → work ≤ 2 ^ 40 → FollowOn start rows → FollowOn start (with_work_at place work rows)
FollowOn-with_work_at place work start [] few h = h
FollowOn-with_work_at zero work start (s ∷ ss) few h = (h.0, h.1, h.2, few, h.4)
FollowOn-with_work_at (suc place) work start (s ∷ ss) few h = (h.0, h.1, h.2, h.3, FollowOn-with_work_at place work s.end ss few h.4)

pub AreProper-with_work_at : (place work : ℕ) (rows : List Span) → AreProper rows → AreProper (with_work_at place work rows)
AreProper-with_work_at place work [] h = h
AreProper-with_work_at zero work (s ∷ ss) h = h
AreProper-with_work_at (suc place) work (s ∷ ss) h = (h.0, AreProper-with_work_at place work ss h.1)

-- a work that may change so stays at most 2 ^ 40
pub changed_by-le : (change : Change) (work : ℕ) → work ≤ 2 ^ 40 → MayChangeBy change work → changed_by change work ≤ 2 ^ 40
changed_by-le (More slots) work few may = may
changed_by-le (Fewer slots) work few may = omega arith

pub last_end-with_work_at : (place work start : ℕ) (rows : List Span) → last_end start (with_work_at place work rows) ≡ last_end start rows
last_end-with_work_at place work start [] = refl
last_end-with_work_at zero work start (s ∷ ss) = refl
last_end-with_work_at (suc place) work start (s ∷ ss) = last_end-with_work_at place work s.end ss

-- another work of the first span leaves all others
pub drop-first_work : (n work : ℕ) (rows : List Span) → rows ≡ filled rows → drop 1 (take n (filled (with_work_at 0 work rows))) ≡ drop 1 (take n rows)
drop-first_work zero work rows e = refl
drop-first_work (suc n) work [] e = refl
drop-first_work (suc n) work (s ∷ ss) e = ap (take n) (sym (rest-filled s ss e))
