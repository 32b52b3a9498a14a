-- What capacities by the recurrence leave as it is.
use Rattle.std.proofs.Common.{◌≡◌, ℕ, suc, List, [], ◌∷◌, length, get_or, refl, sym, ap, ◌∙◌, ℤ, pos, ◌+ℤ◌}
use Rattle.std.specs.Int.{int_min}
use Rattle.slot_core.specs.declared.jobs.Span.{Span}
use Rattle.spare_capacity.specs.Recurrence.{filled, first_spare, first_start, last_end, room, with_spare}
use Rattle.spare_capacity.proofs.Free.{rest-filled}
use Rattle.spare_capacity.specs.PlanSpans.{AreProper}

-- capacities change no length, and leave rows proper
pub length-filled : (rows : List Span) → length (filled rows) ≡ length rows
length-filled [] = refl
length-filled (s ∷ ss) = ap suc (length-filled ss)

pub AreProper-filled : (rows : List Span) → AreProper rows → AreProper (filled rows)
AreProper-filled [] h = tt
AreProper-filled (s ∷ ss) h = (h.0, AreProper-filled ss h.1)

pub first_start-filled : (rows : List Span) → first_start (filled rows) ≡ first_start rows
first_start-filled [] = refl
first_start-filled (s ∷ ss) = refl

pub last_end-filled : (start : ℕ) (rows : List Span) → last_end start (filled rows) ≡ last_end start rows
last_end-filled start [] = refl
last_end-filled start (s ∷ ss) = last_end-filled s.end ss

-- the same part of both capacities is borrowed from the span before
abbrev pub LendsSame : ℤ → ℤ → Type 0
LendsSame a b = int_min (pos 0) a ≡ int_min (pos 0) b

-- a span has the same capacity before rows that borrow the same
pub with_spare-LendsSame : (s : Span) (a b : ℤ) → LendsSame a b → with_spare s a ≡ with_spare s b
with_spare-LendsSame s a b e = ap (λ m. record s { spare = room s +ℤ m }) e

-- the first of rows that have their capacities
pub filled-first : (s : Span) (ss : List Span) → s ∷ ss ≡ filled (s ∷ ss) → s ≡ with_spare s (first_spare ss)
filled-first s ss e =
    let first : s ≡ with_spare s (first_spare (filled ss)) = ap (λ xs. get_or xs 0 s) e in
    first ∙ ap (λ xs. with_spare s (first_spare xs)) (sym (rest-filled s ss e))
