-- Filled rows: to fill them again, their rest, and where they follow on.
use Rattle.std.proofs.Common.{◌≡◌, ℕ, zero, suc, List, [], ◌∷◌, drop, refl, ap}
use Rattle.slot_core.specs.declared.jobs.Span.{Span}
use Rattle.spare_capacity.specs.Recurrence.{filled, first_spare, with_spare, FollowOn}

-- to fill filled rows changes nothing
pub filled-filled : (rows : List Span) → filled (filled rows) ≡ filled rows
filled-filled [] = refl
filled-filled (r ∷ rows) =
    let rest : filled (filled rows) ≡ filled rows = filled-filled rows in
    ap (λ xs. with_spare r (first_spare xs) ∷ xs) rest

-- the rest of filled rows is filled
pub drop-filled : (n : ℕ) (rows : List Span) → drop n (filled rows) ≡ filled (drop n rows)
drop-filled zero rows = refl
drop-filled (suc n) [] = refl
drop-filled (suc n) (s ∷ ss) = drop-filled n ss

-- filled rows are as consecutive as they were
pub FollowOn-filled : (start : ℕ) (rows : List Span) → FollowOn start rows → FollowOn start (filled rows)
FollowOn-filled start [] h = tt
FollowOn-filled start (r ∷ rows) h = (h.0, h.1, h.2, h.3, FollowOn-filled r.end rows h.4)
