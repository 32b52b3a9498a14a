-- One turn of the loop over the points.
use Rattle.std.proofs.Common.{◌≡◌, ℕ, ◌+◌, ◌<◌, pos, List, [], ◌∷◌, ◌++◌, length, get_or, drop, sym, ◌∙◌, ap, subst, append_assoc}
use Rattle.std.proofs.lemmas.List.{drop_more}
use Rattle.slot_core.specs.declared.jobs.Job.{Job}
use Rattle.slot_core.specs.declared.jobs.Span.{Span}
use Rattle.slot_core.specs.Runs.Demand.{work_between}
use Rattle.slot_core.specs.Runs.Rising.{AreRising}
use Rattle.interval_build.specs.Rows.{rows_between}

-- points that rise from a time on: the next is above it, and the others rise from that one
pub AreRising-turn : (s i : ℕ) (points : List ℕ) → i < length points → AreRising s (drop i points) → (s < get_or points i 0) × AreRising (get_or points i 0) (drop (i + 1) points)
AreRising-turn s i points l h = subst (AreRising s) (drop_more points i 0 l) h

-- the rows so far and those to come are all rows, also once the next row is appended
pub rows_turn : (jobs : List Job) (before all : List Span) (s i work : ℕ) (points : List ℕ) → i < length points → before ++ rows_between jobs s (drop i points) ≡ all → work ≡ work_between jobs s (get_or points i 0) → (before ++ record { start = s; end = get_or points i 0; work = work; spare = pos 0 } ∷ []) ++ rows_between jobs (get_or points i 0) (drop (i + 1) points) ≡ all
rows_turn jobs before all s i work points l h e =
    let to = get_or points i 0 in
    let rest = rows_between jobs to (drop (i + 1) points) in
    rw (append_assoc, e) (ap (λ es. before ++ rows_between jobs s es) (sym (drop_more points i 0 l)) ∙ h)
