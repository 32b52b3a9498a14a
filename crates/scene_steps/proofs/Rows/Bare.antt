-- Spans without their capacities: what they are filled to depends on these alone.
use Rattle.std.proofs.Common.{◌≡◌, ℕ, pos, List, [], ◌∷◌, map, refl, sym, ap, ◌∙◌}
use Rattle.slot_core.specs.declared.jobs.Job.{Job}
use Rattle.slot_core.specs.declared.jobs.Span.{Span}
use Rattle.slot_core.specs.Runs.Rising.{AreRising}
use Rattle.slot_core.specs.Runs.Spans.{span_at, spans_between}
use Rattle.spare_capacity.specs.Recurrence.{filled, first_spare, with_spare}
use Rattle.interval_build.specs.Rows.{rows_between}
use Rattle.interval_build.proofs.Filled.{AreDueAt-from_All, filled-rows_between}
use Rattle.scene_steps.specs.Rows.{spans, AreDueAmong}

-- the span, its capacity cleared
abbrev pub cleared : Span → Span
cleared s = record s { spare = pos 0 }

-- the spans, each capacity cleared
abbrev pub bare : List Span → List Span
bare rows = map cleared rows

-- bare rows are filled as the rows are
pub filled-bare : (rows : List Span) → filled (bare rows) ≡ filled rows
filled-bare [] = refl
filled-bare (s ∷ ss) = ap (λ xs. with_spare s (first_spare xs) ∷ xs) (filled-bare ss)

-- spans between points are bare rows between the points
pub bare-spans_between : (jobs : List Job) (end s : ℕ) (points : List ℕ) → bare (spans_between jobs end s points) ≡ rows_between jobs s points
bare-spans_between jobs end s [] = refl
bare-spans_between jobs end s (e ∷ points) =
    ap (λ xs. cleared (span_at jobs end s e) ∷ xs) (bare-spans_between jobs end e points)

-- rows that are the rows between points but for their capacities are filled to the spans
pub filled-spans : (rows : List Span) (jobs : List Job) (t : ℕ) (points : List ℕ) → AreRising t points → AreDueAmong points jobs → bare rows ≡ rows_between jobs t points → filled rows ≡ spans jobs t points
filled-spans rows jobs t points rising due same =
    sym (filled-bare rows) ∙ ap filled same ∙ filled-rows_between jobs t points rising (AreDueAt-from_All jobs t points due)

-- a row before others is the same where its work and the others are
pub same_row : (s e before after : ℕ) (xs ys : List Span) → before ≡ after → xs ≡ ys → ◌≡◌ {A = List Span} (record { start = s; end = e; work = before; spare = pos 0 } ∷ xs) (record { start = s; end = e; work = after; spare = pos 0 } ∷ ys)
same_row s e before after xs ys p q = cc
