-- The spans of jobs with more or with less work due at one point.
use Rattle.std.proofs.Common.{◌≡◌, ℕ, ◌+◌, ◌-◌, ◌<◌, ◌≤◌, ◌⊎◌, cond, ltb, leb, eqb, ◌&&◌, List, [], ◌∷◌, refl, sym, ap, ◌∙◌, inl, inr, arith, eq-eqb, ne_eqb}
use Rattle.std.specs.Prelude.{Contains, nat_lt, nat_le, if◌then◌else◌}
use Rattle.std.proofs.lemmas.Bool.{cond_both}
use Rattle.std.proofs.lemmas.Bool.Decides.{nat_tests}
use Rattle.slot_core.specs.declared.jobs.Job.{Job}
use Rattle.slot_core.specs.declared.jobs.Span.{Span}
use Rattle.slot_core.specs.Runs.Demand.{work_between}
use Rattle.slot_core.specs.Runs.Rising.{AreRising, last_point}
use Rattle.slot_facts.proofs.Lists.Apart.{above-from_rising}
use Rattle.slot_facts.proofs.Lists.Members.{Has, Has-from_Contains}
use Rattle.spare_capacity.specs.Recurrence.{filled}
use Rattle.interval_build.specs.Rows.{rows_between}
use Rattle.interval_build.proofs.Filled.{last_point-above}
use Rattle.interval_row.specs.Changes.{with_work, with_less, with_more}
use Rattle.scene_steps.specs.Rows.{spans, AreDueAmong}
use Rattle.scene_steps.proofs.Rows.Bare.{bare, cleared, bare-spans_between, filled-spans, same_row}

-- a changed work is the same before and after the capacities are cleared
pub bare-with_work : (f : ℕ → ℕ) (dl : ℕ) (rows : List Span) → bare (with_work f dl rows) ≡ with_work f dl (bare rows)
bare-with_work f dl [] = refl
bare-with_work f dl (s ∷ ss) =
    cond_both (eqb s.end dl) (record s { work = f s.work } ∷ ss) (s ∷ with_work f dl ss)
    (λ xs. bare xs ≡ cond (eqb s.end dl) (record (cleared s) { work = f s.work } ∷ bare ss) (cleared s ∷ with_work f dl (bare ss)))
    (λ t. rw t refl)
    (λ t. rw t (ap (λ xs. cleared s ∷ xs) (bare-with_work f dl ss)))

-- jobs with the same work due between the start and the last point have the same rows
pub rows_between-same : (jobs others : List Job) (s : ℕ) (points : List ℕ) → AreRising s points → ((from e : ℕ) → s ≤ from → e ≤ last_point s points → work_between jobs from e ≡ work_between others from e) → rows_between jobs s points ≡ rows_between others s points
rows_between-same jobs others s [] rising same = refl
rows_between-same jobs others s (e ∷ points) rising same =
    same_row s e _ _ _ _
    (same s e (omega arith) (last_point-above e points rising.1))
    (rows_between-same jobs others e points rising.1 (λ from to later. same from to (omega (arith, rising.0))))

-- where the work due at one point is changed by f, the rows are those with the work there changed by f
with_work-rows_between : (f : ℕ → ℕ) (dl : ℕ) (jobs others : List Job) (s : ℕ) (points : List ℕ) → AreRising s points → Has points dl → ((from e : ℕ) → from < dl → dl ≤ e → work_between others from e ≡ f (work_between jobs from e)) → ((from e : ℕ) → (e < dl) ⊎ (dl ≤ from) → work_between others from e ≡ work_between jobs from e) → with_work f dl (rows_between jobs s points) ≡ rows_between others s points
with_work-rows_between f dl jobs others s [] rising among over apart = absurd among
with_work-rows_between f dl jobs others s (e ∷ points) rising (inl same) over apart =
    rw (eq-eqb e dl same)
    (same_row s e _ _ _ _
    (sym (over s e (omega (arith, rising.0)) (omega arith)))
    (rows_between-same jobs others e points rising.1 (λ from to later low. sym (apart from to (inr (omega arith))))))
with_work-rows_between f dl jobs others s (e ∷ points) rising (inr among) over apart =
    let low : e < dl = above-from_rising e points dl rising.1 among in
    rw (ne_eqb e dl (λ same. absurd (omega arith)))
    (same_row s e _ _ _ _
    (sym (apart s e (inl low)))
    (with_work-rows_between f dl jobs others e points rising.1 among over apart))

-- and so are the spans
spans-with_work : (f : ℕ → ℕ) (dl : ℕ) (jobs others : List Job) (t : ℕ) (points : List ℕ) → AreRising t points → AreDueAmong points others → Contains points dl → ((from e : ℕ) → from < dl → dl ≤ e → work_between others from e ≡ f (work_between jobs from e)) → ((from e : ℕ) → (e < dl) ⊎ (dl ≤ from) → work_between others from e ≡ work_between jobs from e) → filled (with_work f dl (spans jobs t points)) ≡ spans others t points
spans-with_work f dl jobs others t points rising due at over apart =
    filled-spans (with_work f dl (spans jobs t points)) others t points rising due
    (bare-with_work f dl (spans jobs t points)
    ∙ ap (with_work f dl) (bare-spans_between jobs (last_point t points) t points)
    ∙ with_work-rows_between f dl jobs others t points rising (Has-from_Contains points dl at) over apart)

-- what is due at a deadline counts in a stretch that holds it
counts_over : (n dl s e : ℕ) → s < dl → dl ≤ e → cond (ltb s dl && leb dl e) n 0 ≡ n
counts_over n dl s e low high = grind (arith, nat_tests)

-- and not in one that ends before it or starts at it or later
counts_apart : (n dl s e : ℕ) → (e < dl) ⊎ (dl ≤ s) → cond (ltb s dl && leb dl e) n 0 ≡ 0
counts_apart n dl s e apart = grind (arith, nat_tests)

-- where so many slots less are due at a point, the spans are those with so many slots less there
pub spans-less : (jobs after : List Job) (t : ℕ) (points : List ℕ) (dl n : ℕ) → AreRising t points → AreDueAmong points jobs → AreDueAmong points after → Contains points dl → ((s e : ℕ) → work_between jobs s e ≡ work_between after s e + (if nat_lt s dl && nat_le dl e then n else 0)) → filled (with_less dl n (spans jobs t points)) ≡ spans after t points
spans-less jobs after t points dl n rising due_before due at less =
    spans-with_work (λ work. work - n) dl jobs after t points rising due at
    (λ s e low high. omega (arith, less s e, counts_over n dl s e low high))
    (λ s e apart. omega (arith, less s e, counts_apart n dl s e apart))

-- where so many slots more are due at a point, the spans are those with so many slots more there
pub spans-more : (jobs after : List Job) (t : ℕ) (points : List ℕ) (dl n : ℕ) → AreRising t points → AreDueAmong points jobs → AreDueAmong points after → Contains points dl → ((s e : ℕ) → work_between after s e ≡ work_between jobs s e + (if nat_lt s dl && nat_le dl e then n else 0)) → filled (with_more dl n (spans jobs t points)) ≡ spans after t points
spans-more jobs after t points dl n rising due_before due at more =
    spans-with_work (λ work. work + n) dl jobs after t points rising due at
    (λ s e low high. omega (arith, more s e, counts_over n dl s e low high))
    (λ s e apart. omega (arith, more s e, counts_apart n dl s e apart))
