-- The spans with a point more.
use Rattle.std.proofs.Common.{◌≡◌, ℕ, ◌<◌, ◌≤◌, ◌⊎◌, cond, ltb, ◌&&◌, List, [], ◌∷◌, refl, sym, ap, ◌∙◌, inl, inr, ⊎_elim, arith, lt-ltb, le-ltb}
use Rattle.std.proofs.lemmas.Bool.{cond_both, cases_lt, cases_order, and_left, and_right}
use Rattle.slot_core.specs.declared.jobs.Job.{Job}
use Rattle.slot_core.specs.declared.jobs.Span.{Span}
use Rattle.slot_core.specs.Runs.Rising.{AreRising, last_point}
use Rattle.slot_facts.proofs.Lists.Apart.{above-from_rising}
use Rattle.slot_facts.proofs.Lists.Members.{Has, AllByRecursion-from_Has, AllByRecursion-weaker}
use Rattle.spare_capacity.specs.Recurrence.{filled}
use Rattle.interval_build.specs.Rows.{rows_between}
use Rattle.interval_build.proofs.Capacities.{NoneBetween, no_work}
use Rattle.interval_row.specs.Changes.{cut, part_before, part_from}
use Rattle.scene_steps.specs.Rows.{spans, AreDueAmong}
use Rattle.scene_steps.specs.Steps.{with_point}
use Rattle.scene_steps.proofs.Rows.Bare.{bare, cleared, bare-spans_between, filled-spans, same_row}
use Rattle.scene_steps.proofs.Rows.Due.{Has-due, AreDueAmong-from_Has, work_between-from_later}
use Rattle.scene_steps.proofs.Spans.Points.{with_point-same, with_point-before, with_point-after, AreRising-with_point, Has-with_point_other}

-- a cut is the same before and after the capacities are cleared
pub bare-cut : (at : ℕ) (rows : List Span) → bare (cut at rows) ≡ cut at (bare rows)
bare-cut at [] = refl
bare-cut at (s ∷ ss) =
    cond_both (ltb s.start at && ltb at s.end) (part_before at s ∷ part_from at s ∷ ss) (s ∷ cut at ss)
    (λ xs. bare xs ≡ cond (ltb s.start at && ltb at s.end) (part_before at (cleared s) ∷ part_from at (cleared s) ∷ bare ss) (cleared s ∷ cut at (bare ss)))
    (λ t. rw t refl)
    (λ t. rw t (ap (λ xs. cleared s ∷ xs) (bare-cut at ss)))

-- no row that starts at the point or after it is cut
cut-rows_after : (at : ℕ) (jobs : List Job) (s : ℕ) (points : List ℕ) → at ≤ s → AreRising s points → cut at (rows_between jobs s points) ≡ rows_between jobs s points
cut-rows_after at jobs s [] low rising = refl
cut-rows_after at jobs s (e ∷ points) low rising =
    rw (and_left (ltb s at) (ltb at e) (le-ltb s at low))
    (same_row s e _ _ _ _ refl (cut-rows_after at jobs e points (omega (arith, rising.0)) rising.1))

-- each job that is due after a time is due at one of the points
abbrev AreDueLater : ℕ → List ℕ → List Job → Type 0
AreDueLater s points jobs = (j : Job) → Has jobs j → s < j.dl → Has points j.dl

-- none is due between the time and the first point
none_before : (jobs : List Job) (s e : ℕ) (points : List ℕ) → AreRising e points → AreDueLater s (e ∷ points) jobs → NoneBetween jobs s e
none_before jobs s e points rising due =
    AllByRecursion-from_Has (λ (j : Job). (j.dl ≤ s) ⊎ (e ≤ j.dl)) jobs (λ j at.
    ⊎_elim
    (λ later. inr (⊎_elim (λ same. omega arith) (λ among. let above = above-from_rising e points j.dl rising among in omega arith) (due j at later)))
    inl
    (cases_lt s j.dl))

-- each that is due after the first point is due at one of the others
due_later : (jobs : List Job) (s e : ℕ) (points : List ℕ) → s < e → AreDueLater s (e ∷ points) jobs → AreDueLater e points jobs
due_later jobs s e points low due j at later =
    ⊎_elim (λ same. absurd (omega arith)) (λ among. among) (due j at (omega arith))

-- the rows with one cut are the rows with the point more
cut-rows_between : (at : ℕ) (jobs : List Job) (s : ℕ) (points : List ℕ) → AreRising s points → AreDueLater s points jobs → s < at → at ≤ last_point s points → cut at (rows_between jobs s points) ≡ rows_between jobs s (with_point at points)
cut-rows_between at jobs s [] rising due low high = absurd (omega arith)
cut-rows_between at jobs s (e ∷ points) rising due low high =
    elim (cases_order at e) [
      | inl same ↦
          let rest = cut-rows_after at jobs e points (omega arith) rising.1 in
          rw (with_point-same at e points same, and_right (ltb s at) (ltb at e) (le-ltb at e (omega arith))) (same_row s e _ _ _ _ refl rest)
      | inr (inl before) ↦
          let none = none_before jobs s e points rising.1 due in
          let beyond = AllByRecursion-weaker _ (λ (j : Job). (j.dl ≤ s) ⊎ (at < j.dl)) jobs (λ j h. ⊎_elim inl (λ far. inr (omega arith)) h) none in
          let second = same_row at e _ _ _ _ (work_between-from_later jobs s at e (omega arith) beyond) refl in
          rw (with_point-before at e points before, lt-ltb s at low, lt-ltb at e before) (same_row s at _ _ _ _ (sym (no_work jobs s at e before none)) second)
      | inr (inr after) ↦
          let rest = cut-rows_between at jobs e points rising.1 (due_later jobs s e points rising.0 due) after high in
          rw (with_point-after at e points after, and_right (ltb s at) (ltb at e) (le-ltb at e (omega arith))) (same_row s e _ _ _ _ refl rest)
    ]

-- the spans with one cut are the spans with the point more
pub spans-cut : (jobs : List Job) (t : ℕ) (points : List ℕ) (at : ℕ) → AreRising t points → AreDueAmong points jobs → t < at → at ≤ last_point t points → filled (cut at (spans jobs t points)) ≡ spans jobs t (with_point at points)
spans-cut jobs t points at rising due low high =
    filled-spans (cut at (spans jobs t points)) jobs t (with_point at points)
    (AreRising-with_point at t points low rising)
    (AreDueAmong-from_Has (with_point at points) jobs (λ j h. Has-with_point_other at points j.dl (Has-due points jobs j due h)))
    (bare-cut at (spans jobs t points)
    ∙ ap (cut at) (bare-spans_between jobs (last_point t points) t points)
    ∙ cut-rows_between at jobs t points rising (λ j h later. Has-due points jobs j due h) low high)
