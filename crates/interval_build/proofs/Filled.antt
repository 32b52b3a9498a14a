-- The rows between points, filled by the recurrence, are the spans.
use Rattle.std.proofs.Common.{◌≡◌, ℕ, suc, ◌<◌, ◌≤◌, ◌^◌, ◌⊎◌, ℤ, pos, ◌+ℤ◌, List, [], ◌∷◌, length, get_or, sum_by, All, Contains, refl, sym, ◌∙◌, ap, inl, inr, ⊎_elim, arith}
use Rattle.std.specs.Int.{int_min}
use Rattle.std.specs.List.{AllByRecursion}
use Rattle.std.proofs.lemmas.Int.{ints}
use Rattle.std.proofs.lemmas.List.Elements.{recursion_from_All}
use Rattle.slot_core.specs.declared.jobs.Job.{Job}
use Rattle.slot_core.specs.declared.jobs.Span.{Span}
use Rattle.slot_core.specs.Runs.Demand.{work_between}
use Rattle.slot_core.specs.Runs.Spans.{slack, spans_between}
use Rattle.slot_facts.proofs.Lists.Apart.{above-from_rising}
use Rattle.slot_facts.proofs.Lists.Members.{Has, Has-from_Contains}
use Rattle.spare_capacity.specs.Recurrence.{filled, first_spare, FollowOn, AreConsecutive}
use Rattle.slot_core.specs.Runs.Rising.{AreRising, last_point}
use Rattle.interval_build.specs.Rows.{rows_between}
use Rattle.interval_build.proofs.Due.{left_of, work_between-le}
use Rattle.interval_build.proofs.Capacities.{NoneBetween, capacity_before, capacity_of_last}

-- each job is due by s or at one of the points
abbrev pub AreDueAt : List Job → ℕ → List ℕ → Type 0
AreDueAt jobs s points = AllByRecursion (λ (j : Job). (j.dl ≤ s) ⊎ Has points j.dl) jobs

pub AreDueAt-from_All : (jobs : List Job) (s : ℕ) (points : List ℕ) → All (λ (j : Job). Contains points j.dl) jobs → AreDueAt jobs s points
AreDueAt-from_All jobs s points h =
    recursion_from_All (λ (j : Job). (j.dl ≤ s) ⊎ Has points j.dl) jobs
    (λ k d l. inr (Has-from_Contains points (get_or jobs k d).dl (h k d l)))

-- the last of points that rise from s is not below it
pub last_point-above : (s : ℕ) (points : List ℕ) → AreRising s points → s ≤ last_point s points
last_point-above s [] rising = omega arith
last_point-above s (e ∷ points) rising =
    let above : e ≤ last_point e points = last_point-above e points rising.1 in
    omega (arith, rising.0)

-- the jobs of the points are due after the start
pub AreDueAfter-start : (jobs : List Job) (s : ℕ) (points : List ℕ) → AreRising s points → All (λ (j : Job). Contains points j.dl) jobs → All (λ (j : Job). s < j.dl) jobs
AreDueAfter-start jobs s points rising h k d l =
    above-from_rising s points (get_or jobs k d).dl rising (Has-from_Contains points (get_or jobs k d).dl (h k d l))

-- one span on, the jobs due at its end are due by it
pub AreDueAt-next : (jobs : List Job) (s e : ℕ) (points : List ℕ) → s < e → AreDueAt jobs s (e ∷ points) → AreDueAt jobs e points
AreDueAt-next [] s e points l h = tt
AreDueAt-next (j ∷ jobs) s e points l h =
    (⊎_elim (λ by. inl (omega arith)) (⊎_elim (λ same. inl (omega arith)) inr) h.0, AreDueAt-next jobs s e points l h.1)

-- and none is due between that end and the next
NoneBetween-points : (jobs : List Job) (e next : ℕ) (points : List ℕ) → AreRising next points → AreDueAt jobs e (next ∷ points) → NoneBetween jobs e next
NoneBetween-points [] e next points rising h = tt
NoneBetween-points (j ∷ jobs) e next points rising h =
    (⊎_elim inl (λ among. inr (⊎_elim (λ same. omega arith) (λ later. let above : next < j.dl = above-from_rising next points j.dl rising later in omega arith) among)) h.0, NoneBetween-points jobs e next points rising h.1)

add_zero : (z : ℤ) → z +ℤ int_min (pos 0) (pos 0) ≡ z
add_zero z = omega (arith, ints)

spans_cons : (s e work : ℕ) (y z : ℤ) (xs ys : List Span) → y ≡ z → xs ≡ ys → ◌≡◌ {A = List Span} (record { start = s; end = e; work = work; spare = y } ∷ xs) (record { start = s; end = e; work = work; spare = z } ∷ ys)
spans_cons s e work y z xs ys p q = cc

-- the rows, filled, are the spans
pub filled-rows_between : (jobs : List Job) (s : ℕ) (points : List ℕ) → AreRising s points → AreDueAt jobs s points → filled (rows_between jobs s points) ≡ spans_between jobs (last_point s points) s points
filled-rows_between jobs s [] rising due = refl
filled-rows_between jobs s (e ∷ []) rising due =
    spans_cons s e (work_between jobs s e) _ _ [] [] (add_zero (slack jobs s e) ∙ sym (capacity_of_last jobs s e)) refl
filled-rows_between jobs s (e ∷ (next ∷ points)) rising due =
    let last = last_point next points in
    let due_next = AreDueAt-next jobs s e (next ∷ points) rising.0 due in
    let rest : filled (rows_between jobs e (next ∷ points)) ≡ spans_between jobs last e (next ∷ points) = filled-rows_between jobs e (next ∷ points) rising.1 due_next in
    let none = NoneBetween-points jobs e next points rising.1.1 due_next in
    let spare = capacity_before jobs s e next last (omega (arith, rising.0)) rising.1.0 (last_point-above next points rising.1.1) none in
    spans_cons s e (work_between jobs s e) _ _ _ _ (ap (λ xs. slack jobs s e +ℤ int_min (pos 0) (first_spare xs)) rest ∙ sym spare) rest

-- rows between points that rise are consecutive
pub FollowOn-rows_between : (jobs : List Job) (s : ℕ) (points : List ℕ) → AreRising s points → last_point s points ≤ 2 ^ 40 → sum_by left_of jobs ≤ 2 ^ 40 → FollowOn s (rows_between jobs s points)
FollowOn-rows_between jobs s [] rising near small = tt
FollowOn-rows_between jobs s (e ∷ points) rising near small =
    let above : e ≤ last_point e points = last_point-above e points rising.1 in
    (refl, omega (arith, rising.0), omega arith, omega (arith, work_between-le jobs s e), FollowOn-rows_between jobs e points rising.1 near small)

pub AreConsecutive-rows_between : (jobs : List Job) (s : ℕ) (points : List ℕ) → AreRising s points → last_point s points ≤ 2 ^ 40 → sum_by left_of jobs ≤ 2 ^ 40 → AreConsecutive (rows_between jobs s points)
AreConsecutive-rows_between jobs s [] rising near small = tt
AreConsecutive-rows_between jobs s (e ∷ points) rising near small = FollowOn-rows_between jobs s (e ∷ points) rising near small

pub length-rows_between : (jobs : List Job) (s : ℕ) (points : List ℕ) → length (rows_between jobs s points) ≡ length points
length-rows_between jobs s [] = refl
length-rows_between jobs s (e ∷ points) = ap suc (length-rows_between jobs e points)
