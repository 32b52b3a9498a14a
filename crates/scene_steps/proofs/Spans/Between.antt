-- Spans between points that rise: where they end, and the work that is due there.
use Rattle.std.proofs.Common.{◌≡◌, ℕ, suc, get_or, ◌+◌, ◌<◌, ◌≤◌, ◌^◌, ◌⊎◌, cond, List, [], ◌∷◌, Some, refl, sym, ap, ◌∙◌, subst, inl, inr, arith}
use Rattle.std.specs.Prelude.{All, Contains, IsSomeAnd, nat_le, nat_lt, ◌&&◌, ◌==◌, sum_by}
use Rattle.std.specs.List.{AllByRecursion}
use Rattle.std.proofs.lemmas.Bool.{cases_eq, cases_lt, cond-true, cond-false, eq-eqb, ne_eqb, lt-ltb, le-leb}
use Rattle.slot_core.specs.declared.jobs.Job.{Job}
use Rattle.slot_core.specs.declared.jobs.Span.{Span}
use Rattle.slot_core.specs.Runs.Demand.{work_by, work_between}
use Rattle.slot_core.specs.Runs.Rising.{AreRising, last_point}
use Rattle.slot_core.specs.Runs.Spans.{span_at, spans_between}
use Rattle.slot_facts.proofs.Lists.Members.{Has, AllByRecursion-from_Has, AllByRecursion-weaker}
use Rattle.slot_facts.proofs.Lists.Apart.{above-from_rising}
use Rattle.slot_facts.proofs.Lists.MemberSums.{term-le_sum_by}
use Rattle.slot_facts.proofs.Lists.Sums.{sum_by-agree}
use Rattle.spare_capacity.specs.Recurrence.{FollowOn}
use Rattle.spare_capacity.specs.Laws.{work_until}
use Rattle.spare_capacity.proofs.Slack.{work_until-ended, work_until-running}
use Rattle.interval_row.specs.Changes.{span_ending}
use Rattle.interval_build.proofs.Capacities.{NoneBetween, no_work, work_between-splits}
use Rattle.interval_build.proofs.Due.{left_of, work_between-le}
use Rattle.interval_build.proofs.Filled.{AreDueAt, AreDueAt-from_All, AreDueAt-next, AreDueAfter-start, last_point-above}

-- the work of each span is at most all that is left
pub works-between : (jobs : List Job) (end start : ℕ) (points : List ℕ) (most : ℕ) → sum_by left_of jobs ≤ most → AllByRecursion (λ (s : Span). s.work ≤ most) (spans_between jobs end start points)
works-between jobs end start [] most few = tt
works-between jobs end start (e ∷ points) most few =
    (omega (arith, work_between-le jobs start e), works-between jobs end e points most few)

-- they follow on from the start, where the points are near and little is left
pub FollowOn-between : (jobs : List Job) (end start : ℕ) (points : List ℕ) → AreRising start points → last_point start points ≤ start + 2 ^ 40 → sum_by left_of jobs ≤ 2 ^ 40 → FollowOn start (spans_between jobs end start points)
FollowOn-between jobs end start [] rising near few = tt
FollowOn-between jobs end start (e ∷ points) rising near few =
    let above : e ≤ last_point e points = last_point-above e points rising.1 in (
      refl,
      omega (arith, rising.0),
      omega arith,
      omega (arith, work_between-le jobs start e),
      FollowOn-between jobs end e points rising.1 (omega (arith, rising.0)) few,
    )

-- a span ends at the deadline: it starts before, with the work that is due in it
pub record EndsAt (jobs : List Job) (deadline : ℕ) (spans : List Span) : Type 0 where
  pub span : Span
  pub found : span_ending deadline spans ≡ Some span
  pub rising : span.start < deadline
  pub work : span.work ≡ work_between jobs span.start deadline

-- the first span may end there
EndsAt-first : (jobs : List Job) (deadline : ℕ) (s : Span) (ss : List Span) → s.end ≡ deadline → s.start < s.end → s.work ≡ work_between jobs s.start s.end → EndsAt jobs deadline (s ∷ ss)
EndsAt-first jobs deadline s ss here rising work =
    record {
      span = s;
      found = cond-true (s.end == deadline) (Some s) (span_ending deadline ss) (eq-eqb s.end deadline here);
      rising = omega arith;
      work = work ∙ ap (work_between jobs s.start) here;
    }

-- or a later one
EndsAt-later : (jobs : List Job) (deadline : ℕ) (s : Span) (ss : List Span) → ((s.end ≡ deadline) → ⊥) → EndsAt jobs deadline ss → EndsAt jobs deadline (s ∷ ss)
EndsAt-later jobs deadline s ss other rest =
    record {
      span = rest.span;
      found = cond-false (s.end == deadline) (Some s) (span_ending deadline ss) (ne_eqb s.end deadline other) ∙ rest.found;
      rising = rest.rising;
      work = rest.work;
    }

-- a span ends at each point
pub EndsAt-between : (jobs : List Job) (end start : ℕ) (points : List ℕ) (deadline : ℕ) → AreRising start points → Has points deadline → EndsAt jobs deadline (spans_between jobs end start points)
EndsAt-between jobs end start [] deadline rising at = absurd at
EndsAt-between jobs end start (e ∷ points) deadline rising at =
    let first = span_at jobs end start e in
    let later = spans_between jobs end e points in
    let here = λ (same : e ≡ deadline). EndsAt-first jobs deadline first later same rising.0 refl in
    let rest = λ (more : Has points deadline). EndsAt-between jobs end e points deadline rising.1 more in
    elim (cases_eq e deadline) [
      | inl same ↦ here same
      | inr other ↦ EndsAt-later jobs deadline first later other (elim at [ inl same ↦ absurd (other same) | inr more ↦ rest more ])
    ]

-- with a work of at least what is left of each job that is due there
pub span_ending-job : (jobs : List Job) (deadline : ℕ) (spans : List Span) (job : Job) (slots : ℕ) → EndsAt jobs deadline spans → Has jobs job → job.dl ≡ deadline → slots ≤ job.left → IsSomeAnd (span_ending deadline spans) (λ (s : Span). slots ≤ s.work)
span_ending-job jobs deadline spans job slots there at due few =
    let s = there.span in
    let counts = λ (j : Job). cond (nat_lt s.start j.dl && nat_le j.dl deadline) j.left 0 in
    let own : counts job ≡ job.left = rw (due, lt-ltb s.start deadline there.rising, le-leb deadline deadline (omega arith)) refl in
    let most : slots ≤ s.work = omega (arith, own, term-le_sum_by counts jobs job at, there.work) in
    subst (λ o. IsSomeAnd o (λ (s : Span). slots ≤ s.work)) (sym there.found) most

-- and at most all that is left
pub span_ending-small : (jobs : List Job) (deadline : ℕ) (spans : List Span) (slots most : ℕ) → EndsAt jobs deadline spans → sum_by left_of jobs + slots ≤ most → IsSomeAnd (span_ending deadline spans) (λ (s : Span). s.work + slots ≤ most)
span_ending-small jobs deadline spans slots most there few =
    let s = there.span in
    let within : s.work + slots ≤ most = omega (arith, there.work, work_between-le jobs s.start deadline) in
    subst (λ o. IsSomeAnd o (λ (s : Span). s.work + slots ≤ most)) (sym there.found) within

-- from the start up to a time before it no job is due
NoneBetween-early : (jobs : List Job) (start x : ℕ) → x < start → NoneBetween jobs start (suc x)
NoneBetween-early jobs start x early =
    AllByRecursion-from_Has (λ (j : Job). (j.dl ≤ start) ⊎ (suc x ≤ j.dl)) jobs (λ j at. elim (cases_lt x j.dl) [
      | inl late ↦ inr (omega arith)
      | inr low ↦ inl (omega arith)
    ])

-- nor up to a time before the first point, where jobs are due at points
NoneBetween-point : (jobs : List Job) (start e x : ℕ) (points : List ℕ) → x < e → AreRising e points → AreDueAt jobs start (e ∷ points) → NoneBetween jobs start (suc x)
NoneBetween-point jobs start e x points early rising due =
    AllByRecursion-weaker (λ (j : Job). (j.dl ≤ start) ⊎ Has (e ∷ points) j.dl) (λ (j : Job). (j.dl ≤ start) ⊎ (suc x ≤ j.dl)) jobs (λ j h. elim h [
      | inl low ↦ inl low
      | inr among ↦ inr (elim among [
        | inl here ↦ omega arith
        | inr later ↦ omega (arith, above-from_rising e points j.dl rising later)
      ])
    ]) due

-- the work of the spans that end by a time is that of the jobs due from the start up to it
pub work_until-between : (jobs : List Job) (end start : ℕ) (points : List ℕ) (x : ℕ) → AreRising start points → AreDueAt jobs start points → work_until (spans_between jobs end start points) x ≡ work_between jobs start x
work_until-between jobs end start [] x rising due =
    let none = AllByRecursion-weaker (λ (j : Job). (j.dl ≤ start) ⊎ Has [] j.dl) (λ (j : Job). (j.dl ≤ start) ⊎ (suc x ≤ j.dl)) jobs (λ j h. elim h [ inl low ↦ inl low | inr none ↦ absurd none ]) due in
    sym (no_work jobs start x (suc x) (omega arith) none)
work_until-between jobs end start (e ∷ points) x rising due =
    let first = span_at jobs end start e in
    let later = spans_between jobs end e points in
    let rest = work_until-between jobs end e points x rising.1 (AreDueAt-next jobs start e points rising.0 due) in
    elim (cases_lt x e) [
      | inl before ↦
          let none = no_work jobs start x (suc x) (omega arith) (NoneBetween-point jobs start e x points before rising.1 due) in
          let early = no_work jobs e x (suc x) (omega arith) (NoneBetween-early jobs e x before) in
          work_until-running first later x before ∙ rest ∙ early ∙ sym none
      | inr after ↦
          let split = work_between-splits jobs start e x (omega (arith, rising.0)) after in
          work_until-ended first later x after ∙ ap (λ n. work_between jobs start e + n) rest ∙ sym split
    ]

-- where the jobs are due at the points, it is the work due by then
pub work_until-points : (jobs : List Job) (end start : ℕ) (points : List ℕ) (x : ℕ) → AreRising start points → All (λ (j : Job). Contains points j.dl) jobs → work_until (spans_between jobs end start points) x ≡ work_by jobs x
work_until-points jobs end start points x rising due =
    let after = AreDueAfter-start jobs start points rising due in
    work_until-between jobs end start points x rising (AreDueAt-from_All jobs start points due) ∙ sum_by-agree (λ (j : Job). cond (nat_lt start j.dl && nat_le j.dl x) j.left 0) (λ (j : Job). cond (nat_le j.dl x) j.left 0) jobs (λ i d within. ap (λ b. cond (b && nat_le (get_or jobs i d).dl x) (get_or jobs i d).left 0) (lt-ltb start (get_or jobs i d).dl (after i d within)))
