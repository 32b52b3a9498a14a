-- The first spans between points need of the later ones only what the jobs due there lack.
use Rattle.std.proofs.Common.{◌≡◌, ℕ, zero, suc, ◌+◌, ◌-◌, ◌<◌, ◌≤◌, ◌^◌, ◌⊎◌, ℤ, pos, neg_ℤ, ◌+ℤ◌, List, [], ◌∷◌, ◌++◌, length, take, drop, filter, get_or, refl, sym, ap, subst, ◌∙◌, inl, inr, ⊎_elim, arith}
use Rattle.std.specs.Prelude.{All, Contains, sum_by}
use Rattle.std.specs.Int.{int_min}
use Rattle.std.specs.List.{AllByRecursion}
use Rattle.std.proofs.lemmas.Bool.{cases_lt, lt-ltb, le-ltb}
use Rattle.std.proofs.lemmas.Int.{ints, clamps}
use Rattle.std.proofs.lemmas.List.{length-take, take-append-drop}
use Rattle.std.proofs.lemmas.List.Elements.{recursion_from_All}
use Rattle.slot_core.specs.declared.jobs.Job.{Job}
use Rattle.slot_core.specs.declared.jobs.Span.{Span}
use Rattle.slot_core.specs.Keeping.Plans.{AreInDeadlineOrder}
use Rattle.slot_core.specs.Runs.Rising.{AreRising, last_point}
use Rattle.slot_core.specs.Runs.Spans.{slack, span_at, spans_between}
use Rattle.slot_facts.proofs.Lists.Members.{Has, Has-from_Contains}
use Rattle.spare_capacity.specs.Recurrence.{filled, first_spare, room, with_spare, FollowOn, AreConsecutive}
use Rattle.interval_build.specs.Rows.{rows_between}
use Rattle.interval_build.proofs.Due.{is_due_after, work_between-le}
use Rattle.interval_build.proofs.Filled.{AreDueAt, filled-rows_between, last_point-above, length-rows_between}
use Rattle.interval_build.proofs.Least.{IsLeast-least}
use Rattle.trace_verify.specs.Lacks.{lack}
use Rattle.trace_verify.proofs.LackFacts.{AreDueFrom, AreDueBy, least-lack}
use Rattle.scene_steps.proofs.Rows.Cycles.{at_most_last}
use Rattle.scene_steps.proofs.Rows.NextRows.{rows_between-append}

-- a span of one slot that borrows so many
abbrev pub lacking_span : ℕ → ℕ → Span
lacking_span start n = record { start = start; end = start + 1; work = n + 1; spare = pos 0 }

-- what the first of filled spans borrows
abbrev pub borrowed : List Span → ℤ
borrowed spans = int_min (pos 0) (first_spare (filled spans))

-- spans before spans that borrow alike borrow alike
borrowed-append : (xs ys zs : List Span) → borrowed ys ≡ borrowed zs → borrowed (xs ++ ys) ≡ borrowed (xs ++ zs)
borrowed-append [] ys zs same = same
borrowed-append (x ∷ xs) ys zs same =
    ap (λ z. int_min (pos 0) (room x +ℤ z)) (borrowed-append xs ys zs same)

-- and they are filled alike
pub take-filled : (xs ys zs : List Span) → borrowed ys ≡ borrowed zs → take (length xs) (filled (xs ++ ys)) ≡ take (length xs) (filled (xs ++ zs))
take-filled [] ys zs same = refl
take-filled (x ∷ xs) ys zs same =
    cons_both (with_spare x (first_spare (filled (xs ++ ys)))) (with_spare x (first_spare (filled (xs ++ zs)))) (take (length xs) (filled (xs ++ ys))) (take (length xs) (filled (xs ++ zs)))
    (ap (λ z. record x { spare = room x +ℤ z }) (borrowed-append xs ys zs same))
    (take-filled xs ys zs same)
  where
    cons_both : (a b : Span) (more others : List Span) → a ≡ b → more ≡ others → ◌≡◌ {A = List Span} (a ∷ more) (b ∷ others)
    cons_both a b more others p q = cc

-- the first of the spans between points are those between the first points
take-spans_between : (jobs : List Job) (end s n : ℕ) (points : List ℕ) → take n (spans_between jobs end s points) ≡ spans_between jobs end s (take n points)
take-spans_between jobs end s zero points = refl
take-spans_between jobs end s (suc n) [] = refl
take-spans_between jobs end s (suc n) (p ∷ points) =
    ap (λ (spans : List Span). span_at jobs end s p ∷ spans) (take-spans_between jobs end p n points)

-- the first points rise, and the others from the last of them
pub AreRising-front : (s : ℕ) (xs ys : List ℕ) → AreRising s (xs ++ ys) → AreRising s xs
AreRising-front s [] ys rising = tt
AreRising-front s (x ∷ xs) ys rising = (rising.0, AreRising-front x xs ys rising.1)

AreRising-rest : (s : ℕ) (xs ys : List ℕ) → AreRising s (xs ++ ys) → AreRising (last_point s xs) ys
AreRising-rest s [] ys rising = rising
AreRising-rest s (x ∷ xs) ys rising = AreRising-rest x xs ys rising.1

-- each job is due by the last of the first points or at one of the others
AreDueAt-rest : (jobs : List Job) (s : ℕ) (xs ys : List ℕ) → AreRising s (xs ++ ys) → AreDueAt jobs s (xs ++ ys) → AreDueAt jobs (last_point s xs) ys
AreDueAt-rest [] s xs ys rising due = tt
AreDueAt-rest (j ∷ jobs) s xs ys rising due = (by_points s xs rising due.0, AreDueAt-rest jobs s xs ys rising due.1)
  where
    by_points : (s : ℕ) (xs : List ℕ) → AreRising s (xs ++ ys) → (j.dl ≤ s) ⊎ Has (xs ++ ys) j.dl → (j.dl ≤ last_point s xs) ⊎ Has ys j.dl
    by_points s [] rising due = due
    by_points s (x ∷ xs) rising (inl past) = by_points x xs rising.1 (inl (omega (arith, rising.0)))
    by_points s (x ∷ xs) rising (inr (inl at)) = by_points x xs rising.1 (inl (omega arith))
    by_points s (x ∷ xs) rising (inr (inr among)) = by_points x xs rising.1 (inr among)

-- a point is at least the first of points that rise from it
Has-from_first : (next : ℕ) (points : List ℕ) (x : ℕ) → AreRising next points → Has (next ∷ points) x → next ≤ x
Has-from_first next points x rising (inl same) = omega arith
Has-from_first next [] x rising (inr among) = absurd among
Has-from_first next (p ∷ points) x rising (inr among) = omega (arith, rising.0, Has-from_first p points x rising.1 among)

-- the jobs due after a time are due at one of the points
each_later : (e : ℕ) (points : List ℕ) (jobs : List Job) → AreRising e points → AreDueAt jobs e points → AllByRecursion (λ (j : Job). Has points j.dl) (filter (is_due_after e) jobs)
each_later e points [] rising due = tt
each_later e points (j ∷ jobs) rising due =
    ⊎_elim
    (λ after. rw (lt-ltb e j.dl after) (⊎_elim (λ past. absurd (omega arith)) (λ at. at) due.0, each_later e points jobs rising due.1))
    (λ past. rw (le-ltb e j.dl past) (each_later e points jobs rising due.1))
    (cases_lt e j.dl)

-- the front of a list that has it
take-front : (xs ys : List ℕ) → take (length xs) (xs ++ ys) ≡ xs
take-front [] ys = refl
take-front (x ∷ xs) ys = ap (λ zs. x ∷ zs) (take-front xs ys)

module _ (jobs : List Job) (e : ℕ) (ordered : AreInDeadlineOrder (filter (is_due_after e) jobs)) where
  -- the jobs due later
  abbrev rest : List Job
  rest = filter (is_due_after e) jobs

  -- a span that lacks what they lack borrows that
  borrowed-lacking : borrowed (lacking_span e (lack e rest) ∷ []) ≡ neg_ℤ (pos (lack e rest))
  borrowed-lacking = plain (lack e rest)
    where
      plain : (n : ℕ) → borrowed (lacking_span e n ∷ []) ≡ neg_ℤ (pos n)
      plain n = omega (arith, ints, clamps)

  -- the spans between later points borrow what they lack
  borrowed-rest : (points : List ℕ) → AreRising e points → AreDueAt jobs e points → borrowed (rows_between jobs e points) ≡ neg_ℤ (pos (lack e rest))
  borrowed-rest [] rising due =
      ap (λ js. neg_ℤ (pos (lack e js))) (sym (none_later jobs due))
    where
      none_later : (js : List Job) → AreDueAt js e [] → filter (is_due_after e) js ≡ []
      none_later [] due = refl
      none_later (j ∷ js) due = rw (le-ltb e j.dl (⊎_elim (λ past. past) (λ none. absurd none) due.0)) (none_later js due.1)
  borrowed-rest (next ∷ points) rising due =
      let last = last_point next points in
      let within = last_point-above next points rising.1 in
      let least = IsLeast-least (slack jobs e) next last within in
      let later = each_later e (next ∷ points) jobs rising due in
      ap (λ spans. int_min (pos 0) (first_spare spans)) (filled-rows_between jobs e (next ∷ points) rising due)
      ∙ least-lack jobs e next last _ rising.0 within ordered (from_next rest later) (by_last rest later) least
    where
      from_next : (js : List Job) → AllByRecursion (λ (j : Job). Has (next ∷ points) j.dl) js → AreDueFrom next js
      from_next [] all = tt
      from_next (j ∷ js) all = (Has-from_first next points j.dl rising.1 all.0, from_next js all.1)

      by_last : (js : List Job) → AllByRecursion (λ (j : Job). Has (next ∷ points) j.dl) js → AreDueBy (last_point next points) js
      by_last [] all = tt
      by_last (j ∷ js) all = (at_most_last e (next ∷ points) j.dl rising all.0, by_last js all.1)

module _ (jobs : List Job) (t : ℕ) (front later : List ℕ) (rising : AreRising t (front ++ later)) (due : AreDueAt jobs t (front ++ later)) where
  -- the last of the first points
  abbrev last : ℕ
  last = last_point t front

  -- what the jobs due after it lack
  abbrev lacked : ℕ
  lacked = lack last (filter (is_due_after last) jobs)

  -- with a span that lacks that behind them the first spans are filled
  pub first_spans : AreInDeadlineOrder (filter (is_due_after last) jobs) → take (length front) (filled (rows_between jobs t front ++ lacking_span last lacked ∷ [])) ≡ spans_between jobs (last_point t (front ++ later)) t front
  first_spans ordered =
      let rows = rows_between jobs t front in
      let behind = rows_between jobs last later in
      let alike = borrowed-lacking jobs last ordered ∙ sym (borrowed-rest jobs last ordered later (AreRising-rest t front later rising) (AreDueAt-rest jobs t front later rising due)) in
      let count = length-rows_between jobs t front in
      let whole = ap filled (sym (rows_between-append jobs t front later)) ∙ filled-rows_between jobs t (front ++ later) rising due in
      ap (λ n. take n (filled (rows ++ lacking_span last lacked ∷ []))) (sym count)
      ∙ take-filled rows (lacking_span last lacked ∷ []) behind alike
      ∙ ap (λ n. take n (filled (rows ++ behind))) count
      ∙ ap (take (length front)) whole
      ∙ take-spans_between jobs (last_point t (front ++ later)) t (length front) (front ++ later)
      ∙ ap (spans_between jobs (last_point t (front ++ later)) t) (take-front front later)

-- the first of rising points rise
pub AreRising-take : (s n : ℕ) (points : List ℕ) → AreRising s points → AreRising s (take n points)
AreRising-take s zero points rising = tt
AreRising-take s (suc n) [] rising = tt
AreRising-take s (suc n) (p ∷ points) rising = (rising.0, AreRising-take p n points rising.1)

-- and the last of them is no later than the last of all
pub last_point-take : (s n : ℕ) (points : List ℕ) → AreRising s points → last_point s (take n points) ≤ last_point s points
last_point-take s zero points rising = last_point-above s points rising
last_point-take s (suc n) [] rising = omega arith
last_point-take s (suc n) (p ∷ points) rising = last_point-take p n points rising.1

-- the last point by its place
last_point-at : (s d n : ℕ) (points : List ℕ) → length points ≡ suc n → get_or points n d ≡ last_point s points
last_point-at s d n [] count = absurd (omega arith)
last_point-at s d zero (p ∷ []) count = refl
last_point-at s d (suc n) (p ∷ []) count = absurd (omega arith)
last_point-at s d zero (p ∷ (q ∷ points)) count = absurd (omega arith)
last_point-at s d (suc n) (p ∷ (q ∷ points)) count = last_point-at p d n (q ∷ points) (omega arith)

pub last_point-read : (s : ℕ) (points : List ℕ) → get_or points (length points - 1) s ≡ last_point s points
last_point-read s [] = refl
last_point-read s (p ∷ points) =
    let count : length (p ∷ points) - 1 ≡ length points = omega arith in
    ap (λ n. get_or (p ∷ points) n s) count ∙ last_point-at s s (length points) (p ∷ points) refl

-- the rows between points and a span that lacks slots behind them follow on
FollowOn-lacking : (jobs : List Job) (s n : ℕ) (points : List ℕ) → AreRising s points → last_point s points ≤ 2 ^ 40 → sum_by (λ (j : Job). j.left) jobs ≤ 2 ^ 40 → n < 2 ^ 40 → FollowOn s (rows_between jobs s points ++ lacking_span (last_point s points) n ∷ [])
FollowOn-lacking jobs s n [] rising near small few = (refl, omega arith, omega arith, omega arith, tt)
FollowOn-lacking jobs s n (e ∷ points) rising near small few =
    let above : e ≤ last_point e points = last_point-above e points rising.1 in
    (refl, omega (arith, rising.0), omega arith, omega (arith, work_between-le jobs s e), FollowOn-lacking jobs e n points rising.1 near small few)

pub AreConsecutive-lacking : (jobs : List Job) (s n : ℕ) (points : List ℕ) → AreRising s points → last_point s points ≤ 2 ^ 40 → sum_by (λ (j : Job). j.left) jobs ≤ 2 ^ 40 → n < 2 ^ 40 → AreConsecutive (rows_between jobs s points ++ lacking_span (last_point s points) n ∷ [])
AreConsecutive-lacking jobs s n [] rising near small few = FollowOn-lacking jobs s n [] rising near small few
AreConsecutive-lacking jobs s n (e ∷ points) rising near small few = FollowOn-lacking jobs s n (e ∷ points) rising near small few

-- a span made of what the later jobs lack
pub with_lacking : (jobs : List Job) (t end n : ℕ) (front : List ℕ) (made : Span) → end ≡ last_point t front → n ≡ lack end (filter (is_due_after end) jobs) → made ≡ lacking_span end n → rows_between jobs t front ++ made ∷ [] ≡ rows_between jobs t front ++ lacking_span (last_point t front) (lack (last_point t front) (filter (is_due_after (last_point t front)) jobs)) ∷ []
with_lacking jobs t end n front made ends lacks is =
    ap
    (λ (span : Span). rows_between jobs t front ++ span ∷ [])
    (is ∙ ap (lacking_span end) lacks ∙ ap (λ e. lacking_span e (lack e (filter (is_due_after e) jobs))) ends)

-- each job is due by the time or at a point
AreDueAt-from_all : (jobs : List Job) (s : ℕ) (points : List ℕ) → All (λ (j : Job). (j.dl ≤ s) ⊎ Contains points j.dl) jobs → AreDueAt jobs s points
AreDueAt-from_all jobs s points due =
    recursion_from_All (λ (j : Job). (j.dl ≤ s) ⊎ Has points j.dl) jobs
    (λ k d l. ⊎_elim inl (λ at. inr (Has-from_Contains points (get_or jobs k d).dl at)) (due k d l))

-- the first spans by their number
pub first_spans-at : (jobs : List Job) (t n : ℕ) (points : List ℕ) → n ≤ length points → AreRising t points → All (λ (j : Job). (j.dl ≤ t) ⊎ Contains points j.dl) jobs → AreInDeadlineOrder (filter (is_due_after (last_point t (take n points))) jobs) → take n (filled (rows_between jobs t (take n points) ++ lacking_span (last_point t (take n points)) (lack (last_point t (take n points)) (filter (is_due_after (last_point t (take n points))) jobs)) ∷ [])) ≡ spans_between jobs (last_point t points) t (take n points)
first_spans-at jobs t n points within rising due ordered =
    let front = take n points in
    let later = drop n points in
    let whole = take-append-drop n points in
    let rises = subst (AreRising t) (sym whole) rising in
    let at = subst (AreDueAt jobs t) (sym whole) (AreDueAt-from_all jobs t points due) in
    let last = last_point t front in
    let rows = rows_between jobs t front ++ lacking_span last (lack last (filter (is_due_after last) jobs)) ∷ [] in
    let count : n ≡ length front = omega (arith, length-take n points) in
    ap (λ k. take k (filled rows)) count ∙ first_spans jobs t front later rises at ordered ∙ ap (λ ps. spans_between jobs (last_point t ps) t front) whole
