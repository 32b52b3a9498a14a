-- Rows stay rows: some, consecutive, proper, filled and few.
use Rattle.std.proofs.Common.{◌≡◌, ℕ, suc, ◌+◌, ◌<◌, ◌≤◌, ◌^◌, List, [], ◌∷◌, length, map, eqb, refl, sym, subst, arith}
use Rattle.std.proofs.lemmas.Bool.{cond_both, eqb-true, eqb-false}
use Rattle.slot_core.specs.declared.jobs.Span.{Span}
use Rattle.spare_capacity.specs.Recurrence.{filled, FollowOn, first_start, last_end}
use Rattle.spare_capacity.specs.PlanSpans.{AreProper, ArePlanSpans}
use Rattle.interval_row.specs.Changes.{after_pass, appended, cut, shifted}
use Rattle.interval_row.specs.Spans.{AreFilled, with_work_at}
use Rattle.interval_row.proofs.Cuts.{AreProper-cut, FollowOn-cut, length-cut, first_start-cut}
use Rattle.interval_row.proofs.Cycles.{filled-appended, length-appended, last_end-some, FollowOn-append, FollowOn-shifted, AreProper-append, AreProper-shifted, first_start-append, AreCopies}
use Rattle.spare_capacity.proofs.Filled.{filled-filled, FollowOn-filled}
use Rattle.interval_row.proofs.Fillings.{length-filled, first_start-filled, AreProper-filled}
use Rattle.interval_row.proofs.Works.{length-with_work_at, first_start-with_work_at, AreProper-with_work_at, FollowOn-with_work_at}

-- what rows are before their capacities are set
pub record AreBare (rows : List Span) : Type 0 where
  pub some : 1 ≤ length rows
  pub consecutive : FollowOn (first_start rows) rows
  pub proper : AreProper rows
  pub few : length rows ≤ 2 ^ 20

pub AreFilled-AreBare : (rows : List Span) → AreBare rows → AreFilled (filled rows)
AreFilled-AreBare rows bare =
    record {
      some = omega (arith, bare.some, length-filled rows);
      consecutive = rw (first_start-filled rows) (FollowOn-filled (first_start rows) rows bare.consecutive);
      proper = AreProper-filled rows bare.proper;
      filled = sym (filled-filled rows);
      few = omega (arith, bare.few, length-filled rows);
    }

-- what follows on from 0 follows on from its start
follow_from_zero : (rows : List Span) → FollowOn 0 rows → FollowOn (first_start rows) rows
follow_from_zero [] h = h
follow_from_zero (s ∷ ss) h = (refl, h.1, h.2, h.3, h.4)

pub starts-at_zero : (rows : List Span) → FollowOn 0 rows → first_start rows ≡ 0
starts-at_zero [] h = refl
starts-at_zero (s ∷ ss) h = h.0

-- and starts there
pub first_start-FollowOn : (start : ℕ) (rows : List Span) → FollowOn start rows → 1 ≤ length rows → first_start rows ≡ start
first_start-FollowOn start [] h some = absurd (omega arith)
first_start-FollowOn start (s ∷ ss) h some = h.0

-- a plan's spans are rows
pub AreFilled-ArePlanSpans : (spans : List Span) → ArePlanSpans spans → length spans ≤ 2 ^ 20 → AreFilled spans
AreFilled-ArePlanSpans spans plan few =
    record { some = plan.some; consecutive = follow_from_zero spans plan.consecutive; proper = plan.proper; filled = plan.filled; few = few }

-- a new work of one span
pub AreBare-with_work_at : (place work : ℕ) (rows : List Span) → work ≤ 2 ^ 40 → AreFilled rows → AreBare (with_work_at place work rows)
AreBare-with_work_at place work rows few h =
    record {
      some = omega (arith, h.some, length-with_work_at place work rows);
      consecutive = rw (first_start-with_work_at place work rows) (FollowOn-with_work_at place work (first_start rows) rows few h.consecutive);
      proper = AreProper-with_work_at place work rows h.proper;
      few = omega (arith, h.few, length-with_work_at place work rows);
    }

-- a cut span
pub AreBare-cut : (at : ℕ) (rows : List Span) → length rows < 2 ^ 20 → AreFilled rows → AreBare (cut at rows)
AreBare-cut at rows few h =
    record {
      some = omega (arith, h.some, (length-cut at rows).0);
      consecutive = rw (first_start-cut at rows) (FollowOn-cut (first_start rows) at rows h.consecutive);
      proper = AreProper-cut at rows h.proper;
      few = omega (arith, few, (length-cut at rows).1);
    }

-- the rows after the first, where there are some
AreBare-rest : (s : Span) (ss : List Span) → AreFilled (s ∷ ss) → s.end < last_end 0 (s ∷ ss) → AreBare ss
AreBare-rest s [] h more = absurd (omega arith)
AreBare-rest s (t ∷ ts) h more =
    let rest = h.consecutive.4 in
    record { some = omega arith; consecutive = (refl, rest.1, rest.2, rest.3, rest.4); proper = h.proper.1; few = omega (arith, h.few) }

-- one slot later
pub AreBare-after_pass : (rows : List Span) → AreFilled rows → first_start rows + 1 < last_end 0 rows → AreBare (after_pass rows)
AreBare-after_pass [] h more = absurd (omega (arith, h.some))
AreBare-after_pass (s ∷ ss) h more =
    cond_both (eqb (s.start + 1) s.end) ss (record s { start = s.start + 1 } ∷ ss) AreBare
    (λ t. AreBare-rest s ss h (omega (arith, eqb-true (s.start + 1) s.end t)))
    (λ t.
    let other : s.start + 1 ≡ s.end → ⊥ = eqb-false (s.start + 1) s.end t in
    let low : s.start < s.end = h.proper.0 in
    let next : s.start + 1 < s.end = omega arith in
    record {
      some = omega arith;
      consecutive = (refl, omega arith, omega (arith, h.consecutive.2), h.consecutive.3, h.consecutive.4);
      proper = (next, h.proper.1);
      few = omega (arith, h.few);
    })

-- and its rows start one slot later
pub first_start-after_pass : (rows : List Span) → AreFilled rows → first_start rows + 1 < last_end 0 rows → first_start (after_pass rows) ≡ first_start rows + 1
first_start-after_pass [] h more = absurd (omega (arith, h.some))
first_start-after_pass (s ∷ []) h more =
    cond_both (eqb (s.start + 1) s.end) [] (record s { start = s.start + 1 } ∷ []) (λ xs. first_start xs ≡ s.start + 1)
    (λ t. absurd (omega (arith, eqb-true (s.start + 1) s.end t)))
    (λ t. refl)
first_start-after_pass (s ∷ u ∷ us) h more =
    cond_both (eqb (s.start + 1) s.end) (u ∷ us) (record s { start = s.start + 1 } ∷ u ∷ us) (λ xs. first_start xs ≡ s.start + 1)
    (λ t. omega (arith, eqb-true (s.start + 1) s.end t, h.consecutive.4.0))
    (λ t. refl)

pub length-after_pass : (rows : List Span) → length (after_pass rows) ≤ length rows
length-after_pass [] = omega arith
length-after_pass (s ∷ ss) =
    cond_both (eqb (s.start + 1) s.end) ss (record s { start = s.start + 1 } ∷ ss) (λ xs. length xs ≤ suc (length ss)) (λ t. omega arith) (λ t. omega arith)

-- a plan's spans appended
pub AreFilled-appended : (spans rows : List Span) → ArePlanSpans spans → AreFilled rows → length rows + length spans ≤ 2 ^ 20 → AreFilled (appended spans rows)
AreFilled-appended spans rows plan h few =
    let by = last_end 0 rows in
    let same : last_end (first_start rows) rows ≡ by = last_end-some (first_start rows) 0 rows h.some in
    let zero_by : 0 + by ≡ last_end (first_start rows) rows = omega (arith, same) in
    let follow : FollowOn (last_end (first_start rows) rows) (map (shifted by) spans) = subst (λ n. FollowOn n (map (shifted by) spans)) zero_by (FollowOn-shifted 0 by spans plan.consecutive) in
    record {
      some = omega (arith, h.some, length-appended spans rows);
      consecutive = rw (first_start-append rows (map (shifted by) spans) h.some) (FollowOn-append (first_start rows) rows (map (shifted by) spans) h.consecutive follow);
      proper = AreProper-append rows (map (shifted by) spans) h.proper (AreProper-shifted by spans plan.proper);
      filled = filled-appended spans rows plan h.filled;
      few = omega (arith, few, length-appended spans rows);
    }

-- copies of a plan's spans are rows
pub AreFilled-AreCopies : (spans : List Span) (n : ℕ) (rows : List Span) → 1 ≤ length rows → length rows ≤ 2 ^ 20 → AreCopies spans n rows → AreFilled rows
AreFilled-AreCopies spans n rows some few h =
    record { some = some; consecutive = follow_from_zero rows h.consecutive; proper = h.proper; filled = h.filled; few = few }
