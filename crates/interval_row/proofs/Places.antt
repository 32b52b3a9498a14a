-- The place of the first span that ends at x or later.
use Rattle.std.proofs.Common.{◌≡◌, ℕ, zero, suc, ◌<◌, ◌≤◌, ◌^◌, true, false, List, [], ◌∷◌, length, get_or, Option, Some, None, IsSome, IsSomeAnd, eqb, inl, inr, refl, ap, subst, sym, arith}
use Rattle.std.proofs.lemmas.Bool.{false≢true, cases_eq, eq-eqb, ne_eqb, lt-ltb, le-ltb}
use Rattle.std.proofs.lemmas.Option.{get_or_from_slice_get, slice_get_within}
use Rattle.std.specs.Prelude.{slice_get}
use Rattle.slot_core.specs.declared.jobs.Span.{Span}
use Rattle.spare_capacity.specs.PlanSpans.{AreProper}
use Rattle.spare_capacity.specs.Recurrence.{FollowOn, last_end}
use Rattle.spare_capacity.proofs.Steps.{no_row}
use Rattle.interval_row.specs.Changes.{span_ending, with_work}
use Rattle.interval_row.specs.Spans.{place_of, with_work_at}

-- no span of consecutive ones ends before they start
end-le : (start : ℕ) (rows : List Span) (k : ℕ) (d : Span) → FollowOn start rows → k < length rows → start ≤ (get_or rows k d).end
end-le start [] k d h l = elim l [ ]
end-le start (s ∷ ss) zero d h l = omega (arith, h.0, h.1)
end-le start (s ∷ ss) (suc k) d h l = omega (arith, h.0, h.1, end-le s.end ss k d h.4 (omega arith))

-- and each proper one ends after that
end-lt : (start : ℕ) (rows : List Span) (k : ℕ) → FollowOn start rows → AreProper rows → k < length rows → start < (get_or rows k no_row).end
end-lt start [] k h proper l = elim l [ ]
end-lt start (s ∷ ss) zero h proper l = omega (arith, h.0, proper.0)
end-lt start (s ∷ ss) (suc k) h proper l = omega (arith, h.0, h.1, end-lt s.end ss k h.4 proper.1 (omega arith))

-- the span at a place is the one that ends there, where it does
pub place_of-ending : (start x : ℕ) (rows : List Span) (k : ℕ) → FollowOn start rows → AreProper rows → k < length rows → (get_or rows k no_row).end ≡ x → k ≡ place_of x rows
place_of-ending start x [] k h proper l ends = elim l [ ]
place_of-ending start x (s ∷ ss) zero h proper l ends = rw (le-ltb s.end x (omega (arith, ends))) refl
place_of-ending start x (s ∷ ss) (suc k) h proper l ends =
    let later : s.end < (get_or ss k no_row).end = end-lt s.end ss k h.4 proper.1 (omega arith) in
    rw (lt-ltb s.end x (omega (arith, later, ends))) (ap suc (place_of-ending s.end x ss k h.4 proper.1 (omega arith) ends))

-- nor is the last end before the start
pub last_end-ge : (start : ℕ) (rows : List Span) → FollowOn start rows → start ≤ last_end start rows
last_end-ge start [] h = omega arith
last_end-ge start (s ∷ ss) h = omega (arith, h.0, h.1, last_end-ge s.end ss h.4)

-- no work is above 2 ^ 40
pub work-le : (start : ℕ) (rows : List Span) (k : ℕ) → FollowOn start rows → k < length rows → (get_or rows k no_row).work ≤ 2 ^ 40
work-le start [] k h l = elim l [ ]
work-le start (s ∷ ss) zero h l = h.3
work-le start (s ∷ ss) (suc k) h l = work-le s.end ss k h.4 (omega arith)

-- a span neither starts nor ends after the last end
pub end-le-last_end : (start : ℕ) (rows : List Span) (k : ℕ) → FollowOn start rows → k < length rows → ((get_or rows k no_row).start ≤ last_end start rows) × ((get_or rows k no_row).end ≤ last_end start rows)
end-le-last_end start [] k h l = elim l [ ]
end-le-last_end start (s ∷ ss) zero h l = (omega (arith, h.1, last_end-ge s.end ss h.4), last_end-ge s.end ss h.4)
end-le-last_end start (s ∷ ss) (suc k) h l = end-le-last_end s.end ss k h.4 (omega arith)

-- the span that ends at a deadline: where it stands, what holds of it, and how its work changes
pub record IsDueAt (deadline : ℕ) (P : Span → Type 0) (rows : List Span) (place : ℕ) : Type 0 where
  pub within : place < length rows
  pub ends : (get_or rows place no_row).end ≡ deadline
  pub holds : P (get_or rows place no_row)
  pub changed : (f : ℕ → ℕ) → with_work f deadline rows ≡ with_work_at place (f (get_or rows place no_row).work) rows

-- what is there meets what all meet
IsSomeAnd-IsSome : (o : Option Span) → IsSome o → IsSomeAnd o (λ s. Unit {0})
IsSomeAnd-IsSome None found = absurd (false≢true found)
IsSomeAnd-IsSome (Some s) found = tt

-- a span that is found ends at the deadline, so no span before it does
pub IsDueAt-span_ending : (start : ℕ) (rows : List Span) (deadline : ℕ) (P : Span → Type 0) → FollowOn start rows → IsSomeAnd (span_ending deadline rows) P → IsDueAt deadline P rows (place_of deadline rows)
IsDueAt-span_ending start [] deadline P h found = elim found [ ]
IsDueAt-span_ending start (s ∷ ss) deadline P h found =
    elim (cases_eq s.end deadline) [
      | inl here ↦
          let test : eqb s.end deadline ≡ true = eq-eqb s.end deadline here in
          let holds : P s = rw test at found in
          rw (le-ltb s.end deadline (omega arith)) (record { within = omega arith; ends = here; holds = holds; changed = λ f. rw test refl })
      | inr other ↦
          let test : eqb s.end deadline ≡ false = ne_eqb s.end deadline other in
          let rest : IsDueAt deadline P ss (place_of deadline ss) = IsDueAt-span_ending s.end ss deadline P h.4 (rw test at found) in
          let later : s.end ≤ (get_or ss (place_of deadline ss) no_row).end = end-le s.end ss (place_of deadline ss) no_row h.4 rest.within in
          let before : s.end < deadline = omega (arith, rest.ends) in
          rw (lt-ltb s.end deadline before)
          (record { within = omega (arith, rest.within); ends = rest.ends; holds = rest.holds; changed = λ f. rw test (ap (λ xs. s ∷ xs) (rest.changed f)) })
    ]

-- a span that ends there is the one at its place
pub ends-span_ending : (start : ℕ) (rows : List Span) (x : ℕ) → FollowOn start rows → IsSome (span_ending x rows) → (get_or rows (place_of x rows) no_row).end ≡ x
ends-span_ending start rows x h found =
    let due : IsDueAt x (λ s. Unit {0}) rows (place_of x rows) = IsDueAt-span_ending start rows x (λ s. Unit {0}) h (IsSomeAnd-IsSome (span_ending x rows) found) in
    due.ends

-- and the span at a place is the one that ends at its end
found-at : (start : ℕ) (rows : List Span) (k : ℕ) (P : Span → Type 0) → FollowOn start rows → AreProper rows → k < length rows → P (get_or rows k no_row) → IsSomeAnd (span_ending (get_or rows k no_row).end rows) P
found-at start [] k P h proper l holds = elim l [ ]
found-at start (s ∷ ss) zero P h proper l holds = rw (eq-eqb s.end s.end refl) holds
found-at start (s ∷ ss) (suc k) P h proper l holds =
    let later : s.end < (get_or ss k no_row).end = end-lt s.end ss k h.4 proper.1 (omega arith) in
    let other : s.end ≡ (get_or ss k no_row).end → ⊥ = λ e. omega (arith, e, later) in
    rw (ne_eqb s.end (get_or ss k no_row).end other) (found-at s.end ss k P h.4 proper.1 (omega arith) holds)

pub span_ending-at : (start : ℕ) (rows : List Span) (k : ℕ) (s : Span) (P : Span → Type 0) → FollowOn start rows → AreProper rows → slice_get rows k ≡ Some s → P s → IsSomeAnd (span_ending s.end rows) P
span_ending-at start rows k s P h proper at holds =
    let same : get_or rows k no_row ≡ s = get_or_from_slice_get rows k s no_row at in
    subst (λ (x : Span). IsSomeAnd (span_ending x.end rows) P) same (found-at start rows k P h proper (slice_get_within rows k s at) (subst P (sym same) holds))
