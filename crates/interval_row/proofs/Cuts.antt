-- A span that becomes two: only the first of the two, and the one after it, may then be wrong.
use Rattle.std.proofs.Common.{◌≡◌, ℕ, zero, suc, ◌<◌, ◌≤◌, ℤ, pos, List, [], ◌∷◌, length, get_or, cond, ltb, ◌&&◌, ◌||◌, inl, inr, refl, sym, ◌∙◌, ap, arith}
use Rattle.std.specs.Int.{int_min}
use Rattle.std.proofs.lemmas.Int.{ints, clamps}
use Rattle.std.proofs.lemmas.Bool.{cases_lt, lt-ltb, le-ltb, ltb-true, and_left, and_right, and_parts, cond_both}
use Rattle.slot_core.specs.declared.jobs.Span.{Span}
use Rattle.spare_capacity.specs.Recurrence.{filled, first_spare, with_spare, FollowOn, first_start, last_end}
use Rattle.spare_capacity.proofs.Free.{rest-filled}
use Rattle.spare_capacity.proofs.Steps.{no_row}
use Rattle.spare_capacity.specs.PlanSpans.{AreProper}
use Rattle.interval_row.specs.Changes.{apart_from, cut, part_before, part_from}
use Rattle.interval_row.specs.Spans.{place_of, HoldsInside}
use Rattle.interval_row.proofs.Fillings.{filled-first, with_spare-LendsSame, LendsSame}

-- the rows, where the one at this place is two
abbrev pub halved : ℕ → ℕ → List Span → List Span
halved place at [] = []
halved zero at (s ∷ ss) = part_before at s ∷ part_from at s ∷ ss
halved (suc place) at (s ∷ ss) = s ∷ halved place at ss

-- the span that holds `at` inside is the one at its place
cut-place_of : (start at : ℕ) (rows : List Span) → FollowOn start rows → HoldsInside at (place_of at rows) rows → cut at rows ≡ halved (place_of at rows) at rows
cut-place_of start at [] h inside = refl
cut-place_of start at (s ∷ ss) h inside =
    elim (cases_lt s.end at) [
      | inl before ↦
          let more : HoldsInside at (place_of at ss) ss = rw (lt-ltb s.end at before) at inside in
          rw (and_right (ltb s.start at) (ltb at s.end) (le-ltb at s.end (omega arith)), lt-ltb s.end at before) (ap (λ xs. s ∷ xs) (cut-place_of s.end at ss h.4 more))
      | inr after ↦
          let here : (s.start < at) × (at < s.end) = rw (le-ltb s.end at after) at inside in
          rw (lt-ltb s.start at here.0, lt-ltb at s.end here.1, le-ltb s.end at after) refl
    ]

pub cut-halved : (start at place : ℕ) (rows : List Span) → FollowOn start rows → place ≡ place_of at rows → HoldsInside at place rows → cut at rows ≡ halved place at rows
cut-halved start at place rows h found inside =
    let here : HoldsInside at (place_of at rows) rows = rw found at inside in
    rw found (cut-place_of start at rows h here)

-- spans that start at `at` or later are not cut
cut-later : (start at : ℕ) (rows : List Span) → FollowOn start rows → at ≤ start → cut at rows ≡ rows
cut-later start at [] h l = refl
cut-later start at (s ∷ ss) h l =
    rw (and_left (ltb s.start at) (ltb at s.end) (le-ltb s.start at (omega (arith, h.0)))) (ap (λ xs. s ∷ xs) (cut-later s.end at ss h.4 (omega (arith, h.0, h.1))))

-- where a span ends at `at`, nothing is cut
pub cut-same : (start at : ℕ) (rows : List Span) → FollowOn start rows → (get_or rows (place_of at rows) no_row).end ≡ at → cut at rows ≡ rows
cut-same start at [] h ends = refl
cut-same start at (s ∷ ss) h ends =
    elim (cases_lt s.end at) [
      | inl before ↦
          let more : (get_or ss (place_of at ss) no_row).end ≡ at = rw (lt-ltb s.end at before) at ends in
          rw (and_right (ltb s.start at) (ltb at s.end) (le-ltb at s.end (omega arith))) (ap (λ xs. s ∷ xs) (cut-same s.end at ss h.4 more))
      | inr after ↦
          let here : s.end ≡ at = rw (le-ltb s.end at after) at ends in
          rw (and_right (ltb s.start at) (ltb at s.end) (le-ltb at s.end (omega arith))) (ap (λ xs. s ∷ xs) (cut-later s.end at ss h.4 (omega arith)))
    ]

-- a time after the start and up to the last end has a place
pub place_of-within : (start at : ℕ) (rows : List Span) → FollowOn start rows → start < at → at ≤ last_end start rows → place_of at rows < length rows
place_of-within start at [] h later within = absurd (omega arith)
place_of-within start at (s ∷ ss) h later within =
    elim (cases_lt s.end at) [
      | inl before ↦ rw (lt-ltb s.end at before) (omega (arith, place_of-within s.end at ss h.4 before within))
      | inr after ↦ rw (le-ltb s.end at after) (omega arith)
    ]

-- and it lies inside the span there, unless that ends at it
pub HoldsInside-place_of : (start at : ℕ) (rows : List Span) → FollowOn start rows → start < at → at ≤ last_end start rows → ((get_or rows (place_of at rows) no_row).end ≡ at → ⊥) → HoldsInside at (place_of at rows) rows
HoldsInside-place_of start at [] h later within other = absurd (omega arith)
HoldsInside-place_of start at (s ∷ ss) h later within other =
    elim (cases_lt s.end at) [
      | inl before ↦
          let more : (get_or ss (place_of at ss) no_row).end ≡ at → ⊥ = rw (lt-ltb s.end at before) at other in
          rw (lt-ltb s.end at before) (HoldsInside-place_of s.end at ss h.4 before within more)
      | inr after ↦
          let here : s.end ≡ at → ⊥ = rw (le-ltb s.end at after) at other in
          rw (le-ltb s.end at after) (omega (arith, h.0), omega arith)
    ]

-- the two parts lend what the one span lent
halves_lend : (at : ℕ) (s : Span) (later : ℤ) → s.start < at → at < s.end → LendsSame (with_spare (part_before at s) (with_spare (part_from at s) later).spare).spare (with_spare s later).spare
halves_lend at s later low high = omega (arith, ints, clamps)

-- rows of which one is two lend what they lent before
pub LendsSame-halved : (place at : ℕ) (rows : List Span) → rows ≡ filled rows → HoldsInside at place rows → LendsSame (first_spare (filled (halved place at rows))) (first_spare rows)
LendsSame-halved place at [] e inside = elim inside [ ]
LendsSame-halved zero at (s ∷ ss) e inside =
    halves_lend at s (first_spare (filled ss)) inside.0 inside.1 ∙ ap (λ xs. int_min (pos 0) (first_spare xs)) (sym e)
LendsSame-halved (suc place) at (s ∷ ss) e inside =
    let rest : LendsSame (first_spare (filled (halved place at ss))) (first_spare ss) = LendsSame-halved place at ss (rest-filled s ss e) inside in
    let first : with_spare s (first_spare (filled (halved place at ss))) ≡ s = with_spare-LendsSame s (first_spare (filled (halved place at ss))) (first_spare ss) rest ∙ sym (filled-first s ss e) in
    ap (λ (x : Span). int_min (pos 0) x.spare) first

-- cut spans are consecutive, proper, as many or one more
pub FollowOn-cut : (start at : ℕ) (rows : List Span) → FollowOn start rows → FollowOn start (cut at rows)
FollowOn-cut start at [] h = h
FollowOn-cut start at (s ∷ ss) h =
    cond_both (ltb s.start at && ltb at s.end) (part_before at s ∷ part_from at s ∷ ss) (s ∷ cut at ss) (FollowOn start)
    (λ t.
    let low : s.start < at = ltb-true s.start at (and_parts (ltb s.start at) (ltb at s.end) t).0 in
    let high : at < s.end = ltb-true at s.end (and_parts (ltb s.start at) (ltb at s.end) t).1 in
    (h.0, omega arith, omega (arith, h.2), omega arith, (refl, omega arith, omega (arith, h.2), h.3, h.4)))
    (λ t. (h.0, h.1, h.2, h.3, FollowOn-cut s.end at ss h.4))

pub AreProper-cut : (at : ℕ) (rows : List Span) → AreProper rows → AreProper (cut at rows)
AreProper-cut at [] h = h
AreProper-cut at (s ∷ ss) h =
    cond_both (ltb s.start at && ltb at s.end) (part_before at s ∷ part_from at s ∷ ss) (s ∷ cut at ss) AreProper
    (λ t. (ltb-true s.start at (and_parts (ltb s.start at) (ltb at s.end) t).0, (ltb-true at s.end (and_parts (ltb s.start at) (ltb at s.end) t).1, h.1)))
    (λ t. (h.0, AreProper-cut at ss h.1))

pub length-cut : (at : ℕ) (rows : List Span) → (length rows ≤ length (cut at rows)) × (length (cut at rows) ≤ suc (length rows))
length-cut at [] = (omega arith, omega arith)
length-cut at (s ∷ ss) =
    cond_both (ltb s.start at && ltb at s.end) (part_before at s ∷ part_from at s ∷ ss) (s ∷ cut at ss) (λ xs. (suc (length ss) ≤ length xs) × (length xs ≤ suc (suc (length ss))))
    (λ t. (omega arith, omega arith))
    (λ t. (omega (arith, (length-cut at ss).0), omega (arith, (length-cut at ss).1)))

pub first_start-cut : (at : ℕ) (rows : List Span) → first_start (cut at rows) ≡ first_start rows
first_start-cut at [] = refl
first_start-cut at (s ∷ ss) = cond_both (ltb s.start at && ltb at s.end) (part_before at s ∷ part_from at s ∷ ss) (s ∷ cut at ss) (λ xs. first_start xs ≡ s.start) (λ t. refl) (λ t. refl)

-- a span before the cut keeps its capacity
same_first : (at : ℕ) (s : Span) (ss : List Span) → s ∷ ss ≡ filled (s ∷ ss) → LendsSame (first_spare (filled (cut at ss))) (first_spare ss) → with_spare s (first_spare (filled (cut at ss))) ≡ s
same_first at s ss e same = with_spare-LendsSame s (first_spare (filled (cut at ss))) (first_spare ss) same ∙ sym (filled-first s ss e)

-- rows in two lend what they lent before
LendsSame-cut : (at : ℕ) (rows : List Span) → rows ≡ filled rows → LendsSame (first_spare (filled (cut at rows))) (first_spare rows)
LendsSame-cut at [] e = refl
LendsSame-cut at (s ∷ ss) e =
    cond_both (ltb s.start at && ltb at s.end) (part_before at s ∷ part_from at s ∷ ss) (s ∷ cut at ss) (λ xs. LendsSame (first_spare (filled xs)) s.spare)
    (λ t.
    let low : s.start < at = ltb-true s.start at (and_parts (ltb s.start at) (ltb at s.end) t).0 in
    let high : at < s.end = ltb-true at s.end (and_parts (ltb s.start at) (ltb at s.end) t).1 in
    halves_lend at s (first_spare (filled ss)) low high ∙ ap (λ xs. int_min (pos 0) (first_spare xs)) (sym e))
    (λ t. ap (λ (x : Span). int_min (pos 0) x.spare) (same_first at s ss e (LendsSame-cut at ss (rest-filled s ss e))))

-- all spans but the one that is cut stay, with their capacities
pub apart_from-cut : (at : ℕ) (rows : List Span) → rows ≡ filled rows → apart_from at (filled (cut at rows)) ≡ apart_from at rows
apart_from-cut at [] e = refl
apart_from-cut at (s ∷ ss) e =
    cond_both (ltb s.start at && ltb at s.end) (part_before at s ∷ part_from at s ∷ ss) (s ∷ cut at ss) (λ xs. apart_from at (filled xs) ≡ apart_from at (s ∷ ss))
    (λ t.
    let low : s.start < at = ltb-true s.start at (and_parts (ltb s.start at) (ltb at s.end) t).0 in
    let high : at < s.end = ltb-true at s.end (and_parts (ltb s.start at) (ltb at s.end) t).1 in
    rw (le-ltb at at (omega arith), le-ltb at s.start (omega arith), le-ltb s.end at (omega arith)) (ap (apart_from at) (sym (rest-filled s ss e))))
    (λ t.
    let first : with_spare s (first_spare (filled (cut at ss))) ≡ s = same_first at s ss e (LendsSame-cut at ss (rest-filled s ss e)) in
    ap (λ x. apart_from at (x ∷ filled (cut at ss))) first ∙ ap (λ xs. cond (ltb s.end at || ltb at s.start) (s ∷ xs) xs) (apart_from-cut at ss (rest-filled s ss e)))
