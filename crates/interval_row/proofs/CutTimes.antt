-- Spans before a border of a page, as the marks tell them.
use Rattle.std.proofs.Common.{◌≡◌, ℕ, zero, suc, ◌+◌, ◌-◌, ◌*◌, ◌/◌, ◌%◌, ◌<◌, ◌≤◌, ◌&&◌, true, false, cond, eqb, ltb, leb, List, [], ◌∷◌, length, take, Some, inl, inr, refl, sym, subst, ◌∙◌, ap, arith}
use Rattle.std.specs.Prelude.{sum_by, slice_get}
use Rattle.std.specs.List.{AllByRecursion}
use Rattle.std.proofs.lemmas.Bool.{cases_lt, cases_order, and_left, and_right, eq-eqb, ne_eqb, le-leb, lt-leb, le-ltb, lt-ltb}
use Rattle.std.proofs.lemmas.List.Sums.{count_by-le-length, sum_by-cons, sum_by-le-sum_by}
use Rattle.std.proofs.lemmas.Option.{same_Some, slice_get_within}
use Rattle.slot_core.specs.declared.jobs.Span.{Span}
use Rattle.spare_capacity.specs.Laws.{work_until}
use Rattle.spare_capacity.specs.Recurrence.{FollowOn, last_end}
use Rattle.spare_capacity.proofs.Slack.{work_until-before, work_until-ended, work_until-running}
use Rattle.interval_row.specs.declared.table.Front.{Front}
use Rattle.node_chain.specs.declared.marks.Mark.{Mark}
use Rattle.interval_row.specs.Changes.{ends_before}
use Rattle.interval_row.specs.Marks.{count_at, mark_index, page_of, works_at, works_in_page, IsMarked}
use Rattle.interval_row.specs.Spans.{place_of}
use Rattle.interval_row.specs.Tables.{works, IsFront}
use Rattle.interval_row.proofs.Places.{last_end-ge}

-- the works of the spans that end before y
abbrev pub works_before : ℕ → List Span → ℕ
works_before y spans = sum_by (λ (s : Span). cond (ltb s.end y) s.work 0) spans

pub ends_before-ended : (y : ℕ) (s : Span) (ss : List Span) → s.end < y → ends_before y (s ∷ ss) ≡ suc (ends_before y ss)
ends_before-ended y s ss early =
    sum_by-cons (λ (t : Span). cond (ltb t.end y) 1 0) s ss ∙ ap (λ b. cond b 1 0 + ends_before y ss) (lt-ltb s.end y early) ∙ omega arith

pub ends_before-later : (y : ℕ) (s : Span) (ss : List Span) → y ≤ s.end → ends_before y (s ∷ ss) ≡ ends_before y ss
ends_before-later y s ss late =
    sum_by-cons (λ (t : Span). cond (ltb t.end y) 1 0) s ss ∙ ap (λ b. cond b 1 0 + ends_before y ss) (le-ltb s.end y late) ∙ omega arith

pub works_before-ended : (y : ℕ) (s : Span) (ss : List Span) → s.end < y → works_before y (s ∷ ss) ≡ s.work + works_before y ss
works_before-ended y s ss early =
    sum_by-cons (λ (t : Span). cond (ltb t.end y) t.work 0) s ss ∙ ap (λ b. cond b s.work 0 + works_before y ss) (lt-ltb s.end y early)

pub works_before-later : (y : ℕ) (s : Span) (ss : List Span) → y ≤ s.end → works_before y (s ∷ ss) ≡ works_before y ss
works_before-later y s ss late =
    sum_by-cons (λ (t : Span). cond (ltb t.end y) t.work 0) s ss ∙ ap (λ b. cond b s.work 0 + works_before y ss) (le-ltb s.end y late) ∙ omega arith

-- none of consecutive spans ends before they start
pub ends_before-start : (start y : ℕ) (rows : List Span) → FollowOn start rows → y ≤ start → ends_before y rows ≡ 0
ends_before-start start y [] follow early = refl
ends_before-start start y (s ∷ ss) follow early =
    let late : y ≤ s.end = omega (arith, follow.0, follow.1) in
    ends_before-later y s ss late ∙ ends_before-start s.end y ss follow.4 late

pub works_before-start : (start y : ℕ) (rows : List Span) → FollowOn start rows → y ≤ start → works_before y rows ≡ 0
works_before-start start y [] follow early = refl
works_before-start start y (s ∷ ss) follow early =
    let late : y ≤ s.end = omega (arith, follow.0, follow.1) in
    works_before-later y s ss late ∙ works_before-start s.end y ss follow.4 late

-- no more end before a time than stand before its place
pub ends_before-place_of : (start y : ℕ) (rows : List Span) → FollowOn start rows → ends_before y rows ≤ place_of y rows
ends_before-place_of start y [] follow = omega arith
ends_before-place_of start y (s ∷ ss) follow =
    elim (cases_lt s.end y) [
      | inl early ↦
          let place : place_of y (s ∷ ss) ≡ suc (place_of y ss) = rw (lt-ltb s.end y early) refl in
          omega (arith, place, ends_before-ended y s ss early, ends_before-place_of s.end y ss follow.4)
      | inr late ↦ omega (arith, ends_before-later y s ss late, ends_before-start s.end y ss follow.4 late)
    ]

-- a time that has a place is at most the last end
pub place_of-reached : (start y : ℕ) (rows : List Span) → FollowOn start rows → place_of y rows < length rows → y ≤ last_end start rows
place_of-reached start y [] follow within = absurd (omega (arith, within))
place_of-reached start y (s ∷ ss) follow within =
    elim (cases_lt s.end y) [
      | inl early ↦
          let rest : suc (place_of y ss) < length (s ∷ ss) = rw (lt-ltb s.end y early) at within in
          place_of-reached s.end y ss follow.4 (omega (arith, rest))
      | inr late ↦ omega (arith, late, last_end-ge s.end ss follow.4)
    ]

-- the first spans, as many as end before a time, are those that do
pub works_before-first : (start y : ℕ) (rows : List Span) → FollowOn start rows → works_before y rows ≡ works (take (ends_before y rows) rows)
works_before-first start y [] follow = refl
works_before-first start y (s ∷ ss) follow =
    elim (cases_lt s.end y) [
      | inl early ↦
          works_before-ended y s ss early
          ∙ ap (λ n. s.work + n) (works_before-first s.end y ss follow.4)
          ∙ sym (sum_by-cons (λ (t : Span). t.work) s (take (ends_before y ss) ss))
          ∙ ap (λ n. works (take n (s ∷ ss))) (sym (ends_before-ended y s ss early))
      | inr late ↦
          works_before-later y s ss late
          ∙ works_before-start s.end y ss follow.4 late
          ∙ ap (λ n. works (take n (s ∷ ss))) (sym (ends_before-later y s ss late ∙ ends_before-start s.end y ss follow.4 late))
    ]

ends-le : (y z end : ℕ) → y ≤ z → ◌≤◌ (cond (ltb end y) 1 0) (cond (ltb end z) 1 0)
ends-le y z end l =
    elim (cases_lt end y) [
      | inl early ↦ rw (lt-ltb end y early, lt-ltb end z (omega arith)) (omega arith)
      | inr late ↦ rw (le-ltb end y late) (omega arith)
    ]

-- more end before a later time
pub ends_before-le : (y z : ℕ) (rows : List Span) → y ≤ z → ends_before y rows ≤ ends_before z rows
ends_before-le y z rows l =
    sum_by-le-sum_by (λ (s : Span). cond (ltb s.end y) 1 0) (λ (s : Span). cond (ltb s.end z) 1 0) rows (λ s. ends-le y z s.end l)

-- the span at the place that so many spans leave
pub record ComesNext (start y : ℕ) (later : Span) : Type 0 where
  pub ends : y ≤ later.end
  pub starts : start < y → later.start < y

pub ComesNext-at : (start y : ℕ) (rows : List Span) (later : Span) → FollowOn start rows → slice_get rows (ends_before y rows) ≡ Some later → ComesNext start y later
ComesNext-at start y [] later follow at = absurd (omega (arith, slice_get_within [] 0 later at))
ComesNext-at start y (s ∷ ss) later follow at =
    elim (cases_lt s.end y) [
      | inl early ↦
          let rest = ComesNext-at s.end y ss later follow.4 (rw (ends_before-ended y s ss early) at at) in
          record { ends = rest.ends; starts = λ l. rest.starts early }
      | inr late ↦
          let here : s ≡ later = same_Some s later (rw (ends_before-later y s ss late ∙ ends_before-start s.end y ss follow.4 late) at at) in
          subst (ComesNext start y) here (record { ends = late; starts = λ l. omega (arith, follow.0, l) })
    ]

-- up to its end no more works are due
pub work_until-next : (start y x : ℕ) (rows : List Span) (later : Span) → FollowOn start rows → slice_get rows (ends_before y rows) ≡ Some later → y ≤ x → x < later.end → work_until rows x ≡ works_before y rows
work_until-next start y x [] later follow at low high = refl
work_until-next start y x (s ∷ ss) later follow at low high =
    elim (cases_lt s.end y) [
      | inl early ↦
          work_until-ended s ss x (omega arith)
          ∙ ap (λ n. s.work + n) (work_until-next s.end y x ss later follow.4 (rw (ends_before-ended y s ss early) at at) low high)
          ∙ sym (works_before-ended y s ss early)
      | inr late ↦
          let here : s ≡ later = same_Some s later (rw (ends_before-later y s ss late ∙ ends_before-start s.end y ss follow.4 late) at at) in
          let inside : x < s.end = omega (arith, high, ap (λ (t : Span). t.end) here) in
          work_until-running s ss x inside
          ∙ work_until-before s.end ss x inside follow.4
          ∙ sym (works_before-later y s ss late ∙ works_before-start s.end y ss follow.4 late)
    ]

-- consecutive spans start no earlier than the first
pub start-at : (start i : ℕ) (rows : List Span) (s : Span) → FollowOn start rows → slice_get rows i ≡ Some s → start ≤ s.start
start-at start i [] s follow at = absurd (omega (arith, slice_get_within [] i s at))
start-at start zero (r ∷ rs) s follow at = omega (arith, follow.0, ap (λ (t : Span). t.start) (same_Some r s at))
start-at start (suc i) (r ∷ rs) s follow at = omega (arith, follow.0, follow.1, start-at r.end i rs s follow.4 at)

-- and rise
pub rises-at : (start i : ℕ) (rows : List Span) (s : Span) → FollowOn start rows → slice_get rows i ≡ Some s → s.start ≤ s.end
rises-at start i [] s follow at = absurd (omega (arith, slice_get_within [] i s at))
rises-at start zero (r ∷ rs) s follow at = omega (arith, follow.1, ap (λ (t : Span). t.start) (same_Some r s at), ap (λ (t : Span). t.end) (same_Some r s at))
rises-at start (suc i) (r ∷ rs) s follow at = rises-at r.end i rs s follow.4 at

-- spans that start before a time and reach it have so many before them
pub ends_before-inside : (start y i : ℕ) (rows : List Span) (s : Span) → FollowOn start rows → slice_get rows i ≡ Some s → s.start < y → y ≤ s.end → ends_before y rows ≡ i
ends_before-inside start y i [] s follow at low high = absurd (omega (arith, slice_get_within [] i s at))
ends_before-inside start y zero (r ∷ rs) s follow at low high =
    let same : r ≡ s = same_Some r s at in
    let late : y ≤ r.end = omega (arith, high, ap (λ (t : Span). t.end) same) in
    ends_before-later y r rs late ∙ ends_before-start r.end y rs follow.4 late
ends_before-inside start y (suc i) (r ∷ rs) s follow at low high =
    let early : r.end < y = omega (arith, low, start-at r.end i rs s follow.4 at) in
    ends_before-ended y r rs early ∙ ap suc (ends_before-inside r.end y i rs s follow.4 at low high)

-- not all spans end before a time up to the last end
pub ends_before-within : (start y : ℕ) (rows : List Span) → FollowOn start rows → start < y → y ≤ last_end start rows → ends_before y rows < length rows
ends_before-within start y [] follow after reached = absurd (omega (arith, after, reached))
ends_before-within start y (s ∷ ss) follow after reached =
    elim (cases_lt s.end y) [
      | inl early ↦ omega (arith, ends_before-ended y s ss early, ends_before-within s.end y ss follow.4 early reached)
      | inr late ↦ omega (arith, ends_before-later y s ss late, ends_before-start s.end y ss follow.4 late)
    ]

-- a sum in two parts
sum-parts : (P : Span → Type 0) (f g h : Span → ℕ) (rows : List Span) → AllByRecursion P rows → ((s : Span) → P s → h s ≡ f s + g s) → sum_by h rows ≡ sum_by f rows + sum_by g rows
sum-parts P f g h [] all parts = refl
sum-parts P f g h (s ∷ ss) all parts =
    omega (arith, sum_by-cons f s ss, sum_by-cons g s ss, sum_by-cons h s ss, parts s all.0, sum-parts P f g h ss all.1 parts)

-- the end of a span lies within a lap of a time
pub record IsInLap (time : ℕ) (s : Span) : Type 0 where
  pub late : time ≤ s.end
  pub near : s.end < (time / 64 + 512) * 64

pub AreInLap : (time start : ℕ) (rows : List Span) → FollowOn start rows → time ≤ start → last_end start rows < (time / 64 + 512) * 64 → AllByRecursion (IsInLap time) rows
AreInLap time start [] follow late near = tt
AreInLap time start (s ∷ ss) follow late near =
    (record { late = omega (arith, follow.0, follow.1, late); near = omega (arith, near, last_end-ge s.end ss follow.4) }, AreInLap time s.end ss follow.4 (omega (arith, follow.0, follow.1, late)) near)

-- within a lap a span that ends before the next page ends before this one or has its mark
by-page : (time end page amount : ℕ) → time ≤ end → end < (time / 64 + 512) * 64 → time / 64 ≤ page → page < time / 64 + 512 → cond (ltb end ((page + 1) * 64)) amount 0 ≡ cond (ltb end (page * 64)) amount 0 + cond (eqb (mark_index end) (page % 512)) amount 0
by-page time end page amount late near low high =
    elim (cases_order (end / 64) page) [
      | inl here ↦
          rw (lt-ltb end ((page + 1) * 64) (omega (arith, here)), le-ltb end (page * 64) (omega (arith, here)), eq-eqb (mark_index end) (page % 512) (omega (arith, here))) (omega arith)
      | inr (inl early) ↦
          rw (lt-ltb end ((page + 1) * 64) (omega (arith, early)), lt-ltb end (page * 64) (omega (arith, early)), ne_eqb (mark_index end) (page % 512) (λ same. omega (arith, early, late, high, low, same))) (omega arith)
      | inr (inr after) ↦
          rw (le-ltb end ((page + 1) * 64) (omega (arith, after)), le-ltb end (page * 64) (omega (arith, after)), ne_eqb (mark_index end) (page % 512) (λ same. omega (arith, after, near, low, same))) (omega arith)
    ]

pub ends_before-page : (time page : ℕ) (rows : List Span) → AllByRecursion (IsInLap time) rows → time / 64 ≤ page → page < time / 64 + 512 → ends_before ((page + 1) * 64) rows ≡ ends_before (page * 64) rows + count_at (page % 512) rows
ends_before-page time page rows all low high =
    sum-parts (IsInLap time) (λ (s : Span). cond (ltb s.end (page * 64)) 1 0) (λ (s : Span). cond (eqb (mark_index s.end) (page % 512)) 1 0) (λ (s : Span). cond (ltb s.end ((page + 1) * 64)) 1 0) rows all (λ s near. by-page time s.end page 1 near.late near.near low high)

pub works_before-page : (time page : ℕ) (rows : List Span) → AllByRecursion (IsInLap time) rows → time / 64 ≤ page → page < time / 64 + 512 → works_before ((page + 1) * 64) rows ≡ works_before (page * 64) rows + works_at (page % 512) rows
works_before-page time page rows all low high =
    sum-parts (IsInLap time) (λ (s : Span). cond (ltb s.end (page * 64)) s.work 0) (λ (s : Span). cond (eqb (mark_index s.end) (page % 512)) s.work 0) (λ (s : Span). cond (ltb s.end ((page + 1) * 64)) s.work 0) rows all (λ s near. by-page time s.end page s.work near.late near.near low high)

-- what is due by a time: what is due before its page, and what is due in it
until-page : (end x work : ℕ) → cond (leb end x) work 0 ≡ cond (ltb end (x / 64 * 64)) work 0 + cond (eqb (page_of end) (page_of x) && leb end x) work 0
until-page end x work =
    elim (cases_lt x end) [
      | inl early ↦
          rw (lt-leb end x early, le-ltb end (x / 64 * 64) (omega (arith, early)), and_right (eqb (page_of end) (page_of x)) false refl) refl
      | inr reached ↦
          elim (cases_lt end (x / 64 * 64)) [
            | inl before ↦
                rw (le-leb end x reached, lt-ltb end (x / 64 * 64) before, and_left (eqb (page_of end) (page_of x)) true (ne_eqb (page_of end) (page_of x) (λ same. omega (arith, before, same)))) (omega arith)
            | inr inside ↦
                rw (le-leb end x reached, le-ltb end (x / 64 * 64) inside, eq-eqb (page_of end) (page_of x) (omega (arith, inside, reached))) (omega arith)
          ]
    ]

any : (rows : List Span) → AllByRecursion (λ (s : Span). Unit {0}) rows
any [] = tt
any (s ∷ ss) = (tt, any ss)

pub work_until-page : (x : ℕ) (rows : List Span) → work_until rows x ≡ works_before (x / 64 * 64) rows + works_in_page x rows
work_until-page x rows =
    sum-parts (λ (s : Span). Unit {0}) (λ (s : Span). cond (ltb s.end (x / 64 * 64)) s.work 0) (λ (s : Span). cond (eqb (page_of s.end) (page_of x) && leb s.end x) s.work 0) (λ (s : Span). cond (leb s.end x) s.work 0) rows (any rows) (λ s t. until-page s.end x s.work)

-- by the last slot before a time what is due before it is due
pub work_until-last : (y : ℕ) (rows : List Span) → 1 ≤ y → work_until rows (y - 1) ≡ works_before y rows
work_until-last y [] some = refl
work_until-last y (s ∷ ss) some =
    elim (cases_lt s.end y) [
      | inl early ↦ work_until-ended s ss (y - 1) (omega arith) ∙ ap (λ n. s.work + n) (work_until-last y ss some) ∙ sym (works_before-ended y s ss early)
      | inr late ↦ work_until-running s ss (y - 1) (omega arith) ∙ work_until-last y ss some ∙ sym (works_before-later y s ss late)
    ]

-- a front that holds the spans that end before a time
pub record IsBefore (y : ℕ) (rows : List Span) (front : Front) : Type 0 where
  pub count : front.count ≡ ends_before y rows
  pub works : front.works ≡ works_before y rows

pub IsBefore-none : (start y : ℕ) (rows : List Span) → FollowOn start rows → y ≤ start → IsBefore y rows (record { count = 0; works = 0 })
IsBefore-none start y rows follow early =
    record { count = sym (ends_before-start start y rows follow early); works = sym (works_before-start start y rows follow early) }

pub IsBefore-page : (time page : ℕ) (rows : List Span) (front : Front) (mark : Mark) → AllByRecursion (IsInLap time) rows → time / 64 ≤ page → page < time / 64 + 512 → IsMarked time rows (page % 512) mark → IsBefore (page * 64) rows front → IsBefore ((page + 1) * 64) rows (record { count = front.count + mark.count; works = front.works + mark.works })
IsBefore-page time page rows front mark all low high marked before =
    record {
      count = omega (arith, before.count, marked.count, ends_before-page time page rows all low high);
      works = omega (arith, before.works, marked.works, works_before-page time page rows all low high);
    }

pub IsFront-IsBefore : (start y : ℕ) (rows : List Span) (front : Front) → FollowOn start rows → IsBefore y rows front → IsFront rows front
IsFront-IsBefore start y rows front follow before =
    record {
      few = omega (arith, before.count, count_by-le-length (λ (s : Span). ltb s.end y) rows);
      works = before.works ∙ works_before-first start y rows follow ∙ ap (λ n. works (take n rows)) (sym before.count);
    }
