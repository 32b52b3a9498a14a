-- Times of a row of spans by which few slots are left beside what is due.
use Rattle.std.proofs.Common.{◌≡◌, ℕ, zero, suc, ◌+◌, ◌*◌, ◌<◌, ◌≤◌, ◌^◌, List, [], ◌∷◌, length, take, get_or, Some, None, inl, inr, refl, sym, ◌∙◌, ap, arith}
use Rattle.std.specs.Prelude.{slice_get}
use Rattle.std.proofs.lemmas.Bool.{cases_lt, cases_order}
use Rattle.std.proofs.lemmas.List.Sums.{sum_by-cons, sum_by_more}
use Rattle.std.proofs.lemmas.Option.{get_or_from_slice_get, none-some, same_Some, slice_get_cases, slice_get_within, slice_get-get_or}
use Rattle.slot_core.specs.declared.jobs.Span.{Span}
use Rattle.spare_capacity.specs.Laws.{work_until}
use Rattle.spare_capacity.specs.PlanSpans.{AreProper}
use Rattle.spare_capacity.specs.Recurrence.{FollowOn, last_end}
use Rattle.spare_capacity.proofs.Slack.{work_until-before, work_until-ended, work_until-running}
use Rattle.interval_row.specs.declared.table.Front.{Front}
use Rattle.interval_row.specs.Tables.{works, IsFront}
use Rattle.interval_row.proofs.CutTimes.{rises-at, start-at}
use Rattle.interval_row.proofs.Places.{last_end-ge}

-- no span ends after the last
pub end-at : (start i : ℕ) (rows : List Span) (s : Span) → FollowOn start rows → slice_get rows i ≡ Some s → s.end ≤ last_end start rows
end-at start i [] s follow at = absurd (omega (arith, slice_get_within [] i s at))
end-at start zero (r ∷ rs) s follow at = omega (arith, ap (λ (t : Span). t.end) (same_Some r s at), last_end-ge r.end rs follow.4)
end-at start (suc i) (r ∷ rs) s follow at = end-at r.end i rs s follow.4 at

-- the last one ends there
pub last-at : (start i : ℕ) (rows : List Span) (s : Span) → slice_get rows i ≡ Some s → i + 1 ≡ length rows → s.end ≡ last_end start rows
last-at start i [] s at last = absurd (omega (arith, slice_get_within [] i s at))
last-at start zero (r ∷ []) s at last = sym (ap (λ (t : Span). t.end) (same_Some r s at))
last-at start zero (r ∷ t ∷ ts) s at last = absurd (omega (arith, last))
last-at start (suc i) (r ∷ rs) s at last = last-at r.end i rs s at (omega (arith, last))

-- a later span starts no earlier than one ends
pub order-at : (start i j : ℕ) (rows : List Span) (s t : Span) → FollowOn start rows → slice_get rows i ≡ Some s → slice_get rows j ≡ Some t → i < j → s.end ≤ t.start
order-at start i j [] s t follow at later l = absurd (omega (arith, slice_get_within [] i s at))
order-at start i zero (r ∷ rs) s t follow at later l = absurd (omega (arith, l))
order-at start zero (suc j) (r ∷ rs) s t follow at later l = omega (arith, ap (λ (u : Span). u.end) (same_Some r s at), start-at r.end j rs t follow.4 later)
order-at start (suc i) (suc j) (r ∷ rs) s t follow at later l = order-at r.end i j rs s t follow.4 at later (omega (arith, l))

-- the next one starts where it ends
pub next-at : (start i : ℕ) (rows : List Span) (s t : Span) → FollowOn start rows → slice_get rows i ≡ Some s → slice_get rows (suc i) ≡ Some t → t.start ≡ s.end
next-at start i [] s t follow at next = absurd (omega (arith, slice_get_within [] i s at))
next-at start zero (r ∷ []) s t follow at next = absurd (omega (arith, slice_get_within [] 0 t next))
next-at start zero (r ∷ u ∷ us) s t follow at next =
    omega (arith, ap (λ (v : Span). v.end) (same_Some r s at), ap (λ (v : Span). v.start) (same_Some u t next), follow.4.0)
next-at start (suc i) (r ∷ rs) s t follow at next = next-at r.end i rs s t follow.4 at next

-- each is proper
pub proper-at : (i : ℕ) (rows : List Span) (s : Span) → AreProper rows → slice_get rows i ≡ Some s → s.start < s.end
proper-at i [] s proper at = absurd (omega (arith, slice_get_within [] i s at))
proper-at zero (r ∷ rs) s proper at = omega (arith, proper.0, ap (λ (t : Span). t.start) (same_Some r s at), ap (λ (t : Span). t.end) (same_Some r s at))
proper-at (suc i) (r ∷ rs) s proper at = proper-at i rs s proper.1 at

-- the first spans with one more have its work more
pub works-next : (i : ℕ) (rows : List Span) (s : Span) → slice_get rows i ≡ Some s → works (take (i + 1) rows) ≡ works (take i rows) + s.work
works-next i rows s at =
    sum_by_more (λ (t : Span). t.work) rows i s (slice_get_within rows i s at)
    ∙ ap (λ (t : Span). works (take i rows) + t.work) (get_or_from_slice_get rows i s s at)

-- the works of the first spans are small
pub works-small : (start i : ℕ) (rows : List Span) → FollowOn start rows → works (take i rows) ≤ length rows * 2 ^ 40
works-small start zero rows follow = omega arith
works-small start (suc i) [] follow = omega arith
works-small start (suc i) (r ∷ rs) follow =
    omega (arith, sum_by-cons (λ (t : Span). t.work) r (take i rs), follow.3, works-small r.end i rs follow.4)

-- within a span the works before it are due
pub work_until-at : (start i x : ℕ) (rows : List Span) (s : Span) → FollowOn start rows → slice_get rows i ≡ Some s → s.start ≤ x → x < s.end → work_until rows x ≡ works (take i rows)
work_until-at start i x [] s follow at low high = absurd (omega (arith, slice_get_within [] i s at))
work_until-at start zero x (r ∷ rs) s follow at low high =
    let inside : x < r.end = omega (arith, high, ap (λ (t : Span). t.end) (same_Some r s at)) in
    work_until-running r rs x inside ∙ work_until-before r.end rs x inside follow.4
work_until-at start (suc i) x (r ∷ rs) s follow at low high =
    let early : r.end ≤ x = omega (arith, low, start-at r.end i rs s follow.4 at) in
    work_until-ended r rs x early ∙ ap (λ n. r.work + n) (work_until-at r.end i x rs s follow.4 at low high) ∙ sym (sum_by-cons (λ (t : Span). t.work) r (take i rs))

-- by the last end all works are
pub work_until-all : (start x : ℕ) (rows : List Span) → FollowOn start rows → last_end start rows ≤ x → work_until rows x ≡ works (take (length rows) rows)
work_until-all start x [] follow late = refl
work_until-all start x (r ∷ rs) follow late =
    let early : r.end ≤ x = omega (arith, late, last_end-ge r.end rs follow.4) in
    work_until-ended r rs x early ∙ ap (λ n. r.work + n) (work_until-all r.end x rs follow.4 late) ∙ sym (sum_by-cons (λ (t : Span). t.work) r (take (length rs) rs))

-- a span that holds a time
pub record Holds (rows : List Span) (x : ℕ) : Type 0 where
  pub index : ℕ
  pub span : Span
  pub at : slice_get rows index ≡ Some span
  pub low : span.start ≤ x
  pub high : x < span.end

-- each time before the last end has one
pub holds : (start x : ℕ) (rows : List Span) → FollowOn start rows → start ≤ x → x < last_end start rows → Holds rows x
holds start x [] follow low high = absurd (omega (arith, low, high))
holds start x (r ∷ rs) follow low high =
    elim (cases_lt x r.end) [
      | inl inside ↦ record { index = 0; span = r; at = refl; low = omega (arith, follow.0, low); high = inside }
      | inr after ↦
          let rest = holds r.end x rs follow.4 after high in
          record { index = suc rest.index; span = rest.span; at = rest.at; low = rest.low; high = rest.high }
    ]

-- where a search goes on from, and what it passes: from the time `low` on up to that place each time
-- leaves room, and so does the start of each span that is passed
pub record Searches (start : ℕ) (rows : List Span) (asked low from index : ℕ) : Type 0 where
  pub follow : FollowOn start rows
  pub late : start ≤ low
  pub few : from ≤ length rows
  pub onward : (next : Span) → slice_get rows from ≡ Some next → (x : ℕ) → low ≤ x → x < next.start → asked + work_until rows x ≤ x
  pub last : from ≡ length rows → low ≡ last_end start rows
  pub passed : (i : ℕ) (s : Span) → from ≤ i → i < index → slice_get rows i ≡ Some s → asked + works (take i rows) ≤ s.start

-- so does each time in a span that is passed, or before the place
Searches-room : {start : ℕ} {rows : List Span} {asked low from index : ℕ} (x : ℕ) → Searches start rows asked low from index → (held : Holds rows x) → held.index < index → low ≤ x → x < last_end start rows → asked + work_until rows x ≤ x
Searches-room {start = start} {rows = rows} {asked = asked} {low = low} {from = from} {index = index} x h held before l high =
    elim (cases_lt held.index from) [
      | inl early ↦
          elim (cases_lt from (length rows)) [
            | inl inside ↦
                let next = get_or rows from held.span in
                let at : slice_get rows from ≡ Some next = slice_get-get_or rows from held.span inside in
                h.onward next at x l (omega (arith, held.high, order-at start held.index from rows held.span next h.follow held.at at early))
            | inr all ↦ absurd (omega (arith, l, high, h.last (omega (arith, all, h.few))))
          ]
      | inr late ↦
          omega (arith, h.passed held.index held.span late before held.at, work_until-at start held.index x rows held.span h.follow held.at held.low held.high, held.low)
    ]

-- where all spans are passed
pub Searches-all : {start : ℕ} {rows : List Span} {asked low from index : ℕ} → Searches start rows asked low from index → index ≡ length rows → (x : ℕ) → low ≤ x → x < last_end start rows → asked + work_until rows x ≤ x
Searches-all {start = start} {rows = rows} h all x low high =
    let held = holds start x rows h.follow (omega (arith, h.late, low)) high in
    Searches-room x h held (omega (arith, slice_get_within rows held.index held.span held.at, all)) low high

-- before the start of the span at the place
pub Searches-start : {start : ℕ} {rows : List Span} {asked low from index : ℕ} (next : Span) → Searches start rows asked low from index → slice_get rows index ≡ Some next → (x : ℕ) → low ≤ x → x < next.start → asked + work_until rows x ≤ x
Searches-start {start = start} {rows = rows} {index = index} next h at x low high =
    let within : x < last_end start rows = omega (arith, high, rises-at start index rows next h.follow at, end-at start index rows next h.follow at) in
    let held = holds start x rows h.follow (omega (arith, h.late, low)) within in
    elim (cases_order held.index index) [
      | inl here ↦ absurd (omega (arith, high, held.low, ap (λ (s : Span). s.start) (same_Some held.span next (sym held.at ∙ ap (slice_get rows) here ∙ at))))
      | inr (inl early) ↦ Searches-room x h held early low within
      | inr (inr after) ↦ absurd (omega (arith, high, held.low, rises-at start index rows next h.follow at, order-at start index held.index rows next held.span h.follow at held.at after))
    ]

-- and before its end, where its start leaves room
pub Searches-end : {start : ℕ} {rows : List Span} {asked low from index : ℕ} (next : Span) → Searches start rows asked low from index → slice_get rows index ≡ Some next → asked + works (take index rows) ≤ next.start → (x : ℕ) → low ≤ x → x < next.end → asked + work_until rows x ≤ x
Searches-end {start = start} {rows = rows} {index = index} next h at room x low high =
    elim (cases_lt x next.start) [
      | inl early ↦ Searches-start next h at x low early
      | inr inside ↦ omega (arith, work_until-at start index x rows next h.follow at inside high, room, inside)
    ]

-- the place that a search for the first short time has come to: each time from the end of the first
-- span on up to the end of the one there leaves room
pub record HasRoom (rows : List Span) (first : Span) (asked : ℕ) (front : Front) (span : Span) : Type 0 where
  pub is : IsFront rows front
  pub at : slice_get rows front.count ≡ Some span
  pub ends : first.end ≤ span.end
  pub room : (x : ℕ) → first.end ≤ x → x < span.end → asked + work_until rows x ≤ x

-- nothing stands at a place past all spans
pub past-all : (rows : List Span) (i : ℕ) → slice_get rows i ≡ None → i ≤ length rows → i ≡ length rows
past-all rows i none few =
    elim (slice_get_cases rows i).1 [
      | inl there ↦ elim (none-some there.0 (sym none ∙ there.2)) [ ]
      | inr past ↦ omega (arith, past.0, few)
    ]

-- where a search from such a place has ended, and what is due in the spans before
pub record IsSought (start end : ℕ) (rows : List Span) (first : Span) (asked index due : ℕ) : Type 0 where
  pub follow : FollowOn start rows
  pub ends : end ≡ last_end start rows
  pub works : due ≡ works (take index rows)
  pub low : ℕ
  pub from : ℕ
  pub late : first.end ≤ low
  pub until : low ≤ end
  pub room : (x : ℕ) → first.end ≤ x → x < low → asked + work_until rows x ≤ x
  pub searches : Searches start rows asked low from index

-- where all spans are passed, their works are due by the last end, and each time leaves room
pub IsSought-all : {start end : ℕ} {rows : List Span} {first : Span} {asked index due : ℕ} → IsSought start end rows first asked index due → index ≡ length rows → (due ≡ work_until rows end) × ((x : ℕ) → first.end ≤ x → x < end → asked + work_until rows x ≤ x)
IsSought-all {start = start} {end = end} {rows = rows} h all = (
  h.works ∙ ap (λ n. works (take n rows)) all ∙ sym (work_until-all start end rows h.follow (omega (arith, h.ends))),
  λ x low high.
      elim (cases_lt x h.low) [
        | inl early ↦ h.room x low early
        | inr late ↦ Searches-all h.searches all x late (omega (arith, high, h.ends))
      ],
)

-- else each time before the start of the span there does
pub IsSought-start : {start end : ℕ} {rows : List Span} {first : Span} {asked index due : ℕ} (next : Span) → IsSought start end rows first asked index due → slice_get rows index ≡ Some next → (x : ℕ) → first.end ≤ x → x < next.start → asked + work_until rows x ≤ x
IsSought-start next h at x low high =
    elim (cases_lt x h.low) [
      | inl early ↦ h.room x low early
      | inr late ↦ Searches-start next h.searches at x late high
    ]

-- and up to its end, where its start leaves room
pub IsSought-end : {start end : ℕ} {rows : List Span} {first : Span} {asked index due : ℕ} (next : Span) → IsSought start end rows first asked index due → slice_get rows index ≡ Some next → asked + due ≤ next.start → (x : ℕ) → first.end ≤ x → x < next.end → asked + work_until rows x ≤ x
IsSought-end next h at room x low high =
    elim (cases_lt x h.low) [
      | inl early ↦ h.room x low early
      | inr late ↦ Searches-end next h.searches at (omega (arith, room, h.works)) x late high
    ]
