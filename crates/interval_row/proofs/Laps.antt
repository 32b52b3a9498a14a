-- Pages of spans with their times and marks.
use Rattle.std.proofs.Common.{◌≡◌, ℕ, ◌+◌, ◌*◌, ◌/◌, ◌%◌, ◌<◌, ◌≤◌, ◌^◌, ltb, List, [], ◌∷◌, length, Some, inl, inr, sym, subst, ◌∙◌, arith}
use Rattle.std.specs.Prelude.{slice_get}
use Rattle.std.specs.List.{AllByRecursion}
use Rattle.std.proofs.lemmas.Bool.{cases_lt}
use Rattle.std.proofs.lemmas.List.Sums.{count_by-le-length}
use Rattle.slot_core.specs.declared.jobs.Span.{Span}
use Rattle.spare_capacity.specs.Recurrence.{last_end, FollowOn}
use Rattle.node_chain.specs.declared.marks.Mark.{Mark}
use Rattle.interval_row.specs.declared.table.Front.{Front}
use Rattle.interval_row.specs.Changes.{ends_before}
use Rattle.interval_row.specs.Marks.{AreTimed}
use Rattle.interval_row.proofs.CutTimes.{ends_before-le, works_before, works_before-ended, works_before-later, AreInLap, IsBefore, IsBefore-page, IsInLap}
use Rattle.interval_row.proofs.Cycles.{last_end-some}
use Rattle.interval_row.proofs.Places.{last_end-ge}

pub follows : {start end : ℕ} {rows : List Span} {marks : List Mark} → AreTimed start end rows marks → FollowOn start rows
follows {rows = rows} h = subst (λ n. FollowOn n rows) (sym h.starts) h.filled.consecutive

pub ends : {start end : ℕ} {rows : List Span} {marks : List Mark} → AreTimed start end rows marks → end ≡ last_end start rows
ends {start = start} {rows = rows} h = h.ends ∙ last_end-some 0 start rows h.filled.some

-- within a lap
pub lies-in-lap : {start end : ℕ} {rows : List Span} {marks : List Mark} → AreTimed start end rows marks → end < (start / 64 + 512) * 64 → AllByRecursion (IsInLap start) rows
lies-in-lap {start = start} {rows = rows} h lap = AreInLap start start rows (follows h) (omega arith) (omega (arith, lap, ends h))

-- what ends before a time is small
pub works_before-small : (start y : ℕ) (rows : List Span) → FollowOn start rows → works_before y rows ≤ length rows * 2 ^ 40
works_before-small start y [] follow = omega arith
works_before-small start y (s ∷ ss) follow =
    let rest = works_before-small s.end y ss follow.4 in
    elim (cases_lt s.end y) [
      | inl early ↦ omega (arith, works_before-ended y s ss early, rest, follow.3)
      | inr late ↦ omega (arith, works_before-later y s ss late, rest)
    ]

-- the first spans, and those of the next page
pub record IsNext (rows : List Span) (front : Front) (mark : Mark) (page : ℕ) : Type 0 where
  pub count : front.count + mark.count ≤ 2 ^ 20
  pub works : front.works + mark.works ≤ 2 ^ 60
  pub before : IsBefore ((page + 1) * 64) rows (record { count = front.count + mark.count; works = front.works + mark.works })

pub IsNext-page : {start end : ℕ} {rows : List Span} {marks : List Mark} (front : Front) (mark : Mark) (page x : ℕ) → AreTimed start end rows marks → end < (start / 64 + 512) * 64 → x ≤ end → start / 64 ≤ page → page < x / 64 → slice_get marks (page % 512) ≡ Some mark → IsBefore (page * 64) rows front → IsNext rows front mark page
IsNext-page {start = start} {rows = rows} front mark page x h lap within low high at before =
    let y = (page + 1) * 64 in
    let next = IsBefore-page start page rows front mark (lies-in-lap h lap) low (omega (arith, lap, within, high)) (h.marked.each (page % 512) mark at) before in
    record {
      count = omega (arith, next.count, h.filled.few, count_by-le-length (λ (s : Span). ltb s.end y) rows);
      works = omega (arith, next.works, h.filled.few, works_before-small start y rows (follows h));
      before = next;
    }

-- which end before x too
pub IsNext-early : (rows : List Span) (front : Front) (mark : Mark) (page x : ℕ) → IsNext rows front mark page → page < x / 64 → front.count + mark.count ≤ ends_before x rows
IsNext-early rows front mark page x next high =
    omega (arith, next.before.count, ends_before-le ((page + 1) * 64) x rows (omega (arith, high)))

-- the end is no earlier than the start
pub rises : {start end : ℕ} {rows : List Span} {marks : List Mark} → AreTimed start end rows marks → start ≤ end
rises {start = start} {rows = rows} h = omega (arith, ends h, last_end-ge start rows (follows h))
