-- Rows that a table keeps stay so.
use Rattle.std.proofs.Common.{◌≡◌, ℕ, ◌+◌, ◌*◌, ◌<◌, ◌≤◌, ◌^◌, List, length, map, get_or, IsSomeAnd, refl, sym, subst, ◌∙◌, ap, arith}
use Rattle.slot_core.specs.declared.jobs.Span.{Span}
use Rattle.spare_capacity.specs.Recurrence.{filled, first_start, last_end}
use Rattle.spare_capacity.specs.PlanSpans.{ArePlanSpans}
use Rattle.spare_capacity.proofs.Steps.{no_row}
use Rattle.interval_row.specs.Changes.{after_pass, appended, copies_of, cut, shifted, span_ending, with_work}
use Rattle.interval_row.specs.Spans.{place_of, with_work_at, AreFilled}
use Rattle.node_chain.specs.declared.marks.Mark.{Mark}
use Rattle.interval_row.specs.Marks.{AreMarked}
use Rattle.interval_row.specs.Stores.{AreKeptMarked, Stored}
use Rattle.interval_row.specs.Tables.{IsTable}
use Rattle.interval_row.specs.declared.spans.Change.{Change}
use Rattle.interval_row.specs.Works.{changed_by, MayChangeBy}
use Rattle.interval_row.proofs.Cuts.{first_start-cut, length-cut}
use Rattle.interval_row.proofs.Cycles.{copies_fit, first_start-append, last_end-le, last_end-some, length-appended, AreCopies, AreCopies-copies_of}
use Rattle.interval_row.proofs.Ends.{last_end-after_pass, last_end-appended, last_end-cut, last_end-with_work}
use Rattle.interval_row.proofs.Fillings.{first_start-filled, last_end-filled, length-filled}
use Rattle.interval_row.proofs.Kept.{AreBare, AreFilled-AreBare, AreFilled-AreCopies, AreFilled-appended, AreBare-after_pass, AreBare-cut, AreBare-with_work_at, first_start-after_pass, first_start-FollowOn, length-after_pass}
use Rattle.interval_row.proofs.Places.{work-le, IsDueAt-span_ending}
use Rattle.interval_row.proofs.Works.{changed_by-le, first_start-with_work_at, length-with_work_at}

-- the spans of a table in a room of at most 2 ^ 20 without their marks: rows, with their first start
-- and their last end of at most 2 ^ 60
pub record AreKept (spans : List Span) (room time end : ℕ) : Type 0 where
  pub filled : AreFilled spans
  pub few : length spans ≤ room
  pub small : room ≤ 2 ^ 20
  pub starts : time ≡ first_start spans
  pub ends : end ≡ last_end 0 spans
  pub near : end ≤ 2 ^ 60

pub IsTable-AreKept : (rows : List Span) (room time end : ℕ) → AreKept rows room time end → IsTable (first_start rows) rows room
IsTable-AreKept rows room time end h =
    record {
      some = h.filled.some;
      consecutive = h.filled.consecutive;
      proper = h.filled.proper;
      filled = h.filled.filled;
      few = h.few;
      small = h.small;
    }

-- what contracts see of kept rows
pub record Seen (kept : List Span) (places last : ℕ) (seen : Stored) : Type 0 where
  pub rows : seen.spans ≡ kept
  pub count : length seen.spans ≡ length kept
  pub start : first_start seen.spans ≡ first_start kept
  pub end : last_end (first_start seen.spans) seen.spans ≡ last
  pub room : seen.room ≡ places

pub seen_of : {rows : List Span} {room time end : ℕ} {seen : Stored} → record { spans = rows; room = room } ≡ seen → AreKept rows room time end → Seen rows room end seen
seen_of {rows = rows} {seen = seen} e h =
    let spans : seen.spans ≡ rows = sym (ap (λ (v : Stored). v.spans) e) in
    record {
      rows = spans;
      count = ap length spans;
      start = ap first_start spans;
      end = ap (last_end (first_start seen.spans)) spans ∙ last_end-some (first_start seen.spans) 0 rows h.filled.some ∙ sym h.ends;
      room = sym (ap (λ (v : Stored). v.room) e);
    }

-- bare rows, with their capacities
AreKept-AreBare : (rows : List Span) (room time end : ℕ) → AreBare rows → length rows ≤ room → room ≤ 2 ^ 20 → time ≡ first_start rows → end ≡ last_end 0 rows → end ≤ 2 ^ 60 → AreKept (filled rows) room time end
AreKept-AreBare rows room time end bare few small starts ends near =
    record {
      filled = AreFilled-AreBare rows bare;
      few = omega (arith, few, length-filled rows);
      small = small;
      starts = starts ∙ sym (first_start-filled rows);
      ends = ends ∙ sym (last_end-filled 0 rows);
      near = near;
    }

-- with another work of the span that is due
pub AreKept-changed_by : (change : Change) (deadline : ℕ) (rows : List Span) (room time end : ℕ) → AreKept rows room time end → IsSomeAnd (span_ending deadline rows) (λ (s : Span). MayChangeBy change s.work) → AreKept (filled (with_work (changed_by change) deadline rows)) room time end
AreKept-changed_by change deadline rows room time end h found =
    let due = IsDueAt-span_ending (first_start rows) rows deadline (λ (s : Span). MayChangeBy change s.work) h.filled.consecutive found in
    let place = place_of deadline rows in
    let was = (get_or rows place no_row).work in
    let work = changed_by change was in
    let few = changed_by-le change was (work-le (first_start rows) rows place h.filled.consecutive due.within) due.holds in
    let changed : with_work (changed_by change) deadline rows ≡ with_work_at place work rows = due.changed (changed_by change) in
    let ends = h.ends ∙ sym (last_end-with_work (changed_by change) deadline 0 rows) ∙ ap (last_end 0) changed in
    rw changed (AreKept-AreBare (with_work_at place work rows) room time end (AreBare-with_work_at place work rows few h.filled) (omega (arith, h.few, length-with_work_at place work rows)) h.small (h.starts ∙ sym (first_start-with_work_at place work rows)) ends h.near)

-- one slot later
pub AreKept-after_pass : (rows : List Span) (room time end : ℕ) → AreKept rows room time end → first_start rows + 1 < last_end 0 rows → AreKept (filled (after_pass rows)) room (time + 1) end
AreKept-after_pass rows room time end h goes_on =
    let starts = ap (λ n. n + 1) h.starts ∙ sym (first_start-after_pass rows h.filled goes_on) in
    AreKept-AreBare (after_pass rows) room (time + 1) end (AreBare-after_pass rows h.filled goes_on) (omega (arith, h.few, length-after_pass rows)) h.small starts (h.ends ∙ sym (last_end-after_pass rows goes_on)) h.near

-- with a span cut, where there is room for one more
pub AreKept-cut : (at : ℕ) (rows : List Span) (room time end : ℕ) → AreKept rows room time end → length rows < room → AreKept (filled (cut at rows)) room time end
AreKept-cut at rows room time end h free =
    AreKept-AreBare (cut at rows) room time end (AreBare-cut at rows (omega (arith, free, h.small)) h.filled) (omega (arith, free, (length-cut at rows).1)) h.small (h.starts ∙ sym (first_start-cut at rows)) (h.ends ∙ sym (last_end-cut at 0 rows)) h.near

-- with a plan's spans appended, where there is room for them
pub AreKept-appended : (spans rows : List Span) (room time end : ℕ) → ArePlanSpans spans → AreKept rows room time end → length rows + length spans ≤ room → end + last_end 0 spans ≤ 2 ^ 60 → AreKept (appended spans rows) room time (end + last_end 0 spans)
AreKept-appended spans rows room time end plan h free near =
    record {
      filled = AreFilled-appended spans rows plan h.filled (omega (arith, free, h.small));
      few = omega (arith, free, length-appended spans rows);
      small = h.small;
      starts = h.starts ∙ sym (first_start-append rows (map (shifted (last_end 0 rows)) spans) h.filled.some);
      ends = ap (λ n. n + last_end 0 spans) h.ends ∙ sym (last_end-appended spans rows plan.some);
      near = near;
    }

-- copies of a plan's spans, where they fit the room
pub AreKept-copies_of : (spans : List Span) (copies room : ℕ) → ArePlanSpans spans → 1 ≤ copies → copies * length spans ≤ room → room ≤ 2 ^ 20 → AreKept (copies_of spans copies) room 0 (last_end 0 (copies_of spans copies))
AreKept-copies_of spans copies room plan some fits small =
    let rows = copies_of spans copies in
    let made : AreCopies spans copies rows = AreCopies-copies_of spans copies plan in
    let more = copies_fit 0 copies (length spans) (copies * length spans) (omega arith) (omega arith) in
    let one : 1 ≤ length rows = omega (arith, plan.some, more, made.count) in
    record {
      filled = AreFilled-AreCopies spans copies rows one (omega (arith, made.count, fits, small)) made;
      few = omega (arith, made.count, fits);
      small = small;
      starts = sym (first_start-FollowOn 0 rows made.consecutive one);
      ends = refl;
      near = omega (arith, last_end-le 0 rows made.consecutive, made.count, fits, small);
    }

-- kept rows without their marks
pub kept_of : {rows : List Span} {room : ℕ} {marks : List Mark} {time end : ℕ} → AreKeptMarked rows room marks time end → AreKept rows room time end
kept_of h =
    record {
      filled = h.timed.filled;
      few = h.few;
      small = h.small;
      starts = h.timed.starts;
      ends = h.timed.ends;
      near = h.timed.near;
    }

-- and with marks
pub marked_of : {rows : List Span} {room : ℕ} {marks : List Mark} {time end : ℕ} → AreKept rows room time end → AreMarked time rows marks → AreKeptMarked rows room marks time end
marked_of h marked =
    record {
      timed = record { filled = h.filled; starts = h.starts; ends = h.ends; near = h.near; marked = marked };
      few = h.few;
      small = h.small;
    }

-- the marks are those from the first start on
pub marked-start : {rows : List Span} {room : ℕ} {marks : List Mark} {time end : ℕ} → AreKeptMarked rows room marks time end → AreMarked (first_start rows) rows marks
marked-start {rows = rows} {marks = marks} h = subst (λ n. AreMarked n rows marks) h.timed.starts h.timed.marked
