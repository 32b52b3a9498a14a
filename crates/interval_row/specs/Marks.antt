-- The marks of a store: plain numbers for each page of time, from which places are found without a
-- walk through the spans.
use Rattle.std.specs.Prelude.{◌≡◌, ℕ, ◌+◌, ◌-◌, ◌*◌, ◌/◌, ◌%◌, ◌^◌, ◌≤◌, min, ◌&&◌, ◌==◌, List, length, Some, count_by, sum_by, slice_get, nat_le, if◌then◌else◌}
use Rattle.slot_core.specs.declared.jobs.Span.{Span}
use Rattle.spare_capacity.specs.Recurrence.{first_start, last_end}
use Rattle.node_chain.specs.declared.marks.Mark.{Mark}
use Rattle.node_chain.specs.declared.marks.TheConstants.{LAP}
use Rattle.interval_row.specs.declared.marks.TheConstants.{PAGE}
use Rattle.interval_row.specs.declared.spans.Change.{Change}
use Rattle.interval_row.specs.declared.spans.Change.TheVariants.{More, Fewer}
use Rattle.interval_row.specs.Spans.{AreFilled}

-- the page of a time
abbrev pub page_of : ℕ → ℕ
page_of x = x / PAGE

-- the index of its mark, which pages share that are a lap apart
abbrev pub mark_index : ℕ → ℕ
mark_index x = page_of x % LAP

-- how many spans end in the pages of the mark at an index
abbrev pub count_at : ℕ → List Span → ℕ
count_at j spans = count_by (λ (s : Span). mark_index s.end == j) spans

-- the works of those
abbrev pub works_at : ℕ → List Span → ℕ
works_at j spans = sum_by (λ (s : Span). if mark_index s.end == j then s.work else 0) spans

-- the works of the spans that end in the page of x, by x
abbrev pub works_in_page : ℕ → List Span → ℕ
works_in_page x spans =
    sum_by (λ (s : Span). if page_of s.end == page_of x && nat_le s.end x then s.work else 0) spans

-- the mark at an index: its numbers are those of the spans that end in its pages. From a time on,
-- each time in its pages is above the works that are due in its page by then by at least `low`,
-- which says nothing where it is 0
pub record IsMarked (time : ℕ) (spans : List Span) (j : ℕ) (mark : Mark) : Type 0 where
  pub count : mark.count ≡ count_at j spans
  pub works : mark.works ≡ works_at j spans
  pub low :
      1 ≤ mark.low → (x : ℕ) → time ≤ x → mark_index x ≡ j → mark.low + works_in_page x spans ≤ x

-- there is a lap of marks, and each is that of the spans
pub record AreMarked (time : ℕ) (spans : List Span) (marks : List Mark) : Type 0 where
  pub length : length marks ≡ LAP
  pub each : (j : ℕ) (mark : Mark) → slice_get marks j ≡ Some mark → IsMarked time spans j mark

-- the mark at an index before any span, from time 0 on: its first page starts at `low`
abbrev pub first_mark : ℕ → Mark
first_mark j = record { count = 0; works = 0; low = j * PAGE }

-- a mark with a span more, which ends there with this work: `low` is at most how far that end is
-- above all works of the mark, cut at 0
abbrev pub with_end : ℕ → ℕ → Mark → Mark
with_end end work mark =
    record {
      count = mark.count + 1;
      works = mark.works + work;
      low = min mark.low (end - (mark.works + work));
    }

-- a mark without a span of this work
abbrev pub without_end : ℕ → Mark → Mark
without_end work mark = record mark { count = mark.count - 1; works = mark.works - work }

-- a mark with a span more, which has no work
abbrev pub with_cut : Mark → Mark
with_cut mark = record mark { count = mark.count + 1 }

-- a mark with so many slots of work more or fewer: `low` is as many lower, cut at 0, where there is
-- more work, and stays where there is less
abbrev pub with_change : Change → Mark → Mark
with_change (More slots) mark =
    record mark { works = mark.works + slots; low = mark.low - slots }
with_change (Fewer slots) mark = record mark { works = mark.works - slots }

-- a mark once the page of `time` has passed: where no span has it, `low` is the start of the page a
-- lap later, in which no work is due; else nothing changes
abbrev pub passed : ℕ → Mark → Mark
passed time mark =
    if mark.count == 0 then record mark { low = (page_of time + LAP) * PAGE } else mark

-- spans with their first start, their last end of at most 2 ^ 60, and their marks
pub record AreTimed (start end : ℕ) (spans : List Span) (marks : List Mark) : Type 0 where
  pub filled : AreFilled spans
  pub starts : start ≡ first_start spans
  pub ends : end ≡ last_end 0 spans
  pub near : end ≤ 2 ^ 60
  pub marked : AreMarked start spans marks
