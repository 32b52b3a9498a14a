-- How a change of a capacity is followed back through the spans before it.
use Rattle.std.specs.Prelude.{◌≡◌, ℕ, ℤ, ◌+◌, ◌-◌, ◌*◌, ◌<◌, ◌≤◌, ◌≤ℤ◌, List, ◌++◌, length, Some, drop, max, slice_get, take}
use Rattle.std.specs.List.{AllByRecursion}
use Rattle.slot_core.specs.declared.jobs.Span.{Span}
use Rattle.spare_capacity.specs.Lending.{moved}
use Rattle.spare_capacity.specs.Recurrence.{first_start, last_end}
use Rattle.node_chain.specs.declared.marks.Mark.{Mark}
use Rattle.node_chain.specs.declared.marks.TheConstants.{LAP}
use Rattle.interval_row.specs.declared.marks.TheConstants.{PAGE}
use Rattle.interval_row.specs.declared.walk_back.Walk.{Walk}
use Rattle.interval_row.specs.Marks.{count_at, page_of}
use Rattle.interval_row.specs.Spans.{AreFilled}

-- the spans, where the first k of them follow what the last of these is repaid, as it goes back
-- through them by the law of lending
abbrev pub walked : ℤ → ℕ → List Span → List Span
walked more k spans = moved more (take k spans) ++ drop k spans

-- the spans at the end of a walk back, which has come so far
abbrev pub after_walk : Walk → List Span → List Span
after_walk walk spans = walked walk.more walk.index spans

-- spans within a lap of pages, and marks that tell how many of them end in each page
pub record AreInPages (spans : List Span) (marks : List Mark) : Type 0 where
  pub filled : AreFilled spans
  pub lap : last_end 0 spans < (page_of (first_start spans) + LAP) * PAGE
  pub length : length marks ≡ LAP
  pub counts :
      (j : ℕ) (mark : Mark) → slice_get marks j ≡ Some mark → mark.count ≡ count_at j spans

-- a page of the lap that starts with the first of the spans
pub record IsPageOf (spans : List Span) (page : ℕ) : Type 0 where
  pub first : page_of (first_start spans) ≤ page
  pub last : page < page_of (first_start spans) + LAP

-- the spans from one place up to another, but the first of all
abbrev pub others_between : ℕ → ℕ → List Span → List Span
others_between k n spans = take (n - max 1 k) (drop (max 1 k) spans)

-- no capacity of the spans is above this
abbrev pub HaveAtMost : ℤ → List Span → Type 0
HaveAtMost high spans = AllByRecursion (λ (s : Span). s.spare ≤ℤ high) spans
