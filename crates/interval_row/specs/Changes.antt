-- What each call of a table does to its spans. The capacities follow by the recurrence.
use Rattle.std.specs.Prelude.{ℕ, zero, suc, ◌+◌, ◌-◌, ◌&&◌, ◌||◌, ◌==◌, List, [], ◌∷◌, ◌++◌, map, filter, count_by, Option, Some, None, nat_lt, if◌then◌else◌}
use Rattle.slot_core.specs.declared.jobs.Span.{Span}
use Rattle.spare_capacity.specs.Recurrence.{last_end}

-- how many spans end before x
abbrev pub ends_before : ℕ → List Span → ℕ
ends_before x spans = count_by (λ (s : Span). nat_lt s.end x) spans

-- the spans one slot later: the first loses a slot, and is dropped where that was its last
abbrev pub after_pass : List Span → List Span
after_pass [] = []
after_pass (s ∷ ss) = if s.start + 1 == s.end then ss else record s { start = s.start + 1 } ∷ ss

-- the span that ends there
abbrev pub span_ending : ℕ → List Span → Option Span
span_ending deadline [] = None
span_ending deadline (s ∷ ss) = if s.end == deadline then Some s else span_ending deadline ss

-- the spans, with the work of the one that ends there changed by f
abbrev pub with_work : (ℕ → ℕ) → ℕ → List Span → List Span
with_work f deadline [] = []
with_work f deadline (s ∷ ss) =
    if s.end == deadline then record s { work = f s.work } ∷ ss else s ∷ with_work f deadline ss

-- so many slots more for the span that ends there
abbrev pub with_more : ℕ → ℕ → List Span → List Span
with_more deadline slots spans = with_work (λ work. work + slots) deadline spans

-- so many slots less for the span that ends there
abbrev pub with_less : ℕ → ℕ → List Span → List Span
with_less deadline slots spans = with_work (λ work. work - slots) deadline spans

-- the part of a span before `at`, without work
abbrev pub part_before : ℕ → Span → Span
part_before at s = record s { end = at; work = 0 }

-- the part of a span from `at` on, with all its work
abbrev pub part_from : ℕ → Span → Span
part_from at s = record s { start = at }

-- the span that holds `at` inside becomes these two parts
abbrev pub cut : ℕ → List Span → List Span
cut at [] = []
cut at (s ∷ ss) =
    if nat_lt s.start at && nat_lt at s.end then part_before at s ∷ part_from at s ∷ ss
    else s ∷ cut at ss

-- the spans that end before `at` or start after it
abbrev pub apart_from : ℕ → List Span → List Span
apart_from at spans = filter (λ (s : Span). nat_lt s.end at || nat_lt at s.start) spans

-- the span, so many slots later
abbrev pub shifted : ℕ → Span → Span
shifted by s = record s { start = s.start + by; end = s.end + by }

-- spans, and then those of a plan shifted to their last end
abbrev pub appended : List Span → List Span → List Span
appended plan spans = spans ++ map (shifted (last_end 0 spans)) plan

-- so many copies of the spans, one after the other
abbrev pub copies_of : List Span → ℕ → List Span
copies_of spans zero = []
copies_of spans (suc n) = appended spans (copies_of spans n)
