-- Capacities told and changed for all spans that end in the pages of a mark at once.
use Rattle.std.specs.Prelude.{◌≡◌, ℕ, ℤ, ◌-ℤ◌, ◌≤ℤ◌, ◌==◌, List, map, get_or, if◌then◌else◌}
use Rattle.std.specs.Int.{w64, int_wrap}
use Rattle.std.specs.List.{AllByRecursion}
use Rattle.slot_core.specs.declared.jobs.Span.{Span}
use Rattle.spare_capacity.specs.Lending.{raised}
use Rattle.node_chain.specs.declared.marks.Lift.{Lift}
use Rattle.node_chain.specs.Laps.{blank_lift}
pub use Rattle.node_chain.specs.Raises.{lifted_by}
use Rattle.interval_row.specs.Marks.{mark_index}

-- no span that ends in the pages of the mark at an index has more capacity than this
abbrev pub AreAtMost : ℕ → ℤ → List Span → Type 0
AreAtMost j high spans =
    AllByRecursion (λ (s : Span). mark_index s.end ≡ j → s.spare ≤ℤ high) spans

-- a span, with so much more capacity where it ends in these pages
abbrev pub raised_in : ℕ → ℤ → Span → Span
raised_in j more s = if mark_index s.end == j then raised more s else s

-- the spans, where each that ends in these pages has so much more capacity
abbrev pub raised_at : ℕ → ℤ → List Span → List Span
raised_at j more spans = map (raised_in j more) spans

-- the lift of the page in which a span ends
abbrev pub lift_of : List Lift → Span → Lift
lift_of lifts s = get_or lifts (mark_index s.end) blank_lift

-- what a shelf has of a span, where its lift adds so much: the difference wraps round
abbrev pub lowered_by : ℤ → Span → Span
lowered_by add s = record s { spare = int_wrap w64 (s.spare -ℤ add) }

-- a span by what a shelf has of it
abbrev pub lifted_in : List Lift → Span → Span
lifted_in lifts s = lifted_by (lift_of lifts s).add s

-- the spans by what a shelf has of them
abbrev pub lifted : List Lift → List Span → List Span
lifted lifts spans = map (lifted_in lifts) spans

-- no span has more capacity than its lift says
abbrev pub AreCovered : List Lift → List Span → Type 0
AreCovered lifts spans =
    AllByRecursion (λ (s : Span). (lifted_in lifts s).spare ≤ℤ (lift_of lifts s).high) spans
