-- Places in a table of spans.
use Rattle.std.specs.Prelude.{◌≡◌, ℕ, ◌+◌, ◌≤◌, ◌<◌, List, length, take, Some, slice_get}
use Rattle.slot_core.specs.declared.jobs.Span.{Span}
use Rattle.spare_capacity.specs.Laws.{work_until}
use Rattle.interval_row.specs.Tables.{works}
use Rattle.guarantee.specs.declared.walk.SpanPlace.{SpanPlace}

-- a place among the spans of a table: its spot and its span are those at its index, and the works
-- of the spans before it are due
pub record IsPlace (spans : List Span) (place : SpanPlace) : Type 0 where
  pub within : place.index < length spans
  pub spot : place.at.0 ≡ place.index
  pub span : slice_get spans place.index ≡ Some place.span
  pub due : place.due ≡ works (take place.index spans)

-- the spans from one time to another may be passed: each time between is before `until`, and leaves
-- room for what is asked, counted from slot 0 on
pub record MayPass (spans : List Span) (asked until from to : ℕ) : Type 0 where
  pub before : (x : ℕ) → from ≤ x → x < to → x < until
  pub room : (x : ℕ) → from ≤ x → x < to → asked + work_until spans x ≤ x
