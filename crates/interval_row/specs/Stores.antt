-- What a table keeps its spans in.
use Rattle.std.specs.Prelude.{◌≡◌, ℕ, ◌≤◌, ◌^◌, List, length}
use Rattle.slot_core.specs.declared.jobs.Span.{Span}
use Rattle.node_chain.specs.declared.marks.Mark.{Mark}
use Rattle.node_chain.specs.Laps.{Laps}
use Rattle.node_chain.specs.Orders.{OrderParts}
pub use Rattle.node_chain.specs.Searches.{chain_spans}
use Rattle.interval_row.specs.Marks.{AreTimed}

-- what contracts see of a table: the spans, and how many there is room for
pub record Stored : Type 0 where
  pub spans : List Span
  pub room : ℕ

-- what contracts see of a plain list: the spans, how many there is room for, and the laps
pub record Listed : Type 0 where
  pub spans : List Span
  pub room : ℕ
  pub laps : Laps

-- what contracts see of a store: the spans, how many there is room for, and the marks
pub record StoreParts : Type 0 where
  pub spans : List Span
  pub room : ℕ
  pub marks : List Mark

-- a change of spans leaves how many there is room for, and the numbers beside them: the marks of a
-- store, the laps of a shelf
pub record Keeps {X N : Type 0} (room_of : X → ℕ) (numbers_of : X → N) (old new : X) : Type 0 where
  pub room : room_of new ≡ room_of old
  pub numbers : numbers_of new ≡ numbers_of old

-- a change of the numbers leaves the spans, and how many there is room for
pub record KeepsSpans {X : Type 0} (spans_of : X → List Span) (room_of : X → ℕ) (old new : X) :
    Type 0 where
  pub spans : spans_of new ≡ spans_of old
  pub room : room_of new ≡ room_of old

-- no more spans than there is room for, at most 2 ^ 20, with a place reserved for each
pub record FitRoom (order : OrderParts Span) (room : ℕ) : Type 0 where
  pub few : length order.items ≤ room
  pub small : room ≤ 2 ^ 20
  pub fits : room ≤ order.places

-- the spans of a table with their first start, their last end and their marks, no more than there
-- is room for, at most 2 ^ 20
pub record AreKeptMarked (spans : List Span) (room : ℕ) (marks : List Mark) (time end : ℕ) :
    Type 0 where
  pub timed : AreTimed time end spans marks
  pub few : length spans ≤ room
  pub small : room ≤ 2 ^ 20
