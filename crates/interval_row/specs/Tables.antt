-- What a table of spans is.
use Rattle.std.specs.Prelude.{◌≡◌, ℕ, ◌≤◌, ◌^◌, List, length, take, sum_by}
use Rattle.slot_core.specs.declared.jobs.Span.{Span}
use Rattle.spare_capacity.specs.PlanSpans.{AreProper}
use Rattle.spare_capacity.specs.Recurrence.{filled, FollowOn}
use Rattle.interval_row.specs.declared.table.Front.{Front}

-- a table at a time: some spans, consecutive from the time, proper, with their capacities by the
-- recurrence, and no more than it has room for, at most 2 ^ 20
pub record IsTable (time : ℕ) (spans : List Span) (limit : ℕ) : Type 0 where
  pub some : 1 ≤ length spans
  pub consecutive : FollowOn time spans
  pub proper : AreProper spans
  pub filled : spans ≡ filled spans
  pub few : length spans ≤ limit
  pub small : limit ≤ 2 ^ 20

-- a table whose spans change is one still, at the same time, with the same room
pub record Stays {X : Type 0} (time_of : X → ℕ) (spans_of : X → List Span) (limit_of : X → ℕ)
    (old new : X) : Type 0 where
  pub table : IsTable (time_of new) (spans_of new) (limit_of new)
  pub time : time_of new ≡ time_of old
  pub room : limit_of new ≡ limit_of old

-- the works of spans
abbrev pub works : List Span → ℕ
works spans = sum_by (λ (s : Span). s.work) spans

-- so many of the first spans, with their works
pub record IsFront (spans : List Span) (front : Front) : Type 0 where
  pub few : front.count ≤ length spans
  pub works : front.works ≡ works (take front.count spans)
