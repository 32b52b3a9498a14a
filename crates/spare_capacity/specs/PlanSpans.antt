-- What the spans of a plan are.
use Rattle.std.specs.Prelude.{◌≡◌, ◌≤◌, ◌<◌, pos, ◌≤ℤ◌, List, length}
use Rattle.std.specs.List.{AllByRecursion}
use Rattle.slot_core.specs.declared.jobs.Span.{Span}
use Rattle.spare_capacity.specs.Recurrence.{filled, first_spare, FollowOn}

-- each span has its end above its start
abbrev pub AreProper : List Span → Type 0
AreProper spans = AllByRecursion (λ (s : Span). s.start < s.end) spans

-- a plan's spans: some, consecutive from 0, proper, with their capacities by the recurrence, the
-- first of which is at least 0
pub record ArePlanSpans (spans : List Span) : Type 0 where
  pub some : 1 ≤ length spans
  pub consecutive : FollowOn 0 spans
  pub proper : AreProper spans
  pub filled : spans ≡ filled spans
  pub first : pos 0 ≤ℤ first_spare spans
