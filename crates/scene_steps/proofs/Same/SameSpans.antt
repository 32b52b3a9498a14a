-- Scenes that are the same have the same spans.
use Rattle.std.proofs.Common.{◌≡◌, ℕ, ◌-◌, List, length, take, ◌∙◌}
use Rattle.slot_core.specs.declared.TheConstants.{SHOWN_LIMIT}
use Rattle.slot_core.specs.Runs.Scenes.{Scene, horizon}
use Rattle.slot_core.specs.Runs.Spans.{spans_between, spans_of, shown_of}
use Rattle.slot_core.specs.Runs.Matches.{IsSameScene}
use Rattle.slot_facts.proofs.Plans.SpanSums.{spans_between-same}

-- between the same points, or the first of them, there are the same spans
spans_at-same : (cycle : ℕ) (a b : Scene) (some : List ℕ → List ℕ) → IsSameScene a b → spans_between a.jobs (horizon cycle a.time) a.time (some a.points) ≡ spans_between b.jobs (horizon cycle b.time) b.time (some b.points)
spans_at-same cycle a b some same =
    spans_between-same a.jobs b.jobs same.jobs (horizon cycle a.time) a.time (some a.points) ∙ λ i. spans_between b.jobs (horizon cycle (same.time i)) (same.time i) (some (same.points i))

-- the spans of the same scene are the same
pub spans_of-same : (cycle : ℕ) (a b : Scene) → IsSameScene a b → spans_of cycle a ≡ spans_of cycle b
spans_of-same cycle a b same = spans_at-same cycle a b (λ points. points) same

-- and so are those that are shown
pub shown_of-same : (cycle : ℕ) (a b : Scene) → IsSameScene a b → shown_of cycle a ≡ shown_of cycle b
shown_of-same cycle a b same =
    let spans = spans_at-same cycle a b (take SHOWN_LIMIT) same in
    λ i. record { spans = spans i; more = length (same.points i) - SHOWN_LIMIT }
