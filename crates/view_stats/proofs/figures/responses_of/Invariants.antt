-- The responses so far.
use Rattle.std.proofs.Common.{◌≡◌, take}
use Rattle.std.specs.List.{filter_map}
use Rattle.view_stats.specs.declared.outcomes.Outcome.{Outcome}
use Rattle.view_stats.proofs.figures.responses_of.Given as goal

abbrev pub invariant-loop-outcome : goal.invariant-loop-outcome
invariant-loop-outcome l =
    l.responses.items ≡ filter_map (λ (o : Outcome). o.response) (take l.outcome-index l.outcomes)
