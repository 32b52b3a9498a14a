-- The sum so far.
use Rattle.std.proofs.Common.{◌≡◌, take}
use Rattle.std.specs.Prelude.{map}
use Rattle.view_stats.specs.declared.outcomes.Outcome.{Outcome}
use Rattle.view_stats.specs.Figures.{total}
use Rattle.view_stats.proofs.figures.ran_in.Given as goal

abbrev pub invariant-loop-outcome : goal.invariant-loop-outcome
invariant-loop-outcome l =
    l.ran ≡ total (map (λ (o : Outcome). o.ran) (take l.outcome-index l.outcomes))
