use Rattle.std.proofs.Common.{◌≡◌}
use Rattle.std.specs.Prelude.{MatchOption}
use Rattle.sporadic_reserve.proofs.Demands.{RisesAt}
use Rattle.sporadic_reserve.proofs.rates.next_rise.Given as goal

abbrev pub invariant-loop-rate : goal.invariant-loop-rate
invariant-loop-rate l =
    MatchOption l.first (l.rate-index ≡ 0) (λ y. RisesAt l.rates l.rate-index l.r l.x y)
