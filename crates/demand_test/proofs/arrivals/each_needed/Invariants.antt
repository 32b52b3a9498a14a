use Rattle.std.proofs.Common.{◌≡◌, [], ◌^◌, ◌<◌, map}
use Rattle.std.specs.List.{range_with_len, All}
use Rattle.slot_core.specs.Feasibility.Sporadics.{sporadic_demand}
use Rattle.demand_test.proofs.arrivals.each_needed.Given as goal

abbrev pub invariant-loop-end : goal.invariant-loop-end
invariant-loop-end l =
    (l.table ≡ map (λ x. sporadic_demand l.sporadics [] 0 x) (range_with_len 0 l.end)) × All (λ n. n < 2 ^ 63) l.table
