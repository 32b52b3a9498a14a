use Rattle.std.proofs.Common.{arith}
use Rattle.std.proofs.lemmas.List.Sorted.{IsNonDecreasingBy-from_all_adjacent}
use Rattle.slot_core.specs.declared.jobs.Job.{Job}
use Rattle.demand_test.proofs.are_in_order.Goals as goal

pub returns : goal.returns
returns c =
    λ _. IsNonDecreasingBy-from_all_adjacent (λ (j : Job). j.est) c.args.jobs.now (λ k d low. c.loop-place.invariant k d (omega arith))
