use Rattle.std.proofs.Common.{◌≡◌, arith}
use Rattle.demand_test.proofs.ends.raise.Goals as goal

pub returns-clause-raised : goal.returns-clause-raised
returns-clause-raised c =
    let all : c.loop-place.place ≡ c.args.to = omega arith in
    rw (← all) c.loop-place.invariant.more
