use Rattle.std.proofs.Common.{◌^◌, arith}
use Rattle.demand_test.proofs.Blocks.{small-blocks}
use Rattle.demand_test.proofs.ends.Ends.pass.Goals as goal

pub raise-requires-2-clause-small : goal.raise-requires-2-clause-small
raise-requires-2-clause-small c =
    λ k low high.
    let small = small-blocks c.args.self.now c.args.last k (2 ^ 31) c.requires.few high in
    omega arith
