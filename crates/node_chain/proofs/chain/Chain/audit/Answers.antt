use Rattle.std.proofs.Common.{subst}
use Rattle.node_chain.specs.Chains.{Chained, IsChain}
use Rattle.node_chain.proofs.Kept.{is_chain}
use Rattle.node_chain.proofs.chain.Chain.audit.Goals as goal

pub returns : goal.returns
returns c =
    subst (λ (v : Chained). IsChain v.pairs v.capacity) c.self.view_is
    (is_chain c.self.inside.block c.self.inside.free c.self.inside.len c.self.invariant.0)
