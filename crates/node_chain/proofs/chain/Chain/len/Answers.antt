use Rattle.std.proofs.Common.{ap, length, sym, ◌∙◌}
use Rattle.node_chain.specs.Chains.{Chained}
use Rattle.node_chain.proofs.Kept.{pairs-length}
use Rattle.node_chain.proofs.chain.Chain.len.Goals as goal

pub returns : goal.returns
returns c =
    let s = c.self.inside in
    sym (pairs-length s.block s.free s.len c.self.invariant.0) ∙ ap (λ (v : Chained). length v.pairs) c.self.view_is
