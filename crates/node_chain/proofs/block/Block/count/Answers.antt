use Rattle.std.proofs.Common.{ap, length, sym, ◌∙◌}
use Rattle.node_chain.proofs.NodeWords.{length-nodes}
use Rattle.node_chain.proofs.block.Block.count.Goals as goal

pub returns-clause-count : goal.returns-clause-count
returns-clause-count c =
    sym (length-nodes c.self.inside.words c.self.inside.count) ∙ ap length c.self.view_is
