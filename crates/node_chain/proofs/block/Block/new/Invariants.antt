use Rattle.node_chain.proofs.NodeWords.{AreFresh}
use Rattle.node_chain.proofs.block.Block.new.Given as goal

abbrev pub invariant-loop-place : goal.invariant-loop-place
invariant-loop-place l = AreFresh l.words l.count l.place
