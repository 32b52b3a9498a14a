use Rattle.std.proofs.Common.{◌≡◌}
use Rattle.node_chain.specs.Chains.{id_at}
use Rattle.library_tests.proofs.chains.is_listed.Given as goal

abbrev pub invariant-loop-place : goal.invariant-loop-place
invariant-loop-place l = l.next ≡ id_at l.chain.pairs l._place
