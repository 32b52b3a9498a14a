use Rattle.std.proofs.Common.{◌≡◌, ◌-◌}
use Rattle.node_chain.proofs.Full.{begun}
use Rattle.node_chain.proofs.words.WordRow.new.Given as goal

abbrev pub invariant-loop-place : goal.invariant-loop-place
invariant-loop-place l =
    (l.places.at ≡ l.origin.ptr) × (l.places.held ≡ begun l.place (l.count - l.place))
