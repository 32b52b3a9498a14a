use Rattle.node_chain.proofs.Fronts.{set-rotated}
use Rattle.node_chain.proofs.front.shift.Goals as goal

pub returns : goal.returns
returns g c = rw c.rotate_left.ensures.after (set-rotated c.args.items.now c.args.item c.requires)
