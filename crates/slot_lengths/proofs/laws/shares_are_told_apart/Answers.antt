use Rattle.slot_lengths.proofs.Orders.{shares-are-told-apart}
use Rattle.slot_lengths.proofs.laws.shares_are_told_apart.Goals as goal

pub returns : goal.returns
returns c = shares-are-told-apart
