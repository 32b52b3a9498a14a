use Rattle.std.proofs.Common.{rules}
use Rattle.std.proofs.lemmas.Int.{wraps}
use Rattle.node_chain.proofs.raises.Raise.raised.Goals as goal

pub returns : goal.returns
returns c = search (rules, wraps)
