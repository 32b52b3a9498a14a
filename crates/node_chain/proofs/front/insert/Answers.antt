use Rattle.std.proofs.Common.{arith}
use Rattle.node_chain.proofs.Fronts.{inserted}
use Rattle.node_chain.proofs.front.insert.Goals as goal

pub returns-clause-items : goal.returns-clause-items
returns-clause-items g c =
    rw (c.shift.ensures, c.as_mut_slice.ensures.value) (inserted c.args.items.now.items c.args.head c.args.index c.args.items.now.len c.args.item c.args.items.now.ok.0 c.if-head-eq0.false (omega (arith, c.args.items.now.ok.0)))
