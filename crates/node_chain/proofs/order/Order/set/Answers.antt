use Rattle.std.proofs.Common.{slice_set, ap, ◌∙◌}
use Rattle.std.proofs.lemmas.List.{drop-set-add}
use Rattle.node_chain.specs.Orders.{OrderParts}
use Rattle.node_chain.proofs.order.Order.set.Goals as goal

pub returns-clause-items : goal.returns-clause-items
returns-clause-items g c =
    let s = c.self.inside in
    drop-set-add s.head s.row.items c.args.index c.args.item ∙ ap (λ (o : OrderParts g.row.T.Denot). slice_set o.items c.args.index c.args.item) c.self.view_is
