use Rattle.std.proofs.Common.{drop, ap, sym, ◌∙◌}
use Rattle.std.proofs.lemmas.List.{drop-drop}
use Rattle.node_chain.specs.Orders.{OrderParts}
use Rattle.node_chain.proofs.order.Order.pop_front.Goals as goal

pub returns-clause-items : goal.returns-clause-items
returns-clause-items g c =
    let s = c.self.inside in
    sym (drop-drop 1 s.head s.row.items) ∙ ap (λ (o : OrderParts g.row.T.Denot). drop 1 o.items) c.self.view_is
