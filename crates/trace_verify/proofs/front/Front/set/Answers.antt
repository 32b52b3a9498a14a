use Rattle.std.proofs.Common.{List, set, ap, ◌∙◌}
use Rattle.std.proofs.lemmas.List.{drop-set-add}
use Rattle.trace_verify.proofs.front.Front.set.Goals as goal

pub returns : goal.returns
returns g c =
    let s = c.self.inside in
    drop-set-add s.start s.row.items c.args.place c.args.item
    ∙ ap (λ (xs : List g.row.T.Denot). set xs c.args.place c.args.item) c.self.view_is
