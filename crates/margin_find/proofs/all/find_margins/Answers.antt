use Rattle.std.proofs.Common.{ap, ◌∙◌}
use Rattle.std.proofs.lemmas.List.Elements.{All-same}
use Rattle.margin_find.specs.Parts.{IsTaskOf}
use Rattle.margin_find.specs.Margins.{parts_of}
use Rattle.margin_find.proofs.MarginLists.{parts-of}
use Rattle.margin_find.proofs.all.find_margins.Goals as goal

pub find_each-requires : goal.find_each-requires
find_each-requires c =
    let set = c.args.plan.now.tasks in
    All-same (IsTaskOf set) c.items.result.now (parts_of set) (c.items.ensures ∙ c.in_ok-parts.ensures ∙ ap parts_of c.tasks.ensures.tasks) (parts-of set)
