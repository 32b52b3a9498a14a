use Rattle.std.proofs.Common.{◌≡◌, ◌∷◌, ◌∙◌, ap, refl, arith, rules, option_map}
use Rattle.std.proofs.lemmas.List.{map-append}
use Rattle.std.proofs.lemmas.Grind.{common_steps}
use Rattle.toml.proofs.Views.{view-Table}
use Rattle.toml.specs.Data.{Data, Items, item}
use Rattle.toml.specs.View.{table_view, view}
use Rattle.unit_toml.specs.Reading.{all_tables}
use Rattle.unit_toml.proofs.ItemsLoop.{items-more}
use Rattle.unit_toml.proofs.tables.all_tables.Goals as goal

pub returns-in_err-push : goal.returns-in_err-push
returns-in_err-push c = search rules

pub returns : goal.returns
returns c = grind (arith, common_steps)

pub loop-item-preserved : goal.loop-item-preserved
loop-item-preserved c =
    let value = c.item-item.result in
    let taken : (rest : Items) → all_tables (item (view value) rest) ≡ option_map (λ ts. table_view c.in-Table.table ∷ ts) (all_tables rest) = λ rest. ap (λ (d : Data). all_tables (item d rest)) (ap view c.in-Table.is ∙ view-Table c.in-Table.table) in
    items-more all_tables c.args.items.now c.loop-item.item-index value _ _ _ c.loop-item-test.true c.item-item.is taken (rw (c.in_ok-push.ensures.ok, map-append) refl) c.loop-item.invariant
