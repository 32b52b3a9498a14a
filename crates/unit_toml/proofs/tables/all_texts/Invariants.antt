use Rattle.std.proofs.Common.{◌≡◌, ◌++◌, drop, map, option_map}
use Rattle.toml.specs.View.{items_view}
use Rattle.unit_toml.specs.Reading.{all_texts}
use Rattle.unit_toml.proofs.tables.all_texts.Given as goal

abbrev pub invariant-loop-item : goal.invariant-loop-item
invariant-loop-item l =
    all_texts (items_view l.items) ≡ option_map (λ ts. map (λ t. t.now) l.texts ++ ts) (all_texts (items_view (drop l.item-index l.items)))
