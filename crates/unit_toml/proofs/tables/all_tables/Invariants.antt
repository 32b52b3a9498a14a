use Rattle.std.proofs.Common.{◌≡◌, ◌++◌, drop, map, option_map}
use Rattle.toml.specs.View.{items_view, table_view}
use Rattle.unit_toml.specs.Reading.{all_tables}
use Rattle.unit_toml.proofs.tables.all_tables.Given as goal

abbrev pub invariant-loop-item : goal.invariant-loop-item
invariant-loop-item l =
    all_tables (items_view l.items) ≡ option_map (λ ts. map (λ t. table_view t.now) l.tables ++ ts) (all_tables (items_view (drop l.item-index l.items)))
