use Rattle.std.proofs.Common.{◌≡◌}
use Rattle.toml.specs.View.{members_view, table_view}
use Rattle.unit_toml.specs.UnitFields.{knows_keys}
use Rattle.unit_toml.proofs.fields.check_keys.Given as goal

abbrev pub invariant-loop-key : goal.invariant-loop-key
invariant-loop-key l = knows_keys l.part (table_view l.table) ≡ knows_keys l.part (members_view l.key-iterator)
