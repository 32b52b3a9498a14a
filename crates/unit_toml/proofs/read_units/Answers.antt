use Rattle.toml.specs.View.{table_view}
use Rattle.unit_toml.proofs.Shapes.{shaped-answer}
use Rattle.unit_toml.proofs.read_units.Goals as goal

pub returns-clause-shaped : goal.returns-clause-shaped
returns-clause-shaped c =
    shaped-answer c.read_set.result (table_view c.in_ok-document.document) c.read_set.ensures
