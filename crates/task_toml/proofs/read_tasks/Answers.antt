use Rattle.toml.specs.View.{table_view}
use Rattle.task_toml.proofs.ShapeRanges.{shaped_set-Ok}
use Rattle.task_toml.proofs.read_tasks.Goals as goal

pub check-requires : goal.check-requires
check-requires c = shaped_set-Ok (table_view c.in_ok-document.document) c.in_ok-set.set c.in_ok-set.ensures

pub returns-clause-sound : goal.returns-clause-sound
returns-clause-sound c =
    rw (shaped_set-Ok (table_view c.in_ok-document.document) c.in_ok-set.set c.in_ok-set.ensures, c.in_ok-check.ensures.ok)
