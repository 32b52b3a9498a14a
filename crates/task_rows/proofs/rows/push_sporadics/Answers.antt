use Rattle.std.proofs.Common.{[], ◌∷◌, ◌++◌, ap, ◌∙◌}
use Rattle.run_blocks.specs.declared.rows.Row.TheVariants.{Sporadic}
use Rattle.task_rows.specs.Rows.{sporadic_row}
use Rattle.task_rows.proofs.Steps.{map-step}
use Rattle.task_rows.proofs.rows.push_sporadics.Goals as goal

pub loop-sporadic-preserved : goal.loop-sporadic-preserved
loop-sporadic-preserved c =
    map-step sporadic_row c.args.rows.now.items c.loop-sporadic.rows.items _ c.args.sporadics.now c.loop-sporadic.sporadic-index c.sporadic-item.result c.loop-sporadic-test.true c.sporadic-item.is c.loop-sporadic.invariant (c.in_ok-push.ensures.items ∙ ap (λ name. c.loop-sporadic.rows.items ++ Sporadic name ∷ []) c.copy_of.ensures)
