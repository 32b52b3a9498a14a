use Rattle.task_rows.specs.Rows.{is_for_arrivals}
use Rattle.task_rows.proofs.Steps.{filter-step}
use Rattle.task_rows.proofs.rows.push_those.Goals as goal

pub loop-row-preserved : goal.loop-row-preserved
loop-row-preserved c =
    filter-step is_for_arrivals c.args.rows.now.items c.loop-row.rows.items c.push_arrival.new.rows.items c.args.run.now c.loop-row.row-index c.row-item.result c.loop-row-test.true c.row-item.is c.loop-row.invariant c.in_ok-push_arrival.ensures
