use Rattle.std.proofs.Common.{arith}
use Rattle.std.proofs.lemmas.Grind.{common_steps}
use Rattle.toml.specs.View.{table_view}
use Rattle.unit_toml.specs.Reading.{task_of}
use Rattle.unit_toml.proofs.EachLoop.{each-more}
use Rattle.std.proofs.Common.{rules}
use Rattle.unit_toml.proofs.graphs.read_named_tasks.Goals as goal

pub loop-t-preserved : goal.loop-t-preserved
loop-t-preserved c =
    record {
      so_far = rw c.in_ok-push.ensures.items (each-more (task_of c.args.graph) (λ t. table_view t.now) c.args.tables.now c.loop-t.t c.index-tables-t.result _ _ _ c.loop-t-test.true c.index-tables-t.is c.in_ok-read_task.ensures c.loop-t.invariant.so_far);
      count = rw c.in_ok-push.ensures.items (grind (arith, common_steps));
    }

pub returns-in_err-read_task-clause-count : goal.returns-in_err-read_task-clause-count
returns-in_err-read_task-clause-count c = search rules

pub returns-in_err-push-clause-reading : goal.returns-in_err-push-clause-reading
returns-in_err-push-clause-reading c = search rules

pub returns-in_err-push-clause-count : goal.returns-in_err-push-clause-count
returns-in_err-push-clause-count c = search rules

pub returns-in_err-read_task-clause-reading : goal.returns-in_err-read_task-clause-reading
returns-in_err-read_task-clause-reading c = grind (arith, common_steps)

pub returns-clause-reading : goal.returns-clause-reading
returns-clause-reading c = grind (arith, common_steps)
