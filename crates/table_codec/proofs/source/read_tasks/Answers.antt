use Rattle.std.proofs.Common.{◌≡◌, ◌+◌, ◌-◌, ◌++◌, ◌∷◌, [], ap, ◌∙◌}
use Rattle.std.proofs.lemmas.Result.{err_from_is_err_and}
use Rattle.table_codec.specs.Grammar.{task_form}
use Rattle.table_codec.specs.Readers.{each_at}
use Rattle.table_codec.proofs.EachSteps.{with_front, goes_on, ends}
use Rattle.table_codec.proofs.source.read_tasks.Goals as goal

pub returns-in_err-task : goal.returns-in_err-task
returns-in_err-task c =
    let p = err_from_is_err_and c.from_residual.result c.from_residual.ensures.1 in
    rw (p.1, p.2) (ends (λ i. (task_form c.args.layout c.args.graph i).read) c.in_err-task.field-0.0 c.loop-t.tasks c.args.count c.loop-t.t c.loop-t.input (each_at (λ i. (task_form c.args.layout c.args.graph i).read) 0 c.args.count c.args.input.now) c.loop-t-test.true c.in_err-task.ensures c.loop-t.invariant)

pub loop-t-preserved : goal.loop-t-preserved
loop-t-preserved c =
    let pushed : c.push.new.self ≡ c.loop-t.tasks ++ c.in_ok-task.task ∷ [] = c.in_ok-push.ensures.ok in
    let next = goes_on (λ i. (task_form c.args.layout c.args.graph i).read) c.loop-t.tasks c.args.count c.loop-t.t c.loop-t.input c.read_task.new.input c.in_ok-task.task (each_at (λ i. (task_form c.args.layout c.args.graph i).read) 0 c.args.count c.args.input.now) c.loop-t-test.true c.in_ok-task.ensures c.loop-t.invariant in
    ap (λ front. with_front front (each_at (λ i. (task_form c.args.layout c.args.graph i).read) (c.loop-t.t + 1) (c.args.count - (c.loop-t.t + 1)) c.read_task.new.input)) pushed ∙ next
