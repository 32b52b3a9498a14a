use Rattle.std.proofs.Common.{◌≡◌, ◌+◌, ◌-◌, ◌++◌, ◌∷◌, [], ap, ◌∙◌}
use Rattle.std.proofs.lemmas.Result.{err_from_is_err_and}
use Rattle.table_codec.specs.Grammar.{index_form}
use Rattle.table_codec.specs.Readers.{each_at}
use Rattle.table_codec.proofs.EachSteps.{with_front, goes_on, ends}
use Rattle.table_codec.proofs.source.read_after.Goals as goal

pub returns-in_err-task : goal.returns-in_err-task
returns-in_err-task c =
    let p = err_from_is_err_and c.from_residual.result c.from_residual.ensures.1 in
    rw (p.1, p.2) (ends (λ _. index_form.read) c.in_err-task.field-0.0 c.loop.after c.args.count c.loop.counter c.loop.input (each_at (λ _. index_form.read) 0 c.args.count c.args.input.now) c.loop-test.true c.in_err-task.ensures c.loop.invariant)

pub loop-preserved : goal.loop-preserved
loop-preserved c =
    let pushed : c.push.new.self ≡ c.loop.after ++ c.in_ok-task.task ∷ [] = c.in_ok-push.ensures.ok in
    let next = goes_on (λ _. index_form.read) c.loop.after c.args.count c.loop.counter c.loop.input c.index.new.self c.in_ok-task.task (each_at (λ _. index_form.read) 0 c.args.count c.args.input.now) c.loop-test.true c.in_ok-task.ensures c.loop.invariant in
    ap (λ front. with_front front (each_at (λ _. index_form.read) (c.loop.counter + 1) (c.args.count - (c.loop.counter + 1)) c.index.new.self)) pushed ∙ next
