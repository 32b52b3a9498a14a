use Rattle.std.proofs.Common.{◌++◌, ℕ, List, codes, ap, append_assoc, ◌∙◌}
use Rattle.std.proofs.lemmas.Result.{on_ok_weaker}
use Rattle.plan_answers.specs.Headers.{c_task, enumerator}
use Rattle.plan_answers.proofs.header.push_both.Goals as goal

pub returns : goal.returns
returns c =
    let name = c_task c.args.graph.now c.args.task.now in
    let index = enumerator (codes "TASK_" ++ name) c.args.index in
    let wcet = λ (n : ℕ). enumerator (codes "WCET_" ++ name) n in
    on_ok_weaker c.push_task-2.result (λ told. told ∙ ap (λ n. c.push_task.new.text.items ++ wcet n) c.from.ensures ∙ ap (λ (l : List ℕ). l ++ wcet c.args.task.now.wcet) c.in_ok-push_task.ensures ∙ append_assoc c.args.text.now.items index (wcet c.args.task.now.wcet)) c.push_task-2.ensures
