use Rattle.std.proofs.Common.{◌++◌, ℕ, List, codes, ap, append_assoc, ◌∙◌}
use Rattle.std.specs.Prelude.{flat_map}
use Rattle.std.specs.List.{enumerate_from}
use Rattle.std.proofs.lemmas.Result.{on_ok_weaker}
use Rattle.slot_core.specs.declared.tasks.Task.{Task}
use Rattle.plan_answers.specs.Headers.{c_name, enumerator, task_lines}
use Rattle.plan_answers.proofs.header.push_graph.Goals as goal

pub returns : goal.returns
returns c =
    let graph = c.args.graph.now in
    let first = enumerator (codes "GRAPH_" ++ c_name graph.name) c.args.index in
    let tasks = flat_map (task_lines graph) (enumerate_from 0 graph.tasks) in
    on_ok_weaker c.push_tasks.result (λ told. told ∙ ap (λ (ts : List Task). c.push_named.new.text.items ++ flat_map (task_lines graph) (enumerate_from 0 ts)) c.items.ensures ∙ ap (λ (l : List ℕ). l ++ tasks) c.in_ok-push_named.ensures ∙ append_assoc c.args.text.now.items first tasks) c.push_tasks.ensures
