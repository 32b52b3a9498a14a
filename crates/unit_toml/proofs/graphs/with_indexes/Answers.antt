use Rattle.std.proofs.Common.{◌≡◌, List, ℕ, [], map, rules, sym, ◌∙◌, append-nil, inl, inr}
use Rattle.std.specs.Iterator.Adapters.{zip_first, zip_second}
use Rattle.std.specs.Vec.Iter.{into_iter_items}
use Rattle.std.proofs.lemmas.Grind.{common_steps}
use Rattle.unit_toml.specs.Reading.{place_of_name, NamedTask}
use Rattle.unit_toml.proofs.JoinedTasks.{all_joined, all_joined-map, all_joined-empty_first, all_joined-empty_second}
use Rattle.unit_toml.proofs.graphs.with_indexes.Goals as goal

pub loop-task-init : goal.loop-task-init
loop-task-init c =
    let same = c.into_iter-task-iterator.ensures.into_iter_gives in
    let tasks : into_iter_items (zip_first c.into_iter-task-iterator.result) ≡ c.args.named.items = rw (same, c.zip-task-items.ensures.first) c.into_iter.ensures.rest in
    let places : NamedTask → List ℕ = λ t. map (place_of_name c.args.named.items) t.after in
    let lists : into_iter_items (zip_second c.into_iter-task-iterator.result) ≡ map places c.args.named.items =
    rw same (c.zip-task-items.ensures.second.0 ∙ rw c.deref.ensures.value at c.in_ok-lists.ensures.ok) in
    record {
      so_far = rw (c.new-tasks.ensures, tasks, lists) (sym (all_joined-map places c.args.named.items));
      tasks_left = search rules;
      lists_left = search rules;
    }

pub loop-task-preserved : goal.loop-task-preserved
loop-task-preserved c = record { so_far = search (rules, common_steps); tasks_left = search rules; lists_left = search rules }

pub returns-clause-ok : goal.returns-clause-ok
returns-clause-ok c =
    let at = c.loop-task.invariant in
    let tasks = into_iter_items (zip_first c.loop-task.task-iterator) in
    let lists = into_iter_items (zip_second c.loop-task.task-iterator) in
    let none : all_joined tasks lists ≡ [] =
    elim c.in-None.ensures.steps [
      | inl first ↦ all_joined-empty_first tasks lists (sym at.tasks_left ∙ first.1.0)
      | inr second ↦ all_joined-empty_second tasks lists (sym at.lists_left ∙ second.1.0)
    ] in
    sym (rw (none, append-nil) at at.so_far)
