use Rattle.std.proofs.Common.{◌≡◌, ◌++◌, length, map}
use Rattle.std.specs.Iterator.Adapters.{zip_first, zip_second}
use Rattle.std.specs.Vec.Iter.{into_iter_items, into_iter_len}
use Rattle.unit_toml.specs.Reading.{with_indexes}
use Rattle.unit_toml.proofs.JoinedTasks.{all_joined}
use Rattle.unit_toml.proofs.graphs.with_indexes.Given as goal

abbrev pub invariant-loop-task : goal.invariant-loop-task
invariant-loop-task l =
    let tasks = zip_first l.task-iterator in
    let lists = zip_second l.task-iterator in
    record {
      so_far : map (with_indexes l.fn.named.items) l.fn.named.items ≡ l.tasks ++ all_joined (into_iter_items tasks) (into_iter_items lists);
      tasks_left : into_iter_len tasks ≡ length (into_iter_items tasks);
      lists_left : into_iter_len lists ≡ length (into_iter_items lists);
    }
