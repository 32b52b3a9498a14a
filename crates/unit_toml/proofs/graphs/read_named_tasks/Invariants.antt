use Rattle.std.proofs.Common.{◌≡◌, drop, length, map}
use Rattle.toml.specs.View.{table_view}
use Rattle.unit_toml.specs.Reading.{each, task_of}
use Rattle.unit_toml.proofs.EachLoop.{with_before}
use Rattle.unit_toml.proofs.graphs.read_named_tasks.Given as goal

abbrev pub invariant-loop-t : goal.invariant-loop-t
invariant-loop-t l =
    record {
      so_far : each (task_of l.graph) 0 (map (λ t. table_view t.now) l.tables) ≡ with_before l.tasks.items (each (task_of l.graph) l.t (map (λ t. table_view t.now) (drop l.t l.tables)));
      count : length l.tasks.items ≡ l.t;
    }
