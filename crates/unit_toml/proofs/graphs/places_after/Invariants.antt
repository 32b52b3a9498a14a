use Rattle.std.proofs.Common.{◌≡◌, ◌++◌, map, drop}
use Rattle.unit_toml.specs.Reading.{NamedTask, place_of_name}
use Rattle.unit_toml.proofs.graphs.places_after.Given as goal

abbrev pub invariant-loop-task : goal.invariant-loop-task
invariant-loop-task l =
    map (λ (t : NamedTask). map (place_of_name l.tasks) t.after) l.tasks ≡ l.lists.items ++ map (λ (t : NamedTask). map (place_of_name l.tasks) t.after) (drop l.task-index l.tasks)
