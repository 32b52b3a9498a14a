use Rattle.std.proofs.Common.{◌≡◌, ◌++◌, map, drop}
use Rattle.unit_toml.specs.Reading.{place_of_name}
use Rattle.unit_toml.proofs.graphs.places_of_names.Given as goal

abbrev pub invariant-loop-name : goal.invariant-loop-name
invariant-loop-name l =
    map (place_of_name l.tasks) (map (λ name. name.now) l.names) ≡ l.places ++ map (place_of_name l.tasks) (map (λ name. name.now) (drop l.name-index l.names))
