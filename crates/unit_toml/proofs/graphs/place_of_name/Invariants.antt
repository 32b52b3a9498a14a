use Rattle.std.proofs.Common.{◌≡◌, ◌+◌, drop}
use Rattle.unit_toml.specs.Reading.{place_of_name}
use Rattle.unit_toml.proofs.graphs.place_of_name.Given as goal

abbrev pub invariant-loop-t : goal.invariant-loop-t
invariant-loop-t l = place_of_name l.tasks l.name ≡ l.t + place_of_name (drop l.t l.tasks) l.name
