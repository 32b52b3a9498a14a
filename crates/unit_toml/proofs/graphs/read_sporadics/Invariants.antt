use Rattle.std.proofs.Common.{◌≡◌, drop, map}
use Rattle.toml.specs.View.{table_view}
use Rattle.unit_toml.specs.Reading.{each, sporadic_of}
use Rattle.unit_toml.proofs.EachLoop.{with_before}
use Rattle.unit_toml.proofs.graphs.read_sporadics.Given as goal

abbrev pub invariant-loop-s : goal.invariant-loop-s
invariant-loop-s l =
    each sporadic_of 0 (map (λ t. table_view t.now) l.tables) ≡ with_before l.sporadics (each sporadic_of l.s (map (λ t. table_view t.now) (drop l.s l.tables)))
