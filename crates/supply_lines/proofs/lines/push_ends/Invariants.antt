-- The lines so far are appended.
use Rattle.std.proofs.Common.{◌≡◌, ◌++◌, take}
use Rattle.std.specs.Prelude.{flat_map}
use Rattle.supply_lines.specs.Lines.{line_in}
use Rattle.supply_lines.proofs.lines.push_ends.Given as goal

abbrev pub invariant-loop-end : goal.invariant-loop-end
invariant-loop-end l = l.text.items ≡ l.initial.text.items ++ flat_map (line_in l.table) (take l.end-index l.ends)
