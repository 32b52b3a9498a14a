use Rattle.std.proofs.Common.{◌≡◌, ◌++◌, take}
use Rattle.std.specs.Prelude.{flat_map}
use Rattle.task_rows.specs.Marks.{line_marks}
use Rattle.task_rows.proofs.marks.push_taken.Given as goal

abbrev pub invariant-loop-line : goal.invariant-loop-line
invariant-loop-line l =
    l.marks.items ≡ l.initial.marks.items ++ flat_map (line_marks l.rows) (take l.line-index l.lines)
