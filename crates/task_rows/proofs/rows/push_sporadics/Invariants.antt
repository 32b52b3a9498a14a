use Rattle.std.proofs.Common.{◌≡◌, ◌++◌, map, take}
use Rattle.task_rows.specs.Rows.{sporadic_row}
use Rattle.task_rows.proofs.rows.push_sporadics.Given as goal

abbrev pub invariant-loop-sporadic : goal.invariant-loop-sporadic
invariant-loop-sporadic l =
    l.rows.items ≡ l.initial.rows.items ++ map sporadic_row (take l.sporadic-index l.sporadics)
