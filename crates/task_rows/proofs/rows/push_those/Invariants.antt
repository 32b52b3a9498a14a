use Rattle.std.proofs.Common.{◌≡◌, ◌++◌, take}
use Rattle.std.specs.Prelude.{filter}
use Rattle.task_rows.specs.Rows.{is_for_arrivals}
use Rattle.task_rows.proofs.rows.push_those.Given as goal

abbrev pub invariant-loop-row : goal.invariant-loop-row
invariant-loop-row l =
    l.rows.items ≡ l.initial.rows.items ++ filter is_for_arrivals (take l.row-index l.run)
