-- The row of a group.
use Rattle.std.specs.Prelude.{ℕ, ◌+◌, ◌/◌, ◌%◌, pos, ◌-ℤ◌, List, [], ◌∷◌, ◌++◌, codes, decimal, Option, Some, None}
use Rattle.std.specs.Fmt.{signed_decimal}
use Rattle.slot_core.specs.declared.tasks.TaskSet.{TaskSet}
use Rattle.csv_table.specs.Cells.{optional_text}
use Rattle.view_stats.specs.declared.figures.Figures.{Figures}
use Rattle.view_stats.specs.declared.figures.Fixed.{Fixed}
use Rattle.view_stats.specs.declared.groups.Group.{Group}
use Rattle.view_stats.specs.Groups.{group_graph, group_kind, group_task}

-- the names of the fields
abbrev pub stat_names : List (List ℕ)
stat_names =
    codes "kind" ∷ codes "graph" ∷ codes "task" ∷ codes "jobs" ∷ codes "ended" ∷ codes "ran"
    ∷ codes "load" ∷ codes "fastest" ∷ codes "mean" ∷ codes "p95" ∷ codes "slowest"
    ∷ codes "slack" ∷ codes "closest" ∷ codes "farthest" ∷ codes "preemptions" ∷ []

-- the last two digits of a number
abbrev pub two_digits : ℕ → List ℕ
two_digits n = (48 + n / 10 % 10) ∷ (48 + n % 10) ∷ []

-- a number with two decimals
abbrev pub hundredths_text : Option Fixed → List ℕ
hundredths_text None = []
hundredths_text (Some n) = decimal n.whole ++ codes "." ++ two_digits n.parts

-- a number with four decimals
abbrev pub ten_thousandths_text : Option Fixed → List ℕ
ten_thousandths_text None = []
ten_thousandths_text (Some n) =
    decimal n.whole ++ codes "." ++ two_digits (n.parts / 100) ++ two_digits n.parts

-- the slack from an end to a deadline: below 0 where the end is later
abbrev pub slack_text : Option (ℕ × ℕ) → List ℕ
slack_text None = []
slack_text (Some due) = signed_decimal (pos due.0 -ℤ pos due.1)

-- the fields of the row of a group that has these figures
abbrev pub stat_row : TaskSet → Group → Figures → List (List ℕ)
stat_row set group figures =
    group_kind group
    ∷ group_graph set group
    ∷ group_task set group
    ∷ decimal figures.jobs
    ∷ decimal figures.ended
    ∷ decimal figures.ran
    ∷ ten_thousandths_text figures.load
    ∷ optional_text figures.fastest
    ∷ hundredths_text figures.mean
    ∷ optional_text figures.p95
    ∷ optional_text figures.slowest
    ∷ slack_text figures.due
    ∷ optional_text figures.closest
    ∷ optional_text figures.farthest
    ∷ decimal figures.preemptions
    ∷ []
