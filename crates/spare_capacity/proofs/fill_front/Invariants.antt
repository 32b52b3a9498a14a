use Rattle.std.proofs.Common.{◌≡◌}
use Rattle.spare_capacity.proofs.Steps.{filled_from}
use Rattle.spare_capacity.proofs.fill_front.Given as goal

-- the rows from `at` on have their capacities, and the others are as they were
abbrev pub invariant-loop-at : goal.invariant-loop-at
invariant-loop-at l = l.rows ≡ filled_from l.at l.initial.rows
