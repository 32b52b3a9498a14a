use Rattle.std.proofs.Common.{◌≡◌, ◌+◌, ◌-◌, ◌≤◌, drop, length}
use Rattle.std.specs.List.{position_or_len}
use Rattle.arrival_csv.specs.Rows.{ends_field}
use Rattle.arrival_csv.proofs.plain.end_of_field.Given as goal

abbrev pub invariant-loop-end : goal.invariant-loop-end
invariant-loop-end l =
    record {
      within : l.end ≤ length l.text;
      place : l.end + position_or_len ends_field (drop l.end l.text) ≡ l.start + position_or_len ends_field (drop l.start l.text);
    }

abbrev pub decreases-loop-end : goal.decreases-loop-end
decreases-loop-end l = length l.text - l.end
