use Rattle.std.proofs.Common.{◌≡◌, ℕ, ◌+◌, ◌-◌, ◌≤◌, List}
use Rattle.slot_core.specs.declared.TheConstants.{ARRIVAL_LIMIT}
use Rattle.arrival_csv.specs.Reading.{reading_of_arrivals}
use Rattle.arrival_csv.specs.Rows.{HasRows}
use Rattle.arrival_csv.specs.SoFar.{read_with}
use Rattle.arrival_csv.proofs.read_records.Given as goal

abbrev pub invariant-loop-so_far : goal.invariant-loop-so_far
invariant-loop-so_far l =
    record {
      few : l.so_far.row ≤ ARRIVAL_LIMIT + 1;
      rows : List (List (List ℕ));
      left : HasRows l.reader rows;
      reading : read_with l.tasks l.slots l.so_far rows ≡ reading_of_arrivals l.bytes l.slots l.tasks;
    }

abbrev pub decreases-loop-so_far : goal.decreases-loop-so_far
decreases-loop-so_far l = ARRIVAL_LIMIT + 1 - l.so_far.row
