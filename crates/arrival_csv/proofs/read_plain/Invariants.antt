use Rattle.std.proofs.Common.{◌≡◌, ◌+◌, ◌-◌, ◌≤◌}
use Rattle.csv.specs.Reading.{records, default_config}
use Rattle.slot_core.specs.declared.TheConstants.{ARRIVAL_LIMIT}
use Rattle.arrival_csv.specs.Reading.{reading_of_arrivals}
use Rattle.arrival_csv.specs.SoFar.{read_with}
use Rattle.arrival_csv.proofs.read_plain.Given as goal

abbrev pub invariant-loop-text : goal.invariant-loop-text
invariant-loop-text l =
    record {
      few : l.so_far.row ≤ ARRIVAL_LIMIT + 1;
      reading : read_with l.tasks l.slots l.so_far (records default_config l.left) ≡ reading_of_arrivals l.bytes l.slots l.tasks;
    }

abbrev pub decreases-loop-text : goal.decreases-loop-text
decreases-loop-text l = ARRIVAL_LIMIT + 1 - l.so_far.row
