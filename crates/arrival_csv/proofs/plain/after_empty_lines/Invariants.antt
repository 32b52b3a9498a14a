use Rattle.std.proofs.Common.{◌≡◌, length}
use Rattle.csv.specs.Reading.{default_config, records}
use Rattle.arrival_csv.proofs.plain.after_empty_lines.Given as goal

abbrev pub invariant-loop-rest : goal.invariant-loop-rest
invariant-loop-rest l = records default_config l.text ≡ records default_config l.fn.text

abbrev pub decreases-loop-rest : goal.decreases-loop-rest
decreases-loop-rest l = length l.text
