-- The chart has the rows of the set.
use Rattle.gantt_print.specs.Drawings.{IsChartOf}
use Rattle.library_tests.proofs.charts.taken.Given as goal

abbrev pub invariant-loop-time : goal.invariant-loop-time
invariant-loop-time l = IsChartOf l.tasks l.chart
