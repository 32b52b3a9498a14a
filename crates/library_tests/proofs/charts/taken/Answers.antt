-- A chart of the set stays one.
use Rattle.std.proofs.Common.{sym, subst}
use Rattle.gantt_print.specs.Drawings.{IsChartOf}
use Rattle.gantt_print.proofs.ChartLemmas.{IsChartOf-empty, IsChartOf-with}
use Rattle.library_tests.proofs.charts.taken.Goals as goal

pub loop-time-init : goal.loop-time-init
loop-time-init c =
    subst (IsChartOf c.args.tasks.now) (sym c.in_ok-chart.ensures) (IsChartOf-empty c.args.tasks.now c.args.slots)

pub loop-time-preserved : goal.loop-time-preserved
loop-time-preserved c =
    subst (IsChartOf c.args.tasks.now) (sym c.in_ok-take.ensures.ok) (IsChartOf-with c.args.tasks.now c.loop-time.chart _ c.loop-time.invariant)
