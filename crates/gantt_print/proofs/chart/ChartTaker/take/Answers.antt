-- An entry that tells no run marks nothing.
use Rattle.std.proofs.Common.{[], ◌++◌, sym, ap, ◌∙◌, arith}
use Rattle.gantt_print.specs.Drawings.{drawing_with}
use Rattle.gantt_print.specs.DrawingLaws.{drawing_with-none}
use Rattle.gantt_print.proofs.MarkLemmas.{run_at-none}
use Rattle.gantt_print.proofs.chart.ChartTaker.take.Goals as goal

pub returns-in_default : goal.returns-in_default
returns-in_default c =
    let chart = c.args.self.now in
    let entry = c.args.entry.now in
    record {
      ok = drawing_with-none chart ∙ ap (λ runs. drawing_with (runs ++ []) chart) (sym (run_at-none entry.time entry.what c.in_default.not-Run));
      part = tt;
      counted = omega arith;
      failed = tt;
    }
