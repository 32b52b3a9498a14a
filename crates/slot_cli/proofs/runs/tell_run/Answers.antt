-- Texts that are written whole.
use Rattle.slot_core.specs.Output.Charts.{chart_text, tally_text}
use Rattle.slot_core.specs.Output.Texts.{trace_text}
use Rattle.slot_core.specs.Runs.Traces.{trace}
use Rattle.command_line.proofs.PartWritings.{parts-of_whole}
use Rattle.slot_cli.proofs.runs.tell_run.Goals as goal

pub returns-in-Trace : goal.returns-in-Trace
returns-in-Trace g c =
    let tasks = c.args.exec.now.plan.tasks in
    rw c.in-Trace.is (parts-of_whole _ _ _ (trace_text tasks (trace tasks c.args.arrivals.now c.args.slots)) _ _ _ c.tell_trace.ensures)

pub returns-in-Chart : goal.returns-in-Chart
returns-in-Chart g c =
    let tasks = c.args.exec.now.plan.tasks in
    rw c.in-Chart.is (parts-of_whole _ _ _ (chart_text tasks c.args.slots (trace tasks c.args.arrivals.now c.args.slots)) _ _ _ c.draw_trace.ensures)

pub returns-in-Tally : goal.returns-in-Tally
returns-in-Tally g c =
    let tasks = c.args.exec.now.plan.tasks in
    rw c.in-Tally.is (parts-of_whole _ _ _ (tally_text c.in-Tally.n c.args.slots (trace tasks c.args.arrivals.now c.args.slots)) _ _ _ c.count_trace.ensures)

-- and one that is put in parts
pub returns-in-Explanation : goal.returns-in-Explanation
returns-in-Explanation g c = rw c.in-Explanation.is c.tell_row.ensures
