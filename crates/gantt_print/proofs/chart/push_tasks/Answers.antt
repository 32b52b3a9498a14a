-- One more row, and all of them.
use Rattle.std.proofs.Common.{◌≡◌, ℕ, ◌++◌, length, map, sym, ap, ◌∙◌, arith}
use Rattle.std.specs.List.{enumerate_from, range_with_len}
use Rattle.slot_core.specs.declared.tasks.Task.{Task}
use Rattle.slot_facts.proofs.Lists.Maps.{map-map}
use Rattle.slot_core.specs.Output.Charts.{task_row}
use Rattle.gantt_print.specs.Drawings.{unmarked}
use Rattle.gantt_print.proofs.RowLemmas.{appended-more, map-places}
use Rattle.gantt_print.proofs.chart.push_tasks.Goals as goal

pub loop-task-preserved : goal.loop-task-preserved
loop-task-preserved c =
    appended-more (λ t. unmarked c.args.slots (task_row c.args.index t)) c.args.tracks.now.items c.loop-task.tracks.items c.push.new.self.items c.loop-task.task c.in_ok-new.field-0 c.loop-task.invariant c.in_ok-push.ensures.items c.in_ok-new.ensures

pub returns : goal.returns
returns c =
    let count : c.loop-task.task ≡ length c.args.graph.now.tasks = omega arith in
    c.loop-task.invariant ∙ ap (λ ys. c.args.tracks.now.items ++ ys) (
    ap (λ n. map (λ t. unmarked c.args.slots (task_row c.args.index t)) (range_with_len 0 n)) count
    ∙ map-places (λ t. unmarked c.args.slots (task_row c.args.index t)) c.args.graph.now.tasks 0
    ∙ sym (map-map (unmarked c.args.slots) (λ (t : ℕ × Task). task_row c.args.index t.0) (enumerate_from 0 c.args.graph.now.tasks)))
