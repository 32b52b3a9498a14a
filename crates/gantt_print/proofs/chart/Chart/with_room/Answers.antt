-- The set has few tasks, and each row its marks.
use Rattle.std.proofs.Common.{◌≡◌, ◌≤◌, length, map, true, sym, subst, arith}
use Rattle.std.specs.Prelude.{All}
use Rattle.std.proofs.lemmas.Grind.{common_steps}
use Rattle.std.proofs.lemmas.List.{map-append}
use Rattle.std.proofs.lemmas.List.Elements.{All-weaker}
use Rattle.slot_core.specs.declared.TheConstants.{TASK_LIMIT}
use Rattle.slot_core.specs.declared.tasks.Graph.{Graph}
use Rattle.slot_core.specs.Output.Charts.{chart_rows}
use Rattle.slot_core.specs.Sets.Ranges.{graph_in_range}
use Rattle.slot_facts.proofs.Sets.Ranges.{few_tasks}
use Rattle.slot_facts.proofs.Sets.Sizes.{graphs-from_sound}
use Rattle.gantt_print.specs.Drawings.{HasMarks, unmarked}
use Rattle.gantt_print.proofs.ChartLemmas.{HasMarks-unmarked}
use Rattle.gantt_print.proofs.chart.Chart.with_room.Goals as goal

pub push_graphs-requires-clause-tasks : goal.push_graphs-requires-clause-tasks
push_graphs-requires-clause-tasks c =
    let few : All (λ (g : Graph). length g.tasks ≤ TASK_LIMIT) c.args.tasks.now.graphs =
    All-weaker (λ graph. graph_in_range graph ≡ true) (λ (g : Graph). length g.tasks ≤ TASK_LIMIT) few_tasks c.args.tasks.now.graphs (graphs-from_sound c.args.tasks.now c.requires.sound) in
    subst (All (λ (g : Graph). length g.tasks ≤ TASK_LIMIT)) (sym c.items.ensures) few

pub invariant_of-result : goal.invariant_of-result
invariant_of-result c =
    let rows : c.push-2.new.self.items ≡ map (unmarked c.args.slots) (chart_rows c.args.tasks.now) = grind (arith, common_steps, map-append) in
    (c.requires.few, subst (HasMarks c.args.slots) (sym rows) (HasMarks-unmarked c.args.slots (chart_rows c.args.tasks.now)))
