use Rattle.std.proofs.Common.{◌≡◌, ◌≤◌, length, true, sym, subst}
use Rattle.std.specs.Prelude.{All}
use Rattle.std.proofs.lemmas.List.Elements.{All-weaker}
use Rattle.slot_core.specs.declared.TheConstants.{TASK_LIMIT}
use Rattle.slot_core.specs.declared.tasks.Graph.{Graph}
use Rattle.slot_core.specs.Sets.Ranges.{graph_in_range}
use Rattle.slot_facts.proofs.Sets.Ranges.{few_tasks}
use Rattle.slot_facts.proofs.Sets.Sizes.{graphs-from_sound}
use Rattle.plan_answers.proofs.header.parts_in.Goals as goal

pub tasks_in-requires-clause-tasks : goal.tasks_in-requires-clause-tasks
tasks_in-requires-clause-tasks c =
    let few : All (λ (g : Graph). length g.tasks ≤ TASK_LIMIT) c.args.tasks.now.graphs = All-weaker (λ graph. graph_in_range graph ≡ true) (λ (g : Graph). length g.tasks ≤ TASK_LIMIT) few_tasks c.args.tasks.now.graphs (graphs-from_sound c.args.tasks.now c.requires) in
    subst (All (λ (g : Graph). length g.tasks ≤ TASK_LIMIT)) (sym c.items-graphs.ensures) few
