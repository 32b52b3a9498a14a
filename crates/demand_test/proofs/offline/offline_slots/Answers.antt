use Rattle.std.proofs.Common.{◌≡◌, ℕ, ◌+◌, ◌*◌, ◌/◌, ◌^◌, ◌<◌, ◌≤◌, true, List, length, take, get_or, sym, ap, ◌∙◌, arith}
use Rattle.std.specs.Prelude.{All, sum_by}
use Rattle.std.proofs.Math.Nat.{div-le_self}
use Rattle.std.proofs.lemmas.Nat.{mul-le}
use Rattle.std.proofs.lemmas.List.Sums.{sum_by_more}
use Rattle.slot_core.specs.declared.TheConstants.{SLOT_LIMIT, TASK_LIMIT}
use Rattle.slot_core.specs.declared.tasks.Task.{Task}
use Rattle.slot_core.specs.declared.tasks.Graph.{Graph}
use Rattle.slot_core.specs.Sets.Ranges.{graph_in_range}
use Rattle.demand_test.specs.Totals.{graph_work}
use Rattle.slot_facts.proofs.Sets.Sizes.{graph_slots-le}
use Rattle.demand_test.proofs.offline.offline_slots.Goals as goal

-- the tasks of the graph that is read declare few slots
few_slots : (graphs : List Graph) (i : ℕ) (graph : Graph) → All (λ g. graph_in_range g ≡ true) graphs → i < length graphs → graph ≡ get_or graphs i graph → sum_by (λ (t : Task). t.wcet) graph.tasks ≤ TASK_LIMIT * SLOT_LIMIT
few_slots graphs i graph all low is =
    graph_slots-le graph (ap graph_in_range is ∙ all i graph low)

-- one cycle of the graph is little work
little_work : (cycle : ℕ) (graph : Graph) → cycle < 2 ^ 32 → sum_by (λ (t : Task). t.wcet) graph.tasks ≤ TASK_LIMIT * SLOT_LIMIT → graph_work cycle graph ≤ 2 ^ 32 * (TASK_LIMIT * SLOT_LIMIT)
little_work cycle graph low few =
    omega (
      arith,
      mul-le (cycle / graph.period) (sum_by (λ (t : Task). t.wcet) graph.tasks) (2 ^ 32) (TASK_LIMIT * SLOT_LIMIT) (omega (arith, div-le_self cycle graph.period)) few,
    )

-- the work of the graphs so far, and of the next
more_work : (cycle : ℕ) (graphs : List Graph) (i : ℕ) (graph : Graph) → i < length graphs → graph ≡ get_or graphs i graph → sum_by (graph_work cycle) (take (i + 1) graphs) ≡ sum_by (graph_work cycle) (take i graphs) + graph_work cycle graph
more_work cycle graphs i graph low is =
    sum_by_more (graph_work cycle) graphs i graph low
    ∙ ap (λ (g : Graph). sum_by (graph_work cycle) (take i graphs) + graph_work cycle g) (sym is)

pub declared_slots-requires : goal.declared_slots-requires
declared_slots-requires c =
    let few = few_slots c.args.graphs.now c.loop-graph.graph-index c.graph-item.result c.requires.in_range c.loop-graph-test.true c.graph-item.is in
    rw c.items.ensures (omega arith)

pub overflow_mul-slots : goal.overflow_mul-slots
overflow_mul-slots c =
    let graph = c.graph-item.result in
    let few = few_slots c.args.graphs.now c.loop-graph.graph-index graph c.requires.in_range c.loop-graph-test.true c.graph-item.is in
    let little = little_work c.args.cycle graph (omega arith) few in
    let work : c.from.result * c.declared_slots.result ≡ graph_work c.args.cycle graph = cc in
    omega arith

pub overflow_add-slots : goal.overflow_add-slots
overflow_add-slots c =
    let graph = c.graph-item.result in
    let few = few_slots c.args.graphs.now c.loop-graph.graph-index graph c.requires.in_range c.loop-graph-test.true c.graph-item.is in
    let little = little_work c.args.cycle graph (omega arith) few in
    let work : c.from.result * c.declared_slots.result ≡ graph_work c.args.cycle graph = cc in
    omega arith

pub loop-graph-preserved : goal.loop-graph-preserved
loop-graph-preserved c =
    let graph = c.graph-item.result in
    let few = few_slots c.args.graphs.now c.loop-graph.graph-index graph c.requires.in_range c.loop-graph-test.true c.graph-item.is in
    let little = little_work c.args.cycle graph (omega arith) few in
    let work : c.from.result * c.declared_slots.result ≡ graph_work c.args.cycle graph = cc in
    let more = more_work c.args.cycle c.args.graphs.now c.loop-graph.graph-index graph c.loop-graph-test.true c.graph-item.is in
    (omega arith, omega arith)
