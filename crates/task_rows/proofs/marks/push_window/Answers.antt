-- The times of an instance fit a number.
use Rattle.std.proofs.Common.{◌≡◌, ◌<◌, ◌≤◌, ◌^◌, ℕ, true, arith}
use Rattle.std.proofs.Math.Nat.{mul-le-mul}
use Rattle.slot_core.specs.declared.TheConstants.{SLOT_LIMIT}
use Rattle.slot_core.specs.declared.tasks.Graph.{Graph}
use Rattle.slot_core.specs.Offline.OfflineJobs.{deadline_of}
use Rattle.slot_core.specs.Sets.Ranges.{graph_in_range}
use Rattle.slot_facts.proofs.Sets.Ranges.{GraphFits-from_test, GraphRanges-from_test, bounds}
use Rattle.task_rows.proofs.marks.push_window.Goals as goal

small : (graph : Graph) (instance : ℕ) → graph_in_range graph ≡ true → instance < 2 ^ 34 → deadline_of graph instance ≤ 2 ^ 50
small graph instance in_range few =
    let period = bounds 1 SLOT_LIMIT graph.period (GraphRanges-from_test graph in_range).period in
    let near : instance ≤ 2 ^ 34 = omega (arith, few) in
    omega (arith, mul-le-mul near period.1, period, (GraphFits-from_test graph in_range).within)

pub overflow_mul-release : goal.overflow_mul-release
overflow_mul-release c =
    rw c.from.ensures (omega (arith, small c.args.graph.now c.args.instance c.requires.graph c.requires.instance))

pub overflow_add-release : goal.overflow_add-release
overflow_add-release c =
    rw (c.from.ensures, c.from-2.ensures) (omega (arith, small c.args.graph.now c.args.instance c.requires.graph c.requires.instance))

pub overflow_add-deadline : goal.overflow_add-deadline
overflow_add-deadline c =
    rw (c.from.ensures, c.from-2.ensures, c.from-3.ensures) (omega (arith, small c.args.graph.now c.args.instance c.requires.graph c.requires.instance))
