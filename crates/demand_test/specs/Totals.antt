-- The offline work of one cycle.
use Rattle.std.specs.Prelude.{ℕ, ◌*◌, ◌/◌, sum_by}
use Rattle.slot_core.specs.declared.tasks.Task.{Task}
use Rattle.slot_core.specs.declared.tasks.Graph.{Graph}

-- the declared slots of the jobs that a graph releases in one cycle
abbrev pub graph_work : ℕ → Graph → ℕ
graph_work cycle graph = (cycle / graph.period) * sum_by (λ (t : Task). t.wcet) graph.tasks
