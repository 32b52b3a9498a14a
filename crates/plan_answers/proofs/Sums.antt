-- The sums of a load are the demand of the whole cycle.
use Rattle.std.proofs.Common.{◌≡◌, ℕ, ◌+◌, ◌*◌, ◌/◌, ◌^◌, ◌<◌, ◌≤◌, true, List, [], ◌∷◌, get_or, refl, sym, ap, ◌∙◌, arith}
use Rattle.std.specs.Prelude.{All, sum_by}
use Rattle.std.proofs.lemmas.List.Sums.{sum_by-cons}
use Rattle.slot_core.specs.declared.tasks.Task.{Task}
use Rattle.slot_core.specs.declared.tasks.Graph.{Graph}
use Rattle.slot_core.specs.declared.tasks.Sporadic.{Sporadic}
use Rattle.slot_core.specs.declared.tasks.TaskSet.{TaskSet}
use Rattle.slot_core.specs.Feasibility.Feasible.{demand}
use Rattle.slot_core.specs.Feasibility.Sporadics.{sporadic_demand}
use Rattle.slot_core.specs.Sets.Ranges.{is_sound}
use Rattle.demand_test.specs.Totals.{graph_work}
use Rattle.demand_test.proofs.CycleTotals.{demand-cycle}
use Rattle.slot_facts.proofs.Demand.Arrivals.{sporadic_demand-sum_by}
use Rattle.slot_facts.proofs.Lists.Sums.{sum_by-agree}
use Rattle.slot_facts.proofs.Sets.Sizes.{sporadic_demand-small}
use Rattle.plan_answers.specs.Loads.{task_load, planned_load, reserved_load, sporadic_load}

-- a sum of products
sum_by-times : {X : Type 0} (n : ℕ) (f : X → ℕ) (xs : List X) → sum_by (λ x. n * f x) xs ≡ n * sum_by f xs
sum_by-times n f [] = omega arith
sum_by-times n f (x ∷ xs) =
    omega (arith, sum_by-cons (λ y. n * f y) x xs, sum_by-cons f x xs, sum_by-times n f xs, ap (λ m. n * m) (sum_by-cons f x xs))

-- the slots of the tasks of a graph are those of the jobs that it releases in a cycle
planned-graphs : (set : TaskSet) (cycle : ℕ) → planned_load set cycle ≡ sum_by (graph_work cycle) set.graphs
planned-graphs set cycle =
    sum_by-agree (λ (g : Graph). sum_by (task_load cycle g) g.tasks) (graph_work cycle) set.graphs (λ i d _. let g = get_or set.graphs i d in sum_by-times (cycle / g.period) (λ (t : Task). t.wcet) g.tasks)

-- what is reserved is the demand of the densest arrivals
pub reserved-sporadics : (set : TaskSet) (cycle : ℕ) → reserved_load set cycle ≡ sporadic_demand set.sporadics [] 0 cycle
reserved-sporadics set cycle = sym (sporadic_demand-sum_by set.sporadics 0 cycle)

-- both sums are the demand of the whole cycle
pub loads-demand : (set : TaskSet) (cycle : ℕ) → is_sound set ≡ true → planned_load set cycle + reserved_load set cycle ≡ demand set cycle 0 cycle
loads-demand set cycle sound =
    omega (arith, planned-graphs set cycle, reserved-sporadics set cycle, demand-cycle set cycle sound)

-- what is reserved is far from an overflow
pub reserved-small : (set : TaskSet) (cycle : ℕ) → is_sound set ≡ true → cycle < 2 ^ 32 → reserved_load set cycle < 2 ^ 63
reserved-small set cycle sound few = omega (arith, reserved-sporadics set cycle, sporadic_demand-small set cycle sound few)
