-- What soundness says of the numbers of a task set.
use Rattle.std.proofs.Common.{◌≡◌, ℕ, ◌+◌, ◌*◌, ◌^◌, ◌<◌, ◌≤◌, true, List, [], ◌∷◌, length, arith}
use Rattle.std.specs.Prelude.{All, sum_by, is_none}
use Rattle.std.proofs.lemmas.Bool.{and_parts}
use Rattle.std.proofs.lemmas.List.Elements.{All-weaker, All-head, All-tail}
use Rattle.std.proofs.lemmas.List.Sums.{sum_by-le, AllPass-from_list_all}
use Rattle.std.proofs.Math.Nat.{mul-le-mul_right}
use Rattle.std.proofs.lemmas.Nat.{mul-le}
use Rattle.slot_core.specs.declared.TheConstants.{SLOT_LIMIT, SPORADIC_LIMIT, TASK_LIMIT}
use Rattle.slot_core.specs.declared.tasks.Task.{Task}
use Rattle.slot_core.specs.declared.tasks.Graph.{Graph}
use Rattle.slot_core.specs.declared.tasks.Sporadic.{Sporadic}
use Rattle.slot_core.specs.declared.tasks.TaskSet.{TaskSet}
use Rattle.slot_core.specs.Sets.Faults.{set_fault}
use Rattle.slot_core.specs.Feasibility.Sporadics.{arrivals_due, sporadic_demand}
use Rattle.slot_core.specs.Sets.Ranges.{task_in_range, graph_in_range, sporadic_in_range, is_in_range, is_sound}
use Rattle.slot_facts.proofs.Sets.Ranges.{bounds, TaskRanges-from_test, GraphRanges-from_test, SporadicRanges-from_test, SetRanges-from_sound, few_tasks, few_sporadics}
use Rattle.slot_facts.proofs.Demand.Arrivals.{arrivals_due-le}

-- the tasks of a graph in range declare few slots
wcet-le : (task : Task) → task_in_range task ≡ true → task.wcet ≤ SLOT_LIMIT
wcet-le task h = (bounds 1 SLOT_LIMIT task.wcet (TaskRanges-from_test task h).wcet).1

pub graph_slots-le : (graph : Graph) → graph_in_range graph ≡ true → sum_by (λ (t : Task). t.wcet) graph.tasks ≤ TASK_LIMIT * SLOT_LIMIT
graph_slots-le graph h =
    let tasks = AllPass-from_list_all task_in_range graph.tasks (GraphRanges-from_test graph h).tasks in
    let small = All-weaker (λ task. task_in_range task ≡ true) (λ (task : Task). task.wcet ≤ SLOT_LIMIT) wcet-le graph.tasks tasks in
    omega (arith, few_tasks graph h, sum_by-le (λ (t : Task). t.wcet) SLOT_LIMIT graph.tasks small)

-- the graphs of a sound set are in range
pub graphs-from_sound : (set : TaskSet) → is_sound set ≡ true → All (λ graph. graph_in_range graph ≡ true) set.graphs
graphs-from_sound set sound = AllPass-from_list_all graph_in_range set.graphs (SetRanges-from_sound set sound).graphs

-- the slots of a sporadic task of a sound set
sporadic_wcet-le : (s : Sporadic) → sporadic_in_range s ≡ true → s.wcet ≤ SLOT_LIMIT
sporadic_wcet-le s h = (bounds 1 SLOT_LIMIT s.wcet (SporadicRanges-from_test s h).wcet).1

sporadic_wcets : (set : TaskSet) → is_sound set ≡ true → All (λ (s : Sporadic). s.wcet ≤ SLOT_LIMIT) set.sporadics
sporadic_wcets set sound =
    All-weaker (λ s. sporadic_in_range s ≡ true) (λ (s : Sporadic). s.wcet ≤ SLOT_LIMIT) sporadic_wcet-le set.sporadics (AllPass-from_list_all sporadic_in_range set.sporadics (SetRanges-from_sound set sound).sporadics)

-- the arrivals of few tasks need few slots
sporadic_demand-le : (ss : List Sporadic) (x : ℕ) → All (λ (s : Sporadic). s.wcet ≤ SLOT_LIMIT) ss → sporadic_demand ss [] 0 x ≤ length ss * (SLOT_LIMIT * (x + 1))
sporadic_demand-le [] x small = omega arith
sporadic_demand-le (s ∷ ss) x small =
    let here = mul-le s.wcet (arrivals_due s 0 0 x) SLOT_LIMIT (x + 1) (All-head (λ (s : Sporadic). s.wcet ≤ SLOT_LIMIT) s ss small) (arrivals_due-le s 0 x) in
    let others = sporadic_demand-le ss x (All-tail (λ (s : Sporadic). s.wcet ≤ SLOT_LIMIT) s ss small) in
    omega arith

pub sporadic_demand-small : (set : TaskSet) (x : ℕ) → is_sound set ≡ true → x < 2 ^ 32 → sporadic_demand set.sporadics [] 0 x < 2 ^ 63
sporadic_demand-small set x sound low =
    let each = sporadic_demand-le set.sporadics x (sporadic_wcets set sound) in
    let few = few_sporadics set (and_parts (is_in_range set) (is_none (set_fault set)) sound).0 in
    let all : length set.sporadics * (SLOT_LIMIT * (x + 1)) ≤ SPORADIC_LIMIT * (SLOT_LIMIT * (x + 1)) = mul-le-mul_right (SLOT_LIMIT * (x + 1)) few in
    omega arith
