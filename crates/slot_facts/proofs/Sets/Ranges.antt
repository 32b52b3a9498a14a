-- What the tests of the ranges say, part by part.
use Rattle.std.proofs.Common.{◌≡◌, ℕ, ◌+◌, ◌-◌, ◌≤◌, true, length, arith}
use Rattle.std.specs.Prelude.{nat_le, is_none}
use Rattle.std.specs.List.{list_all}
use Rattle.std.proofs.lemmas.Bool.{and_parts, leb-true}
use Rattle.slot_core.specs.declared.TheConstants.{GRAPH_LIMIT, TASK_LIMIT, AFTER_LIMIT, SPORADIC_LIMIT, SLOT_LIMIT, SOFT_LIMIT}
use Rattle.slot_core.specs.declared.tasks.Task.{Task}
use Rattle.slot_core.specs.declared.tasks.Graph.{Graph}
use Rattle.slot_core.specs.declared.tasks.Sporadic.{Sporadic}
use Rattle.slot_core.specs.declared.tasks.TaskSet.{TaskSet}
use Rattle.slot_core.specs.Sets.Names.{is_name}
use Rattle.slot_core.specs.Sets.Faults.{set_fault}
use Rattle.slot_core.specs.Sets.Ranges.{is_between, task_in_range, graph_in_range, sporadic_in_range, is_in_range, is_sound}

-- the two bounds of a range
pub bounds : (low high n : ℕ) → is_between low high n ≡ true → (low ≤ n) × (n ≤ high)
bounds low high n h =
    let (least, most) = and_parts (nat_le low n) (nat_le n high) h in
    (leb-true low n least, leb-true n high most)

pub record TaskRanges (task : Task) : Type 0 where
  pub wcet : is_between 1 SLOT_LIMIT task.wcet ≡ true
  pub entries : length task.after ≤ AFTER_LIMIT

pub TaskRanges-from_test : (task : Task) → task_in_range task ≡ true → TaskRanges task
TaskRanges-from_test task h =
    let (front, entries) = and_parts _ (nat_le (length task.after) AFTER_LIMIT) h in
    let (_, wcet) = and_parts (is_name task.name) (is_between 1 SLOT_LIMIT task.wcet) front in
    record { wcet = wcet; entries = leb-true (length task.after) AFTER_LIMIT entries }

pub record GraphRanges (graph : Graph) : Type 0 where
  pub period : is_between 1 SLOT_LIMIT graph.period ≡ true
  pub offset : graph.offset ≤ graph.period - 1
  pub deadline : (1 ≤ graph.deadline) × (graph.deadline ≤ graph.period - graph.offset)
  pub count : (1 ≤ length graph.tasks) × (length graph.tasks ≤ TASK_LIMIT)
  pub tasks : list_all task_in_range graph.tasks ≡ true

pub GraphRanges-from_test : (graph : Graph) → graph_in_range graph ≡ true → GraphRanges graph
GraphRanges-from_test graph h =
    let (counted, tasks) = and_parts _ (list_all task_in_range graph.tasks) h in
    let (due, count) = and_parts _ (is_between 1 TASK_LIMIT (length graph.tasks)) counted in
    let (released, deadline) = and_parts _ (is_between 1 (graph.period - graph.offset) graph.deadline) due in
    let (repeated, offset) = and_parts _ (is_between 0 (graph.period - 1) graph.offset) released in
    let (_, period) = and_parts (is_name graph.name) (is_between 1 SLOT_LIMIT graph.period) repeated in
    record {
      period = period;
      offset = (bounds 0 (graph.period - 1) graph.offset offset).1;
      deadline = bounds 1 (graph.period - graph.offset) graph.deadline deadline;
      count = bounds 1 TASK_LIMIT (length graph.tasks) count;
      tasks = tasks;
    }

pub record SporadicRanges (s : Sporadic) : Type 0 where
  pub wcet : is_between 1 SLOT_LIMIT s.wcet ≡ true
  pub separation : is_between 1 SLOT_LIMIT s.separation ≡ true
  pub deadline : (1 ≤ s.deadline) × (s.deadline ≤ s.separation)

pub SporadicRanges-from_test : (s : Sporadic) → sporadic_in_range s ≡ true → SporadicRanges s
SporadicRanges-from_test s h =
    let (apart, deadline) = and_parts _ (is_between 1 s.separation s.deadline) h in
    let (needs, separation) = and_parts _ (is_between 1 SLOT_LIMIT s.separation) apart in
    let (_, wcet) = and_parts (is_name s.name) (is_between 1 SLOT_LIMIT s.wcet) needs in
    record { wcet = wcet; separation = separation; deadline = bounds 1 s.separation s.deadline deadline }

pub record SetRanges (set : TaskSet) : Type 0 where
  pub soft : (1 ≤ set.soft_limit) × (set.soft_limit ≤ SOFT_LIMIT)
  pub count : (1 ≤ length set.graphs) × (length set.graphs ≤ GRAPH_LIMIT)
  pub graphs : list_all graph_in_range set.graphs ≡ true
  pub few : length set.sporadics ≤ SPORADIC_LIMIT
  pub sporadics : list_all sporadic_in_range set.sporadics ≡ true

pub SetRanges-from_test : (set : TaskSet) → is_in_range set ≡ true → SetRanges set
SetRanges-from_test set h =
    let (front, sporadics) = and_parts _ (list_all sporadic_in_range set.sporadics) h in
    let (listed, few) = and_parts _ (nat_le (length set.sporadics) SPORADIC_LIMIT) front in
    let (counted, graphs) = and_parts _ (list_all graph_in_range set.graphs) listed in
    let (soft, count) = and_parts (is_between 1 SOFT_LIMIT set.soft_limit) (is_between 1 GRAPH_LIMIT (length set.graphs)) counted in
    record {
      soft = bounds 1 SOFT_LIMIT set.soft_limit soft;
      count = bounds 1 GRAPH_LIMIT (length set.graphs) count;
      graphs = graphs;
      few = leb-true (length set.sporadics) SPORADIC_LIMIT few;
      sporadics = sporadics;
    }

pub SetRanges-from_sound : (set : TaskSet) → is_sound set ≡ true → SetRanges set
SetRanges-from_sound set sound =
    SetRanges-from_test set (and_parts (is_in_range set) (is_none (set_fault set)) sound).0

-- the limits are no higher; their values are used here alone
pub few_tasks : (graph : Graph) → graph_in_range graph ≡ true → length graph.tasks ≤ TASK_LIMIT
few_tasks graph h = omega (arith, (GraphRanges-from_test graph h).count)

pub few_graphs : (set : TaskSet) → is_in_range set ≡ true → length set.graphs ≤ GRAPH_LIMIT
few_graphs set h = omega (arith, (SetRanges-from_test set h).count)

pub few_sporadics : (set : TaskSet) → is_in_range set ≡ true → length set.sporadics ≤ SPORADIC_LIMIT
few_sporadics set h = omega (arith, (SetRanges-from_test set h).few)

-- the window of a graph lies in its period
pub record GraphFits (graph : Graph) : Type 0 where
  pub some_period : 1 ≤ graph.period
  pub some_deadline : 1 ≤ graph.deadline
  pub within : graph.offset + graph.deadline ≤ graph.period

pub GraphFits-from_test : (graph : Graph) → graph_in_range graph ≡ true → GraphFits graph
GraphFits-from_test graph h =
    let ranges = GraphRanges-from_test graph h in
    let period = bounds 1 SLOT_LIMIT graph.period ranges.period in
    record { some_period = period.0; some_deadline = ranges.deadline.0; within = omega (arith, period, ranges.offset, ranges.deadline) }
