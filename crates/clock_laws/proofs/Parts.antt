-- The graphs, tasks and sporadic tasks of a set in slots, by those of the set in physical time.
use Rattle.std.proofs.Common.{◌≡◌, ℕ, ◌+◌, ◌-◌, ◌*◌, ◌≤◌, ◌<◌, Some, Ok, ap, ◌∙◌, arith}
use Rattle.std.specs.Prelude.{slice_get}
use Rattle.std.proofs.Math.Nat.{add-mul, mul_assoc}
use Rattle.std.proofs.lemmas.Grind.{div_ceil_times}
use Rattle.slot_core.specs.declared.tasks.Task.{Task}
use Rattle.slot_core.specs.declared.tasks.Graph.{Graph}
use Rattle.slot_core.specs.declared.tasks.Sporadic.{Sporadic}
use Rattle.slot_core.specs.declared.tasks.TaskSet.{TaskSet}
use Rattle.slot_core.specs.Offline.OfflineJobs.{release_of, deadline_of}
use Rattle.clock_units.specs.declared.sets.PhysicalTask.{PhysicalTask}
use Rattle.clock_units.specs.declared.sets.PhysicalGraph.{PhysicalGraph}
use Rattle.clock_units.specs.declared.sets.PhysicalSporadic.{PhysicalSporadic}
use Rattle.clock_units.specs.declared.sets.PhysicalSet.{PhysicalSet}
use Rattle.clock_units.specs.Rounding.{down, up}
use Rattle.clock_units.specs.Derived.{task_of, graph_of, sporadic_of, derived_set}
use Rattle.clock_units.proofs.Parts.{SetParts-from_Ok, each-at, GraphParts, GraphParts-from_Ok, TaskParts, TaskParts-from_Ok, SporadicParts, SporadicParts-from_Ok}
use Rattle.clock_units.proofs.Roundings.{down-le, le-up}
use Rattle.clock_laws.specs.Service.{release_at, due_at}

-- what a slot of the set is worth
abbrev pub worth : PhysicalSet → ℕ
worth physical = physical.slot - physical.overhead

-- the graph in slots at the place of a physical one
pub record GraphAt (physical : PhysicalSet) (set : TaskSet) (g : ℕ) (own : PhysicalGraph) : Type 0 where
  pub graph : Graph
  pub at : slice_get set.graphs g ≡ Some graph
  pub parts : GraphParts physical.slot (worth physical) g own graph

pub GraphAt-from_derived : (physical : PhysicalSet) (set : TaskSet) (g : ℕ) (own : PhysicalGraph) → derived_set physical ≡ Ok set → slice_get physical.graphs g ≡ Some own → GraphAt physical set g own
GraphAt-from_derived physical set g own derived at =
    let parts = SetParts-from_Ok physical set derived in
    let found = each-at (graph_of physical.slot (worth physical)) 0 g physical.graphs set.graphs g own parts.graphs at (omega arith) in
    record { graph = found.item; at = found.at; parts = GraphParts-from_Ok physical.slot (worth physical) g own found.item found.is }

-- the task in slots at the place of a physical one
pub record TaskAt (worth : ℕ) (graph : Graph) (t : ℕ) (own : PhysicalTask) : Type 0 where
  pub task : Task
  pub at : slice_get graph.tasks t ≡ Some task
  pub parts : TaskParts worth own task

pub TaskAt-from_graph : (slot worth g t : ℕ) (physical : PhysicalGraph) (graph : Graph) (own : PhysicalTask) → GraphParts slot worth g physical graph → slice_get physical.tasks t ≡ Some own → TaskAt worth graph t own
TaskAt-from_graph slot worth g t physical graph own parts at =
    let found = each-at (task_of worth g) 0 t physical.tasks graph.tasks t own parts.tasks at (omega arith) in
    record { task = found.item; at = found.at; parts = TaskParts-from_Ok worth g t own found.item found.is }

-- the sporadic task in slots at the place of a physical one
pub record SporadicAt (physical : PhysicalSet) (set : TaskSet) (index : ℕ) (own : PhysicalSporadic) : Type 0 where
  pub sporadic : Sporadic
  pub at : slice_get set.sporadics index ≡ Some sporadic
  pub parts : SporadicParts physical.slot (worth physical) own sporadic

pub SporadicAt-from_derived : (physical : PhysicalSet) (set : TaskSet) (index : ℕ) (own : PhysicalSporadic) → derived_set physical ≡ Ok set → slice_get physical.sporadics index ≡ Some own → SporadicAt physical set index own
SporadicAt-from_derived physical set index own derived at =
    let parts = SetParts-from_Ok physical set derived in
    let found = each-at (sporadic_of physical.slot (worth physical)) 0 index physical.sporadics set.sporadics index own parts.sporadics at (omega arith) in
    record { sporadic = found.item; at = found.at; parts = SporadicParts-from_Ok physical.slot (worth physical) index own found.item found.is }

-- a slot is longer than nothing, and worth something
pub some-slot : (physical : PhysicalSet) (set : TaskSet) → derived_set physical ≡ Ok set → (0 < physical.slot) × (0 < worth physical) × (physical.overhead ≤ physical.slot)
some-slot physical set derived =
    let below = (SetParts-from_Ok physical set derived).below in
    (omega arith, omega arith, omega arith)

-- the slots of a worst case hold it
pub wcet-held : (worth wcet slots : ℕ) → 0 < worth → up worth wcet ≡ slots → wcet ≤ slots * worth
wcet-held worth wcet slots some is = le-up worth slots wcet some (omega arith)

-- so many periods in slots are as many physical ones
periods : (slot k period physical : ℕ) → period * slot ≡ physical → (k * period) * slot ≡ k * physical
periods slot k period physical is = mul_assoc k period slot ∙ ap (λ n. k * n) is

-- a physical release is no later than the boundary of the one in slots
pub release-inside : (slot worth g k : ℕ) (own : PhysicalGraph) (graph : Graph) → 0 < slot → GraphParts slot worth g own graph → release_at own k ≤ release_of graph k * slot
release-inside slot worth g k own graph some parts =
    omega (
      arith,
      add-mul (k * graph.period) graph.offset slot,
      periods slot k graph.period own.period parts.period,
      ap (λ n. n * slot) parts.offset.is,
      (div_ceil_times own.offset slot some).0,
    )

-- a physical deadline is no earlier than the boundary of the one in slots
pub deadline-inside : (slot worth g k : ℕ) (own : PhysicalGraph) (graph : Graph) → 0 < slot → GraphParts slot worth g own graph → deadline_of graph k * slot ≤ due_at own k
deadline-inside slot worth g k own graph some parts =
    let window : ℕ = graph.offset + graph.deadline in
    let whole : window ≡ down slot (own.offset + own.deadline) = omega (arith, parts.offset.is, parts.deadline.is, parts.deadline.least) in
    let fits = down-le slot window (own.offset + own.deadline) some (omega (arith, whole)) in
    let sum : deadline_of graph k ≡ k * graph.period + window = omega arith in
    omega (
      arith,
      ap (λ n. n * slot) sum,
      add-mul (k * graph.period) window slot,
      periods slot k graph.period own.period parts.period,
      fits,
    )
