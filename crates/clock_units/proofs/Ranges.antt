-- The set in slots of a set of the right shape is in range.
use Rattle.std.proofs.Common.{◌≡◌, ℕ, ◌+◌, ◌-◌, Bool, true, ◌&&◌, nat_le, List, [], ◌∷◌, length, Ok, Err, IfOk, refl}
use Rattle.std.specs.List.{list_all}
use Rattle.std.proofs.lemmas.Bool.{and_parts, and_from, le-leb}
use Rattle.slot_core.specs.declared.TheConstants.{GRAPH_LIMIT, TASK_LIMIT, AFTER_LIMIT, SPORADIC_LIMIT, SLOT_LIMIT, SOFT_LIMIT}
use Rattle.slot_core.specs.declared.tasks.Task.{Task}
use Rattle.slot_core.specs.declared.tasks.Graph.{Graph}
use Rattle.slot_core.specs.declared.tasks.Sporadic.{Sporadic}
use Rattle.slot_core.specs.declared.tasks.TaskSet.{TaskSet}
use Rattle.slot_core.specs.Sets.Names.{is_name}
use Rattle.slot_core.specs.Sets.Ranges.{is_between, task_in_range, graph_in_range, sporadic_in_range, is_in_range}
use Rattle.clock_units.specs.declared.sets.PhysicalTask.{PhysicalTask}
use Rattle.clock_units.specs.declared.sets.PhysicalGraph.{PhysicalGraph}
use Rattle.clock_units.specs.declared.sets.PhysicalSporadic.{PhysicalSporadic}
use Rattle.clock_units.specs.declared.sets.PhysicalSet.{PhysicalSet}
use Rattle.clock_units.specs.Rounding.{down, up}
use Rattle.clock_units.specs.Derived.{Derived, Answers, task_is_shaped, graph_is_shaped, is_shaped, each, task_of, graph_of, graph_deadline, planned_separation, sporadic_deadline, sporadic_of, derived_set}
use Rattle.clock_units.proofs.Parts.{step, same, InRange, each-length, TaskParts-from_Ok, GraphParts-from_Ok, SporadicParts-from_Ok, SetParts-from_Ok}

-- a number in range passes the test
between : (low high n found : ℕ) → InRange low high n found → is_between low high found ≡ true
between low high n found fits =
    and_from (nat_le low found) (nat_le found high) (le-leb low found fits.least) (le-leb found high fits.most)

-- what each item is derived with holds of all
each-all : {X Y : Type 0} (p : X → Bool) (q : Y → Bool) (f : ℕ → X → Derived Y) → ((n : ℕ) (x : X) (y : Y) → f n x ≡ Ok y → p x ≡ true → q y ≡ true) → (n : ℕ) (xs : List X) (ys : List Y) → each f n xs ≡ Ok ys → list_all p xs ≡ true
    → list_all q ys ≡ true
each-all p q f keeps n [] ys h all = let is : [] ≡ ys = cc in rw (← is) refl
each-all p q f keeps n (x ∷ xs) ys h all =
    let (here, rest) = and_parts (p x) (list_all p xs) all in
    step (same (f n x)) h (λ y derived h.
    step (same (each f (n + 1) xs)) h (λ more derived_more h.
    let is : y ∷ more ≡ ys = cc in
    rw (← is) (and_from (q y) (list_all q more) (keeps n x y derived here) (each-all p q f keeps (n + 1) xs more derived_more rest))))

task-in_range : (worth g t : ℕ) (physical : PhysicalTask) (task : Task) → task_of worth g t physical ≡ Ok task → task_is_shaped physical ≡ true → task_in_range task ≡ true
task-in_range worth g t physical task h shaped =
    let parts = TaskParts-from_Ok worth g t physical task h in
    let (name, entries) = and_parts (is_name physical.name) (nat_le (length physical.after) AFTER_LIMIT) shaped in
    rw (parts.name, parts.after, name, between 1 SLOT_LIMIT (up worth physical.wcet) task.wcet parts.wcet, entries) refl

graph-in_range : (slot worth g : ℕ) (physical : PhysicalGraph) (graph : Graph) → graph_of slot worth g physical ≡ Ok graph → graph_is_shaped physical ≡ true → graph_in_range graph ≡ true
graph-in_range slot worth g physical graph h shaped =
    let parts = GraphParts-from_Ok slot worth g physical graph h in
    let (counted, tasks) = and_parts (is_name physical.name && is_between 1 TASK_LIMIT (length physical.tasks)) (list_all task_is_shaped physical.tasks) shaped in
    let (name, count) = and_parts (is_name physical.name) (is_between 1 TASK_LIMIT (length physical.tasks)) counted in
    let period = and_from (nat_le 1 graph.period) (nat_le graph.period SLOT_LIMIT) (le-leb 1 graph.period parts.some.0) (le-leb graph.period SLOT_LIMIT parts.some.1) in
    let offset = between 0 (graph.period - 1) (up slot physical.offset) graph.offset parts.offset in
    let deadline = between 1 (graph.period - graph.offset) (graph_deadline slot physical) graph.deadline parts.deadline in
    let all = each-all task_is_shaped task_in_range (task_of worth g) (task-in_range worth g) 0 physical.tasks graph.tasks parts.tasks tasks in
    let as_many = each-length (task_of worth g) 0 physical.tasks graph.tasks parts.tasks in
    rw (parts.name, name, period, offset, deadline, as_many, count, all) refl

sporadic-in_range : (slot worth s : ℕ) (physical : PhysicalSporadic) (sporadic : Sporadic) → sporadic_of slot worth s physical ≡ Ok sporadic → is_name physical.name ≡ true → sporadic_in_range sporadic ≡ true
sporadic-in_range slot worth s physical sporadic h name =
    let parts = SporadicParts-from_Ok slot worth s physical sporadic h in
    let wcet = between 1 SLOT_LIMIT (up worth physical.wcet) sporadic.wcet parts.wcet in
    let separation = between 1 SLOT_LIMIT (down slot (planned_separation physical)) sporadic.separation parts.separation in
    let deadline = between 1 sporadic.separation (sporadic_deadline slot physical) sporadic.deadline parts.deadline in
    rw (parts.name, name, wcet, separation, deadline) refl

is_in_range-derived : (physical : PhysicalSet) (set : TaskSet) → derived_set physical ≡ Ok set → is_shaped physical ≡ true → is_in_range set ≡ true
is_in_range-derived physical set h shaped =
    let parts = SetParts-from_Ok physical set h in
    let worth = physical.slot - physical.overhead in
    let named = list_all (λ (s : PhysicalSporadic). is_name s.name) physical.sporadics in
    let (listed, names) = and_parts (is_between 1 GRAPH_LIMIT (length physical.graphs) && list_all graph_is_shaped physical.graphs && nat_le (length physical.sporadics) SPORADIC_LIMIT) named shaped in
    let (graphed, few) = and_parts (is_between 1 GRAPH_LIMIT (length physical.graphs) && list_all graph_is_shaped physical.graphs) (nat_le (length physical.sporadics) SPORADIC_LIMIT) listed in
    let (count, shapes) = and_parts (is_between 1 GRAPH_LIMIT (length physical.graphs)) (list_all graph_is_shaped physical.graphs) graphed in
    let soft = between 1 SOFT_LIMIT physical.soft_limit set.soft_limit parts.soft in
    let graphs = each-all graph_is_shaped graph_in_range (graph_of physical.slot worth) (graph-in_range physical.slot worth) 0 physical.graphs set.graphs parts.graphs shapes in
    let sporadics = each-all (λ (s : PhysicalSporadic). is_name s.name) sporadic_in_range (sporadic_of physical.slot worth) (sporadic-in_range physical.slot worth) 0 physical.sporadics set.sporadics parts.sporadics names in
    let as_many = each-length (graph_of physical.slot worth) 0 physical.graphs set.graphs parts.graphs in
    let as_many_sporadics = each-length (sporadic_of physical.slot worth) 0 physical.sporadics set.sporadics parts.sporadics in
    rw (soft, as_many, count, graphs, as_many_sporadics, few, sporadics) refl

-- so is the answer of the code
pub range-answer : (answer : Derived TaskSet) (physical : PhysicalSet) → Answers answer (derived_set physical) → IfOk answer (λ slots. is_shaped physical ≡ true → is_in_range slots ≡ true)
range-answer (Ok set) physical h = is_in_range-derived physical set h
range-answer (Err fault) physical h = tt
