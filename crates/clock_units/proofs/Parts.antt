-- The parts of a set in slots, by the parts of the set in physical time.
use Rattle.std.proofs.Common.{◌≡◌, ℕ, zero, suc, ◌+◌, ◌-◌, ◌*◌, ◌%◌, ◌≤◌, ◌<◌, Bool, true, false, cond, ◌==◌, nat_lt, List, [], ◌∷◌, length, Some, Ok, Err, refl, ap, subst, arith}
use Rattle.std.specs.Prelude.{slice_get}
use Rattle.std.proofs.lemmas.Bool.{ltb-true}
use Rattle.std.proofs.lemmas.Bool.Decides.{nat_tests}
use Rattle.std.proofs.lemmas.Nat.{div-add-mod'}
use Rattle.slot_core.specs.declared.TheConstants.{GRAPH_LIMIT, TASK_LIMIT, SPORADIC_LIMIT, SLOT_LIMIT, SOFT_LIMIT}
use Rattle.slot_core.specs.declared.tasks.Task.{Task}
use Rattle.slot_core.specs.declared.tasks.Graph.{Graph}
use Rattle.slot_core.specs.declared.tasks.Sporadic.{Sporadic}
use Rattle.slot_core.specs.declared.tasks.TaskSet.{TaskSet}
use Rattle.slot_core.specs.declared.faults.Part.{Part}
use Rattle.slot_core.specs.declared.faults.Part.TheVariants.{Top, Graph as GraphPart, Task as TaskPart, Sporadic as SporadicPart}
use Rattle.slot_core.specs.declared.faults.Field.{Field}
use Rattle.slot_core.specs.declared.faults.Field.TheVariants.{Soft, Graph as GraphKey, Sporadic as SporadicKey, Period, Offset, Deadline, Task as TaskKey, Wcet, Separation}
use Rattle.slot_core.specs.declared.faults.Place.{Place}
use Rattle.slot_core.specs.Calls.Results.{◌>>=◌}
use Rattle.slot_core.specs.Sets.Ranges.{is_between}
use Rattle.clock_units.specs.declared.sets.PhysicalTask.{PhysicalTask}
use Rattle.clock_units.specs.declared.sets.PhysicalGraph.{PhysicalGraph}
use Rattle.clock_units.specs.declared.sets.PhysicalSporadic.{PhysicalSporadic}
use Rattle.clock_units.specs.declared.sets.PhysicalSet.{PhysicalSet}
use Rattle.clock_units.specs.declared.faults.UnitFault.TheVariants.{NoWorth, NotWhole, OutOfRange, TooMany}
use Rattle.clock_units.specs.Rounding.{down, up}
use Rattle.clock_units.specs.Derived.{Derived, place_at, in_range, whole_slots, at_most, each, task_of, period_of, graph_deadline, graph_of, planned_separation, sporadic_deadline, sporadic_of, worth_of, derived_set}

-- a derivation of y took the step r, of which a fact is known, and then f
pub step : {X Y P : Type 0} {Q : X → Type 0} {r : Derived X} {f : X → Derived Y} {y : Y} → ((x : X) → r ≡ Ok x → Q x) → (r >>= f) ≡ Ok y → ((x : X) → Q x → f x ≡ Ok y → P) → P
step {r = Ok x} fact h next = next x (fact x refl) h
step {r = Err fault} fact h next = cc

-- the value is the one that was derived
pub same : {X : Type 0} (r : Derived X) (x : X) → r ≡ Ok x → r ≡ Ok x
same r x h = h

-- a number in range is the one that was tried
pub record InRange (low high n found : ℕ) : Type 0 where
  pub is : n ≡ found
  pub least : low ≤ found
  pub most : found ≤ high

pub InRange-from_Ok : (place : Place) (low high n found : ℕ) → in_range place low high n ≡ Ok found → InRange low high n found
InRange-from_Ok place low high n found h = by_test (is_between low high n) refl h
  where
    by_test : (b : Bool) → is_between low high n ≡ b → cond b (Ok n) (Err (OutOfRange place n)) ≡ Ok found → InRange low high n found
    by_test false e h = cc
    by_test true e h =
        let is : n ≡ found = cc in
        subst (InRange low high n) is (record { is = refl; least = grind (arith, nat_tests); most = grind (arith, nat_tests) })

-- a time of whole slots is so many of them
pub whole_slots-Ok : (place : Place) (slot time whole : ℕ) → whole_slots place slot time ≡ Ok whole → whole * slot ≡ time
whole_slots-Ok place slot time whole h = by_test (time % slot == 0) refl h
  where
    by_test : (b : Bool) → (time % slot == 0) ≡ b → cond b (Ok (down slot time)) (Err (NotWhole place)) ≡ Ok whole → whole * slot ≡ time
    by_test false e h = cc
    by_test true e h =
        let is : down slot time ≡ whole = cc in
        let none : time % slot ≡ 0 = grind (arith, nat_tests) in
        subst (λ n. n * slot ≡ time) is (omega (arith, div-add-mod' time slot))

-- a list within its limit is itself
pub record AtMost {X : Type 0} (limit : ℕ) (xs found : List X) : Type 0 where
  pub is : xs ≡ found
  pub few : length found ≤ limit

pub AtMost-from_Ok : {X : Type 0} (place : Place) (limit : ℕ) (xs found : List X) → at_most place limit xs ≡ Ok found → AtMost limit xs found
AtMost-from_Ok {X} place limit xs found h = by_test (nat_lt limit (length xs)) refl h
  where
    by_test : (b : Bool) → nat_lt limit (length xs) ≡ b → cond b (Err (TooMany place (length xs))) (Ok xs) ≡ Ok found → AtMost limit xs found
    by_test true e h = cc
    by_test false e h =
        let is : xs ≡ found = cc in
        subst (AtMost limit xs) is (record { is = refl; few = grind (arith, nat_tests) })

-- what was derived of the item at a place
pub record DerivedAt {X Y : Type 0} (f : ℕ → X → Derived Y) (i : ℕ) (x : X) (ys : List Y) (k : ℕ) : Type 0 where
  pub item : Y
  pub at : slice_get ys k ≡ Some item
  pub is : f i x ≡ Ok item

pub each-at : {X Y : Type 0} (f : ℕ → X → Derived Y) (n i : ℕ) (xs : List X) (ys : List Y) (k : ℕ) (x : X) → each f n xs ≡ Ok ys → slice_get xs k ≡ Some x → n + k ≡ i → DerivedAt f i x ys k
each-at f n i [] ys k x h at place = cc
each-at f n i (z ∷ xs) ys zero x h at place =
    step (same (f n z)) h (λ y here h.
    step (same (each f (n + 1) xs)) h (λ more rest h.
    let is : y ∷ more ≡ ys = cc in
    let item : z ≡ x = cc in
    let number : n ≡ i = omega arith in
    subst (λ l. DerivedAt f i x l zero) is (record { item = y; at = refl; is = rw (← item, ← number) here })))
each-at f n i (z ∷ xs) ys (suc k) x h at place =
    step (same (f n z)) h (λ y here h.
    step (same (each f (n + 1) xs)) h (λ more rest h.
    let is : y ∷ more ≡ ys = cc in
    let found = each-at f (n + 1) i xs more k x rest at (omega arith) in
    subst (λ l. DerivedAt f i x l (suc k)) is (record { item = found.item; at = found.at; is = found.is })))

-- as many are derived as there are
pub each-length : {X Y : Type 0} (f : ℕ → X → Derived Y) (n : ℕ) (xs : List X) (ys : List Y) → each f n xs ≡ Ok ys → length ys ≡ length xs
each-length f n [] ys h = let is : [] ≡ ys = cc in subst (λ l. length l ≡ 0) is refl
each-length f n (x ∷ xs) ys h =
    step (same (f n x)) h (λ y here h.
    step (same (each f (n + 1) xs)) h (λ more rest h.
    let is : y ∷ more ≡ ys = cc in
    let count = each-length f (n + 1) xs more rest in
    subst (λ l. length l ≡ suc (length xs)) is (ap suc count)))

-- a task, by the physical one
pub record TaskParts (worth : ℕ) (physical : PhysicalTask) (task : Task) : Type 0 where
  pub name : task.name ≡ physical.name
  pub after : task.after ≡ physical.after
  pub wcet : InRange 1 SLOT_LIMIT (up worth physical.wcet) task.wcet

pub TaskParts-from_Ok : (worth g t : ℕ) (physical : PhysicalTask) (task : Task) → task_of worth g t physical ≡ Ok task → TaskParts worth physical task
TaskParts-from_Ok worth g t physical task h =
    step (InRange-from_Ok (place_at (TaskPart g t) Wcet) 1 SLOT_LIMIT (up worth physical.wcet)) h (λ wcet fits h.
    let is : record { name = physical.name; wcet = wcet; after = physical.after } ≡ task = cc in
    subst (TaskParts worth physical) is (record { name = refl; after = refl; wcet = fits }))

-- a period in slots, by the physical one
record PeriodParts (slot physical period : ℕ) : Type 0 where
  pub is : period * slot ≡ physical
  pub least : 1 ≤ period
  pub most : period ≤ SLOT_LIMIT

PeriodParts-from_Ok : (part : Part) (slot physical period : ℕ) → period_of part slot physical ≡ Ok period → PeriodParts slot physical period
PeriodParts-from_Ok part slot physical period h =
    step (whole_slots-Ok (place_at part Period) slot physical) h (λ whole counted h.
    let fits = InRange-from_Ok (place_at part Period) 1 SLOT_LIMIT whole period h in
    record { is = subst (λ n. n * slot ≡ physical) fits.is counted; least = fits.least; most = fits.most })

-- a graph, by the physical one
pub record GraphParts (slot worth g : ℕ) (physical : PhysicalGraph) (graph : Graph) : Type 0 where
  pub name : graph.name ≡ physical.name
  pub period : graph.period * slot ≡ physical.period
  pub some : (1 ≤ graph.period) × (graph.period ≤ SLOT_LIMIT)
  pub offset : InRange 0 (graph.period - 1) (up slot physical.offset) graph.offset
  pub deadline : InRange 1 (graph.period - graph.offset) (graph_deadline slot physical) graph.deadline
  pub few : length physical.tasks ≤ TASK_LIMIT
  pub tasks : each (task_of worth g) 0 physical.tasks ≡ Ok graph.tasks

pub GraphParts-from_Ok : (slot worth g : ℕ) (physical : PhysicalGraph) (graph : Graph) → graph_of slot worth g physical ≡ Ok graph → GraphParts slot worth g physical graph
GraphParts-from_Ok slot worth g physical graph h =
    let at = λ (field : Field). place_at (GraphPart g) field in
    step (PeriodParts-from_Ok (GraphPart g) slot physical.period) h (λ period counted h.
    step (InRange-from_Ok (at Offset) 0 (period - 1) (up slot physical.offset)) h (λ offset offset_fits h.
    step (InRange-from_Ok (at Deadline) 1 (period - offset) (graph_deadline slot physical)) h (λ deadline deadline_fits h.
    step (AtMost-from_Ok (at TaskKey) TASK_LIMIT physical.tasks) h (λ few counted_tasks h.
    step (same (each (task_of worth g) 0 few)) h (λ tasks derived h.
    let is : record { name = physical.name; period = period; offset = offset; deadline = deadline; tasks = tasks } ≡ graph = cc in
    subst (GraphParts slot worth g physical) is (record {
      name = refl;
      period = counted.is;
      some = (counted.least, counted.most);
      offset = offset_fits;
      deadline = deadline_fits;
      few = rw counted_tasks.is counted_tasks.few;
      tasks = rw counted_tasks.is derived;
    }))))))

-- a sporadic task, by the physical one
pub record SporadicParts (slot worth : ℕ) (physical : PhysicalSporadic) (sporadic : Sporadic) : Type 0 where
  pub name : sporadic.name ≡ physical.name
  pub wcet : InRange 1 SLOT_LIMIT (up worth physical.wcet) sporadic.wcet
  pub separation : InRange 1 SLOT_LIMIT (down slot (planned_separation physical)) sporadic.separation
  pub deadline : InRange 1 sporadic.separation (sporadic_deadline slot physical) sporadic.deadline

pub SporadicParts-from_Ok : (slot worth s : ℕ) (physical : PhysicalSporadic) (sporadic : Sporadic) → sporadic_of slot worth s physical ≡ Ok sporadic → SporadicParts slot worth physical sporadic
SporadicParts-from_Ok slot worth s physical sporadic h =
    let at = λ (field : Field). place_at (SporadicPart s) field in
    step (InRange-from_Ok (at Wcet) 1 SLOT_LIMIT (up worth physical.wcet)) h (λ wcet wcet_fits h.
    step (InRange-from_Ok (at Separation) 1 SLOT_LIMIT (down slot (planned_separation physical))) h (λ separation separation_fits h.
    step (InRange-from_Ok (at Deadline) 1 separation (sporadic_deadline slot physical)) h (λ deadline deadline_fits h.
    let is : record { name = physical.name; wcet = wcet; separation = separation; deadline = deadline } ≡ sporadic = cc in
    subst (SporadicParts slot worth physical) is (record { name = refl; wcet = wcet_fits; separation = separation_fits; deadline = deadline_fits }))))

-- a set, by the physical one
pub record SetParts (physical : PhysicalSet) (set : TaskSet) : Type 0 where
  pub below : physical.overhead < physical.slot
  pub soft : InRange 1 SOFT_LIMIT physical.soft_limit set.soft_limit
  pub few_graphs : length physical.graphs ≤ GRAPH_LIMIT
  pub graphs : each (graph_of physical.slot (physical.slot - physical.overhead)) 0 physical.graphs ≡ Ok set.graphs
  pub few_sporadics : length physical.sporadics ≤ SPORADIC_LIMIT
  pub sporadics : each (sporadic_of physical.slot (physical.slot - physical.overhead)) 0 physical.sporadics ≡ Ok set.sporadics

-- what a slot is worth
record IsWorth (physical : PhysicalSet) (worth : ℕ) : Type 0 where
  pub below : physical.overhead < physical.slot
  pub is : physical.slot - physical.overhead ≡ worth

IsWorth-from_Ok : (physical : PhysicalSet) (worth : ℕ) → worth_of physical ≡ Ok worth → IsWorth physical worth
IsWorth-from_Ok physical worth h = by_test (nat_lt physical.overhead physical.slot) refl h
  where
    by_test : (b : Bool) → nat_lt physical.overhead physical.slot ≡ b → cond b (Ok (physical.slot - physical.overhead)) (Err NoWorth) ≡ Ok worth → IsWorth physical worth
    by_test false e h = cc
    by_test true e h = record { below = ltb-true physical.overhead physical.slot e; is = cc }

pub SetParts-from_Ok : (physical : PhysicalSet) (set : TaskSet) → derived_set physical ≡ Ok set → SetParts physical set
SetParts-from_Ok physical set h =
    let at = λ (field : Field). place_at Top field in
    step (IsWorth-from_Ok physical) h (λ worth is_worth h.
    step (InRange-from_Ok (at Soft) 1 SOFT_LIMIT physical.soft_limit) h (λ soft soft_fits h.
    step (AtMost-from_Ok (at GraphKey) GRAPH_LIMIT physical.graphs) h (λ few_graphs counted_graphs h.
    step (same (each (graph_of physical.slot worth) 0 few_graphs)) h (λ graphs derived_graphs h.
    step (AtMost-from_Ok (at SporadicKey) SPORADIC_LIMIT physical.sporadics) h (λ few_sporadics counted_sporadics h.
    step (same (each (sporadic_of physical.slot worth) 0 few_sporadics)) h (λ sporadics derived_sporadics h.
    let is : record { soft_limit = soft; graphs = graphs; sporadics = sporadics } ≡ set = cc in
    subst (SetParts physical) is (record {
      below = is_worth.below;
      soft = soft_fits;
      few_graphs = rw counted_graphs.is counted_graphs.few;
      graphs = rw (is_worth.is, counted_graphs.is) derived_graphs;
      few_sporadics = rw counted_sporadics.is counted_sporadics.few;
      sporadics = rw (is_worth.is, counted_sporadics.is) derived_sporadics;
    })))))))
