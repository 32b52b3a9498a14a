-- The demand of the whole cycle grows by one slot a job, so it bounds the growth.
use Rattle.std.proofs.Common.{◌≡◌, ℕ, zero, suc, ◌+◌, ◌-◌, ◌*◌, ◌/◌, ◌<◌, ◌≤◌, true, List, [], ◌∷◌, length, Option, Some, None, refl, sym, subst, ap, ◌∙◌, inl, inr, arith}
use Rattle.std.specs.Prelude.{sum_by, slice_get, nat_lt}
use Rattle.std.specs.Option.{option_map_or}
use Rattle.std.proofs.Math.Nat.{div-le_self, mul-add, add-mul, mul-le-mul_left, mul-le-mul_right}
use Rattle.std.proofs.lemmas.Bool.{cases_lt, lt-ltb}
use Rattle.std.proofs.lemmas.List.Sums.{sum_by-cons}
use Rattle.slot_core.specs.declared.TheConstants.{SLOT_LIMIT}
use Rattle.slot_core.specs.declared.faults.Part.{Part}
use Rattle.slot_core.specs.declared.faults.Part.TheVariants.{Top, Graph as GraphPart, Task as TaskPart, Sporadic as SporadicPart}
use Rattle.slot_core.specs.declared.jobs.Job.{Job}
use Rattle.slot_core.specs.declared.jobs.Window.{Window}
use Rattle.slot_core.specs.declared.tasks.Task.{Task}
use Rattle.slot_core.specs.declared.tasks.Graph.{Graph}
use Rattle.slot_core.specs.declared.tasks.Sporadic.{Sporadic}
use Rattle.slot_core.specs.declared.tasks.TaskSet.{TaskSet}
use Rattle.slot_core.specs.Sets.Cycles.{cycle_of}
use Rattle.slot_core.specs.Sets.Ranges.{is_sound}
use Rattle.slot_core.specs.Feasibility.Sporadics.{arrivals_due, sporadic_demand}
use Rattle.slot_core.specs.Feasibility.Feasible.{demand, IsFeasible, counterexample}
use Rattle.slot_core.specs.Offline.OfflineJobs.{tasks_of, cycle_jobs}
use Rattle.slot_core.specs.Claims.Growth.{changed_at, longer_task, with_longer_task, longer_sporadic, grown, StillFits}
use Rattle.slot_facts.proofs.Bounds.CycleDemand.{FitsCycle-from_Has}
use Rattle.slot_facts.proofs.Demand.Arrivals.{arrivals_due-le, arrivals_due-spaced, sporadic_demand-sum_by}
use Rattle.slot_facts.proofs.Lists.MemberSums.{term-le_sum_by}
use Rattle.slot_facts.proofs.Lists.Members.{Has-from_slice_get}
use Rattle.slot_facts.proofs.Offline.Jobs.{cycle-multiple, cycle-positive, cycle-at_most}
use Rattle.slot_facts.proofs.Sets.Tasks.{slice_get-within}
use Rattle.demand_test.specs.Totals.{graph_work}
use Rattle.demand_test.proofs.CycleTotals.{cycle_jobs-slots, cycle_jobs-within, window_demand-cycle}
use Rattle.margin_find.specs.Laws.{HasNoMoreRoom}
use Rattle.margin_find.specs.declared.search.Bounds.{Bounds}
use Rattle.margin_find.specs.Parts.{IsTaskOf, jobs_in_cycle, wcet_at}
use Rattle.margin_find.specs.Search.{AreBounds, StaysSound}
use Rattle.margin_find.proofs.Growths.{set-pairs, cycle_stays, fits_itself}
use Rattle.margin_find.proofs.LongerSets.{cycle_jobs-pairs}
use Rattle.margin_find.proofs.Pairs.{Pairwise-all}
use Rattle.margin_find.proofs.SoundGrowths.{grown-sound}

-- a sum after one item is changed
sum_by-changed_at : {X : Type 0} (f : X → ℕ) (h : X → X) (n : ℕ) (xs : List X) (x : X) → slice_get xs n ≡ Some x → sum_by f (changed_at h n xs) + f x ≡ sum_by f xs + f (h x)
sum_by-changed_at f h n [] x at = absurd (cc at)
sum_by-changed_at f h zero (y ∷ ys) x at =
    let same : y ≡ x = cc at in
    omega (arith, sum_by-cons f y ys, sum_by-cons f (h y) ys, ap f same, ap (λ z. f (h z)) same)
sum_by-changed_at f h (suc n) (y ∷ ys) x at =
    omega (arith, sum_by-cons f y ys, sum_by-cons f y (changed_at h n ys), sum_by-changed_at f h n ys x at)

-- the demand of the whole cycle of the grown set
whole-grown : (set : TaskSet) (part : Part) (growth : ℕ) → is_sound set ≡ true → demand (grown set part growth) (cycle_of set) 0 (cycle_of set) ≡ sum_by (graph_work (cycle_of set)) (grown set part growth).graphs + sporadic_demand (grown set part growth).sporadics [] 0 (cycle_of set)
whole-grown set part growth sound =
    let longer = grown set part growth in
    let cycle = cycle_of set in
    let within = Pairwise-all HasNoMoreRoom (λ (j : Job). j.dl ≤ cycle) (λ (j : Job). j.dl ≤ cycle) (cycle_jobs set cycle 0) (cycle_jobs longer cycle 0) (λ i j r low. omega (arith, r.dl)) (cycle_jobs-within set cycle sound) (cycle_jobs-pairs set longer cycle 0 (set-pairs set part growth)) in
    window_demand-cycle (cycle_jobs longer cycle 0) longer.sporadics cycle within
    ∙ ap (λ n. n + sporadic_demand longer.sporadics [] 0 cycle) (cycle_jobs-slots longer cycle 0)

whole-set : (set : TaskSet) → is_sound set ≡ true → demand set (cycle_of set) 0 (cycle_of set) ≡ sum_by (graph_work (cycle_of set)) set.graphs + sporadic_demand set.sporadics [] 0 (cycle_of set)
whole-set set sound = whole-grown set Top 0 sound

-- the work of a graph with a longer task
longer_graph_work : (cycle t growth : ℕ) (g : Graph) (task : Task) → slice_get g.tasks t ≡ Some task → graph_work cycle (with_longer_task t growth g) ≡ graph_work cycle g + (cycle / g.period) * growth
longer_graph_work cycle t growth g task at =
    let wcet = λ (t : Task). t.wcet in
    let changed = sum_by-changed_at wcet (longer_task growth) t g.tasks task at in
    let sum : sum_by wcet (changed_at (longer_task growth) t g.tasks) ≡ sum_by wcet g.tasks + growth = omega arith in
    ap (λ n. (cycle / g.period) * n) sum ∙ mul-add (cycle / g.period) (sum_by wcet g.tasks) growth

-- the task at a place
pub at_graph : (set : TaskSet) (g t : ℕ) → t < length (tasks_of set g) → (graph : Graph) × (task : Task) × (slice_get set.graphs g ≡ Some graph) × (slice_get graph.tasks t ≡ Some task)
at_graph set g t within = by_found (slice_get set.graphs g) refl within
  where
    by_found : (o : Option Graph) → slice_get set.graphs g ≡ o → t < length (option_map_or (λ (graph : Graph). graph.tasks) o []) → (graph : Graph) × (task : Task) × (slice_get set.graphs g ≡ Some graph) × (slice_get graph.tasks t ≡ Some task)
    by_found None is low = absurd (omega arith)
    by_found (Some graph) is low =
        let (task, at) = slice_get-within graph.tasks t low in
        (graph, task, is, at)

-- so the demand of the whole cycle grows by one slot a job
pub whole-grows : (set : TaskSet) (part : Part) (growth : ℕ) → is_sound set ≡ true → IsTaskOf set part → demand (grown set part growth) (cycle_of set) 0 (cycle_of set) ≡ demand set (cycle_of set) 0 (cycle_of set) + jobs_in_cycle set (cycle_of set) part * growth
whole-grows set Top growth sound of = absurd of
whole-grows set (GraphPart graph) growth sound of = absurd of
whole-grows set (TaskPart g t) growth sound of =
    let cycle = cycle_of set in
    let (graph, task, at, at_task) = at_graph set g t of in
    let changed = sum_by-changed_at (graph_work cycle) (with_longer_task t growth) g set.graphs graph at in
    let more = longer_graph_work cycle t growth graph task at_task in
    let jobs : jobs_in_cycle set cycle (TaskPart g t) ≡ cycle / graph.period = rw at refl in
    let each = ap (λ n. n * growth) jobs in
    omega (arith, whole-grown set (TaskPart g t) growth sound, whole-set set sound, changed, more, each)
whole-grows set (SporadicPart index) growth sound of =
    let cycle = cycle_of set in
    let (s, at) = slice_get-within set.sporadics index of in
    let need = λ (s : Sporadic). s.wcet * arrivals_due s 0 0 cycle in
    let changed = sum_by-changed_at need (longer_sporadic growth) index set.sporadics s at in
    let more : need (longer_sporadic growth s) ≡ need s + growth * arrivals_due s 0 0 cycle = add-mul s.wcet growth (arrivals_due s 0 0 cycle) in
    let jobs : jobs_in_cycle set cycle (SporadicPart index) ≡ arrivals_due s 0 0 cycle = rw at refl in
    let each = ap (λ n. growth * n) jobs in
    omega (
      arith,
      whole-grown set (SporadicPart index) growth sound,
      whole-set set sound,
      sporadic_demand-sum_by set.sporadics 0 cycle,
      sporadic_demand-sum_by (changed_at (longer_sporadic growth) index set.sporadics) 0 cycle,
      changed,
      more,
      each,
    )

-- a cycle has a job of each task
quotient-positive : (cycle period : ℕ) → (cycle / period) * period ≡ cycle → 1 ≤ cycle → 1 ≤ cycle / period
quotient-positive cycle period whole some =
    elim (cases_lt 0 (cycle / period)) [
      | inl positive ↦ positive
      | inr none ↦ let zero_of : cycle / period ≡ 0 = omega arith in
          let nothing = ap (λ n. n * period) zero_of in
          absurd (omega (arith, nothing))
    ]

pub jobs_in_cycle-positive : (set : TaskSet) (part : Part) → is_sound set ≡ true → IsTaskOf set part → 1 ≤ jobs_in_cycle set (cycle_of set) part
jobs_in_cycle-positive set Top sound of = absurd of
jobs_in_cycle-positive set (GraphPart graph) sound of = absurd of
jobs_in_cycle-positive set (TaskPart g t) sound of =
    let (graph, task, at, _) = at_graph set g t of in
    let jobs : jobs_in_cycle set (cycle_of set) (TaskPart g t) ≡ cycle_of set / graph.period = rw at refl in
    omega (arith, quotient-positive (cycle_of set) graph.period (cycle-multiple set g graph sound at) (cycle-positive set sound))
jobs_in_cycle-positive set (SporadicPart index) sound of =
    let cycle = cycle_of set in
    let (s, at) = slice_get-within set.sporadics index of in
    let fit = FitsCycle-from_Has set s sound (Has-from_slice_get set.sporadics index s at) in
    let some = quotient-positive cycle s.separation fit.whole (cycle-positive set sound) in
    let apart : s.separation ≤ cycle = omega (arith, mul-le-mul_right s.separation some, fit.whole) in
    let jobs : jobs_in_cycle set cycle (SporadicPart index) ≡ arrivals_due s 0 0 cycle = rw at refl in
    omega (arith, arrivals_due-spaced s 0 cycle fit.apart (omega (arith, fit.within)))

-- the jobs of a task are part of the demand of the cycle
wcet-le : (set : TaskSet) (part : Part) → is_sound set ≡ true → IsTaskOf set part → jobs_in_cycle set (cycle_of set) part * wcet_at set part ≤ demand set (cycle_of set) 0 (cycle_of set)
wcet-le set Top sound of = absurd of
wcet-le set (GraphPart graph) sound of = absurd of
wcet-le set (TaskPart g t) sound of =
    let cycle = cycle_of set in
    let (graph, task, at, at_task) = at_graph set g t of in
    let jobs : jobs_in_cycle set cycle (TaskPart g t) ≡ cycle / graph.period = rw at refl in
    let wcet : wcet_at set (TaskPart g t) ≡ task.wcet = rw (at, at_task) refl in
    let one : task.wcet ≤ sum_by (λ (t : Task). t.wcet) graph.tasks = term-le_sum_by (λ (t : Task). t.wcet) graph.tasks task (Has-from_slice_get graph.tasks t task at_task) in
    let all : graph_work cycle graph ≤ sum_by (graph_work cycle) set.graphs = term-le_sum_by (graph_work cycle) set.graphs graph (Has-from_slice_get set.graphs g graph at) in
    let product : jobs_in_cycle set cycle (TaskPart g t) * wcet_at set (TaskPart g t) ≡ (cycle / graph.period) * task.wcet = cc in
    omega (arith, whole-set set sound, product, all, mul-le-mul_left (cycle / graph.period) one)
wcet-le set (SporadicPart index) sound of =
    let cycle = cycle_of set in
    let (s, at) = slice_get-within set.sporadics index of in
    let need = λ (s : Sporadic). s.wcet * arrivals_due s 0 0 cycle in
    let jobs : jobs_in_cycle set cycle (SporadicPart index) ≡ arrivals_due s 0 0 cycle = rw at refl in
    let wcet : wcet_at set (SporadicPart index) ≡ s.wcet = rw at refl in
    let all : need s ≤ sum_by need set.sporadics = term-le_sum_by need set.sporadics s (Has-from_slice_get set.sporadics index s at) in
    let product : jobs_in_cycle set cycle (SporadicPart index) * wcet_at set (SporadicPart index) ≡ arrivals_due s 0 0 cycle * s.wcet = cc in
    omega (arith, whole-set set sound, product, all, sporadic_demand-sum_by set.sporadics 0 cycle)

-- a grown set whose demand fits the cycle as a whole is sound
pub StaysSound-from_whole : (set : TaskSet) (part : Part) (growth : ℕ) → is_sound set ≡ true → IsTaskOf set part → demand set (cycle_of set) 0 (cycle_of set) + jobs_in_cycle set (cycle_of set) part * growth ≤ cycle_of set → StaysSound set part growth
StaysSound-from_whole set part growth sound of fits =
    let cycle = cycle_of set in
    let jobs = jobs_in_cycle set cycle part in
    let both = mul-add jobs (wcet_at set part) growth in
    let once : 1 * (wcet_at set part + growth) ≤ jobs * (wcet_at set part + growth) = mul-le-mul_right (wcet_at set part + growth) (jobs_in_cycle-positive set part sound of) in
    let least = wcet-le set part sound of in
    let within : wcet_at set part + growth ≤ SLOT_LIMIT = omega (arith, cycle-at_most set sound) in
    let most : demand (grown set part growth) cycle 0 cycle ≤ cycle = omega (arith, whole-grows set part growth sound of) in
    record { sound = grown-sound set part growth sound within; within = within; fits = most }

-- the whole cycle where its demand is more than its slots
pub counterexample-whole : (set : TaskSet) (cycle needed : ℕ) → demand set cycle 0 cycle ≡ needed → cycle < needed → counterexample set cycle ≡ Some (record { from = 0; until = cycle; demand = needed })
counterexample-whole set cycle needed is more =
    let fails : nat_lt (cycle - 0) needed ≡ true = lt-ltb (cycle - 0) needed (omega arith) in
    rw (is, fails) refl

-- the first growth for which the cycle has no slots, and the window that shows it
pub AreBounds-whole : (set : TaskSet) (part : Part) (bounds : Bounds) → is_sound set ≡ true → IsFeasible set (cycle_of set) → IsTaskOf set part → bounds.fits ≡ 0 → 0 < bounds.fails → bounds.window ≡ record { from = 0; until = cycle_of set; demand = demand set (cycle_of set) 0 (cycle_of set) + jobs_in_cycle set (cycle_of set) part * bounds.fails } → cycle_of set < bounds.window.demand → AreBounds set part bounds
AreBounds-whole set part bounds sound feasible of fits positive window more =
    let cycle = cycle_of set in
    let longer = grown set part bounds.fails in
    let here = counterexample-whole longer cycle (demand set cycle 0 cycle + jobs_in_cycle set cycle part * bounds.fails) (whole-grows set part bounds.fails sound of) (omega (arith, ap (λ (w : Window). w.demand) window)) in
    record {
      above = omega arith;
      holds = subst (StillFits set part) (sym fits) (fits_itself set part feasible);
      found = ap (counterexample longer) (cycle_stays set part bounds.fails) ∙ here ∙ ap Some (sym window);
    }

-- a cycle has few jobs of a task
pub jobs_in_cycle-le : (set : TaskSet) (part : Part) (cycle : ℕ) → IsTaskOf set part → jobs_in_cycle set cycle part ≤ cycle + 1
jobs_in_cycle-le set Top cycle of = absurd of
jobs_in_cycle-le set (GraphPart graph) cycle of = absurd of
jobs_in_cycle-le set (TaskPart g t) cycle of =
    let (graph, task, at, _) = at_graph set g t of in
    let jobs : jobs_in_cycle set cycle (TaskPart g t) ≡ cycle / graph.period = rw at refl in
    omega (arith, div-le_self cycle graph.period)
jobs_in_cycle-le set (SporadicPart index) cycle of =
    let (s, at) = slice_get-within set.sporadics index of in
    let jobs : jobs_in_cycle set cycle (SporadicPart index) ≡ arrivals_due s 0 0 cycle = rw at refl in
    omega (arith, arrivals_due-le s 0 cycle)
