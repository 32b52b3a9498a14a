-- In a slot schedule each slot of a job lies after its chains of predecessors and before those of successors.
use Rattle.std.proofs.Common.{◌≡◌, ℕ, zero, suc, ◌+◌, ◌-◌, ◌<◌, ◌≤◌, max, true, ◌&&◌, ◌==◌, List, [], ◌∷◌, length, map, Option, Some, refl, ap, ◌∙◌, inl, inr, arith}
use Rattle.std.specs.Prelude.{slice_get, sum_by, fold}
use Rattle.std.specs.Option.{option_map_or}
use Rattle.std.specs.List.{range_with_len}
use Rattle.std.proofs.lemmas.Bool.{and_from, eq-eqb}
use Rattle.std.proofs.lemmas.List.Sums.{sum_by-cons}
use Rattle.slot_core.specs.declared.jobs.Key.{Key}
use Rattle.slot_core.specs.declared.jobs.Key.TheVariants.{Offline}
use Rattle.slot_core.specs.declared.jobs.Job.{Job}
use Rattle.slot_core.specs.declared.tasks.Graph.{Graph}
use Rattle.slot_core.specs.declared.tasks.TaskSet.{TaskSet}
use Rattle.slot_core.specs.Offline.Precedence.{wcet_of, comes_after, predecessors, successors, chains, longest_before, longest_after}
use Rattle.slot_core.specs.Offline.OfflineJobs.{tasks_of, release_of, deadline_of}
use Rattle.slot_core.specs.Offline.Windows.{release_or, deadline_or, raw_release, raw_deadline, precedes}
use Rattle.slot_core.specs.Claims.Schedules.{holds, IsSchedule}
use Rattle.slot_facts.proofs.Lists.Members.{Has, Has-map_cases, Has-flat_map_cases, Has-filter_passes, fold_max-le}
use Rattle.slot_facts.proofs.Scheduling.Counts.{count_in_window, held_number}

-- where each step from a task costs the weight of the next, the longest chain is no more than the way to go
module _ (step : ℕ → List ℕ) (weight : ℕ → ℕ) (At : ℕ → ℕ → Type 0) (far : ℕ → ℕ) (gain : (t s low u : ℕ) → Has (step t) s → At t u → ((v : ℕ) → At s v → low ≤ far v) → low + weight s ≤ far u) where
  chain-le_far : (n t u : ℕ) (chain : List ℕ) → Has (chains step n t) chain → At t u → sum_by weight chain ≤ far u
  chain-le_far zero t u chain (inl e) at = omega (arith, ap (sum_by weight) e)
  chain-le_far zero t u chain (inr h) at = absurd h
  chain-le_far (suc n) t u chain (inl e) at = omega (arith, ap (sum_by weight) e)
  chain-le_far (suc n) t u chain (inr h) at =
      let r = Has-flat_map_cases (λ q. map (λ rest. q ∷ rest) (chains step n q)) (step t) chain h in
      let m = Has-map_cases (λ rest. r.0 ∷ rest) (chains step n r.0) chain r.2 in
      let more = gain t r.0 (sum_by weight m.0) u r.1 at (λ v there. chain-le_far n r.0 v m.0 m.1 there) in
      omega (arith, more, sum_by-cons weight r.0 m.0, ap (sum_by weight) m.2)

  longest-le_far : (n t u : ℕ) → At t u → fold max 0 (map (sum_by weight) (chains step n t)) ≤ far u
  longest-le_far n t u at =
      fold_max-le
      0
      (far u)
      (map (sum_by weight) (chains step n t))
      (omega arith)
      (λ x h.
      let c = Has-map_cases (sum_by weight) (chains step n t) x h in
      omega (arith, chain-le_far n t u c.0 c.1 at, c.2))

-- the raw window of an offline job
pub raw_release-offline : (set : TaskSet) (job : Job) (g t k : ℕ) (graph : Graph) → slice_get set.graphs g ≡ Some graph → job.key ≡ Offline g t k → raw_release set job ≡ release_of graph k
raw_release-offline set job g t k graph at key =
    ap (λ (q : Key). release_or set q job.est) key ∙ ap (λ o. option_map_or (λ (h : Graph). release_of h k) o job.est) at

pub raw_deadline-offline : (set : TaskSet) (job : Job) (g t k : ℕ) (graph : Graph) → slice_get set.graphs g ≡ Some graph → job.key ≡ Offline g t k → raw_deadline set job ≡ deadline_of graph k
raw_deadline-offline set job g t k graph at key =
    ap (λ (q : Key). deadline_or set q job.dl) key ∙ ap (λ o. option_map_or (λ (h : Graph). deadline_of h k) o job.dl) at

-- a task of a graph precedes another that lists it, in one instance
pub precedes-from_after : (set : TaskSet) (g k t s : ℕ) (graph : Graph) → slice_get set.graphs g ≡ Some graph → comes_after graph.tasks t s ≡ true → precedes set (Offline g s k) (Offline g t k) ≡ true
precedes-from_after set g k t s graph at after =
    let tasks = ap (λ o. comes_after (option_map_or (λ (h : Graph). h.tasks) o []) t s) at ∙ after in
    and_from (g == g && k == k) (comes_after (tasks_of set g) t s) (and_from (g == g) (k == k) (eq-eqb g g refl) (eq-eqb k k refl)) tasks

-- the job stands in the list under this number, and is of task t of the instance
pub record IsOfTask (jobs : List Job) (g k t n : ℕ) (job : Job) : Type 0 where
  pub listed : slice_get jobs n ≡ Some job
  pub key : job.key ≡ Offline g t k

-- slot u holds a job of task t of the instance
abbrev pub StandsAt : List Job → List (Option ℕ) → ℕ → ℕ → ℕ → ℕ → Type 0
StandsAt jobs slots g k t u =
    (n : ℕ) × (job : Job) × IsOfTask jobs g k t n job × (slice_get slots u ≡ Some (Some n))

-- a job of task t of the instance stands in the list, with all its slots left
pub record IsWhole (jobs : List Job) (g k : ℕ) (graph : Graph) (t n : ℕ) (job : Job) : Type 0 where
  pub own : IsOfTask jobs g k t n job
  pub left : job.left ≡ wcet_of graph.tasks t
  pub some : 1 ≤ job.left

-- an instance in a slot schedule up to its end; next tasks that a step leads to are listed with all their slots
pub record HasInstance (set : TaskSet) (jobs : List Job) (end : ℕ) (slots : List (Option ℕ)) (g k : ℕ) (graph : Graph) (step : ℕ → List ℕ) : Type 0 where
  pub graph_at : slice_get set.graphs g ≡ Some graph
  pub due : deadline_of graph k ≤ end
  pub waits : (t s u : ℕ) → Has (step t) s → StandsAt jobs slots g k t u → (n : ℕ) × (job : Job) × IsWhole jobs g k graph s n job

module _ (set : TaskSet) (jobs : List Job) (from end : ℕ) (slots : List (Option ℕ)) (schedule : IsSchedule set jobs from end slots) (g k : ℕ) (graph : Graph) (step : ℕ → List ℕ) (has : HasInstance set jobs end slots g k graph step) where
  -- a slot of an instance lies in its raw window
  raw_window : (t u : ℕ) → StandsAt jobs slots g k t u → (release_of graph k ≤ from + u) × (from + u < deadline_of graph k)
  raw_window t u (n, job, own, at) =
      let inside = schedule.within u n job at own.listed in
      let starts = raw_release-offline set job g t k graph has.graph_at own.key in
      let ends = raw_deadline-offline set job g t k graph has.graph_at own.key in
      (omega (arith, inside.0, starts), omega (arith, inside.1, ends))

  -- a slot of a predecessor lies before each of the task
  in_order : (t s u v : ℕ) → comes_after graph.tasks t s ≡ true → StandsAt jobs slots g k s v → StandsAt jobs slots g k t u → v < u
  in_order t s u v after (m, before, own_before, at_before) (n, job, own, at) =
      let first = precedes-from_after set g k t s graph has.graph_at after in
      schedule.ordered v u m n before job at_before at own_before.listed own.listed
      (ap (λ (q : Key). precedes set q job.key) own_before.key ∙ ap (λ (q : Key). precedes set (Offline g s k) q) own.key ∙ first)

  -- where all slots of a whole task lie in a window, they fit there
  slots_fit : (s low high m : ℕ) (job : Job) → IsWhole jobs g k graph s m job → ((v : ℕ) → StandsAt jobs slots g k s v → (low ≤ from + v) × (from + v < high)) → low + wcet_of graph.tasks s ≤ high
  slots_fit s low high m job whole inside =
      let due = raw_deadline-offline set job g s k graph has.graph_at whole.own.key in
      let served = schedule.served m job whole.own.listed (omega (arith, due, has.due)) in
      let count = count_in_window (holds m) slots from low high (λ v slot at held. inside v (m, job, whole.own, at ∙ ap Some (held_number m slot held))) in
      omega (arith, served, whole.left, whole.some, count)

  -- a predecessor takes its slots before each slot of the task, and a successor after it
  predecessor_fits : (t s low u : ℕ) → comes_after graph.tasks t s ≡ true → Has (step t) s → StandsAt jobs slots g k t u → ((v : ℕ) → StandsAt jobs slots g k s v → low ≤ from + v - release_of graph k) → low + wcet_of graph.tasks s ≤ from + u - release_of graph k
  predecessor_fits t s low u after next at far =
      let w = has.waits t s u next at in
      let fit = slots_fit s (release_of graph k + low) (from + u) w.0 w.1 w.2 (λ v there. (omega (arith, far v there, raw_window s v there), omega (arith, in_order t s u v after there at))) in
      omega (arith, fit)

  successor_fits : (t s low u : ℕ) → comes_after graph.tasks s t ≡ true → Has (step t) s → StandsAt jobs slots g k t u → ((v : ℕ) → StandsAt jobs slots g k s v → low ≤ deadline_of graph k - (from + v + 1)) → low + wcet_of graph.tasks s ≤ deadline_of graph k - (from + u + 1)
  successor_fits t s low u after next at far =
      let w = has.waits t s u next at in
      let fit = slots_fit s (from + u + 1) (deadline_of graph k - low) w.0 w.1 w.2 (λ v there. (omega (arith, in_order s t v u after at there), omega (arith, far v there, raw_window s v there))) in
      omega (arith, fit)

-- no slot of a task lies before its derived start, where predecessors wait
pub not_before_start : (set : TaskSet) (jobs : List Job) (from end : ℕ) (slots : List (Option ℕ)) (g k : ℕ) (graph : Graph) → IsSchedule set jobs from end slots → HasInstance set jobs end slots g k graph (predecessors graph.tasks) → (t u : ℕ) → StandsAt jobs slots g k t u → release_of graph k + longest_before graph.tasks t ≤ from + u
not_before_start set jobs from end slots g k graph schedule has t u at =
    let step = predecessors graph.tasks in
    let after = λ (t s : ℕ) (h : Has (step t) s). (Has-filter_passes (λ p. comes_after graph.tasks t p) (range_with_len 0 (length graph.tasks)) s h).1 in
    let far = longest-le_far step (wcet_of graph.tasks) (StandsAt jobs slots g k) (λ v. from + v - release_of graph k) (λ t s low u h. predecessor_fits set jobs from end slots schedule g k graph step has t s low u (after t s h) h) (length graph.tasks) t u at in
    omega (arith, raw_window set jobs from end slots schedule g k graph step has t u at, far)

-- and none at or after its derived deadline, where successors wait
pub before_deadline : (set : TaskSet) (jobs : List Job) (from end : ℕ) (slots : List (Option ℕ)) (g k : ℕ) (graph : Graph) → IsSchedule set jobs from end slots → HasInstance set jobs end slots g k graph (successors graph.tasks) → (t u : ℕ) → StandsAt jobs slots g k t u → from + u < deadline_of graph k - longest_after graph.tasks t
before_deadline set jobs from end slots g k graph schedule has t u at =
    let step = successors graph.tasks in
    let after = λ (t s : ℕ) (h : Has (step t) s). (Has-filter_passes (λ q. comes_after graph.tasks q t) (range_with_len 0 (length graph.tasks)) s h).1 in
    let far = longest-le_far step (wcet_of graph.tasks) (StandsAt jobs slots g k) (λ v. deadline_of graph k - (from + v + 1)) (λ t s low u h. successor_fits set jobs from end slots schedule g k graph step has t s low u (after t s h) h) (length graph.tasks) t u at in
    omega (arith, raw_window set jobs from end slots schedule g k graph step has t u at, far)
