-- The offline jobs of two cycles need no less, in a window, than the cycle test counts.
use Rattle.std.proofs.Common.{◌≡◌, ℕ, ◌+◌, ◌-◌, ◌*◌, ◌/◌, ◌≤◌, true, ◌&&◌, cond, sym, ap, arith}
use Rattle.std.specs.Prelude.{sum_by, nat_le, nat_lt}
use Rattle.std.specs.List.{enumerate_from}
use Rattle.std.proofs.lemmas.Bool.Decides.{nat_tests}
use Rattle.std.proofs.lemmas.List.Sums.{sum_by-append, sum_by-le-sum_by}
use Rattle.slot_core.specs.declared.jobs.RawJob.{RawJob}
use Rattle.slot_core.specs.declared.jobs.Job.{Job}
use Rattle.slot_core.specs.declared.tasks.Task.{Task}
use Rattle.slot_core.specs.declared.tasks.Graph.{Graph}
use Rattle.slot_core.specs.declared.tasks.TaskSet.{TaskSet}
use Rattle.slot_core.specs.Sets.Cycles.{cycle_of}
use Rattle.slot_core.specs.Sets.Ranges.{is_sound}
use Rattle.slot_core.specs.Offline.Precedence.{longest_before, longest_after}
use Rattle.slot_core.specs.Offline.OfflineJobs.{release_of, deadline_of, tasks_of, raw_job, instance_jobs, graph_jobs, raw_jobs, derived_job, cycle_jobs, offline_jobs}
use Rattle.slot_core.specs.Runs.Demand.{work_from}
use Rattle.slot_core.specs.Feasibility.Feasible.{declared_within}
use Rattle.slot_facts.proofs.Lists.Members.{Has, Has-enumerate_from_at}
use Rattle.slot_facts.proofs.Lists.MemberSums.{sum_by-le_joined, sum_by-le_shifted}
use Rattle.slot_facts.proofs.Lists.Sums.{sum_by-map, cond-le}
use Rattle.slot_facts.proofs.Offline.Jobs.{cycle-multiple}

-- the slots of a raw job, where its derived window, shifted, lies in [a, b), and where it lies there as it is
abbrev shifted_within : TaskSet → ℕ → ℕ → ℕ → RawJob → ℕ
shifted_within set shift a b raw =
    let job = derived_job set raw in
    cond (nat_le a (job.est + shift) && nat_le (job.dl + shift) b) job.declared 0

abbrev lies_within : TaskSet → ℕ → ℕ → RawJob → ℕ
lies_within set a b raw =
    let job = derived_job set raw in
    cond (nat_le a job.est && nat_le job.dl b) job.left 0

-- the two sums over a cycle, by its raw jobs
declared_within-shifted : (set : TaskSet) (cycle n shift a b : ℕ) → declared_within (cycle_jobs set cycle n) shift a b ≡ sum_by (shifted_within set shift a b) (raw_jobs set cycle n)
declared_within-shifted set cycle n shift a b =
    sum_by-map
    (λ (j : Job). cond (nat_le a (j.est + shift) && nat_le (j.dl + shift) b) j.declared 0)
    (derived_job set)
    (raw_jobs set cycle n)

work_from-raw : (set : TaskSet) (cycle n a b : ℕ) → work_from (cycle_jobs set cycle n) a b ≡ sum_by (lies_within set a b) (raw_jobs set cycle n)
work_from-raw set cycle n a b =
    sum_by-map
    (λ (j : Job). cond (nat_le a j.est && nat_le j.dl b) j.left 0)
    (derived_job set)
    (raw_jobs set cycle n)

-- a window that holds the shifted one holds its slots
within_later : (a b cycle est dl later_est later_dl slots : ℕ) → later_est ≡ est + cycle → later_dl ≤ dl + cycle → cond (nat_le a (est + cycle) && nat_le (dl + cycle) b) slots 0 ≤ cond (nat_le a later_est && nat_le later_dl b) slots 0
within_later a b cycle est dl later_est later_dl slots starts ends = grind (arith, nat_tests)

-- an instance a cycle later is released a cycle later
release_later : (graph : Graph) (cycle count k m : ℕ) → count * graph.period ≡ cycle → k + count ≡ m → release_of graph m ≡ release_of graph k + cycle
release_later graph cycle count k m multiple later =
    let product : m * graph.period ≡ (k + count) * graph.period = ap (λ x. x * graph.period) (sym later) in
    omega (arith, product, multiple)

-- so the jobs of an instance need no less than those a cycle before, shifted
instance_later : (set : TaskSet) (cycle a b g count k m : ℕ) (graph : Graph) → count * graph.period ≡ cycle → k + count ≡ m → sum_by (shifted_within set cycle a b) (instance_jobs g graph k) ≤ sum_by (lies_within set a b) (instance_jobs g graph m)
instance_later set cycle a b g count k m graph multiple later =
    let tasks = enumerate_from 0 graph.tasks in
    let starts = release_later graph cycle count k m multiple later in
    let each = λ (i : ℕ × Task).
    within_later
    a
    b
    cycle
    (release_of graph k + longest_before (tasks_of set g) i.0)
    (deadline_of graph k - longest_after (tasks_of set g) i.0)
    (release_of graph m + longest_before (tasks_of set g) i.0)
    (deadline_of graph m - longest_after (tasks_of set g) i.0)
    i.1.wcet
    (omega (arith, starts))
    (omega (arith, starts)) in
    let le = sum_by-le-sum_by (λ i. shifted_within set cycle a b (raw_job g graph k i)) (λ i. lies_within set a b (raw_job g graph m i)) tasks each in
    omega (arith, le, sum_by-map (shifted_within set cycle a b) (raw_job g graph k) tasks, sum_by-map (lies_within set a b) (raw_job g graph m) tasks)

-- the jobs of the second cycle need no less than those of the first shifted by a cycle
next_cycle : (set : TaskSet) (a b : ℕ) → is_sound set ≡ true → declared_within (cycle_jobs set (cycle_of set) 0) (cycle_of set) a b ≤ work_from (cycle_jobs set (cycle_of set) 1) a b
next_cycle set a b sound =
    let cycle = cycle_of set in
    let first = shifted_within set cycle a b in
    let second = lies_within set a b in
    let each = λ (i : ℕ × Graph) (listed : Has (enumerate_from 0 set.graphs) i).
    let (g, place, at) = Has-enumerate_from_at 0 set.graphs i.0 i.1 listed in
    let count = cycle / i.1.period in
    let multiple = cycle-multiple set g i.1 sound at in
    sum_by-le_shifted
    first
    second
    (instance_jobs i.0 i.1)
    (instance_jobs i.0 i.1)
    (0 * count)
    (1 * count)
    count
    count
    (omega arith)
    (λ k m later. instance_later set cycle a b i.0 count k m i.1 multiple later) in
    let le = sum_by-le_joined first second (graph_jobs cycle 0) (graph_jobs cycle 1) (enumerate_from 0 set.graphs) each in
    omega (arith, le, declared_within-shifted set cycle 0 cycle a b, work_from-raw set cycle 1 a b)

-- a window shifted by nothing
shifted_within-none : (a b est dl slots : ℕ) → cond (nat_le a (est + 0) && nat_le (dl + 0) b) slots 0 ≤ cond (nat_le a est && nat_le dl b) slots 0
shifted_within-none a b est dl slots = grind (arith, nat_tests)

-- those of the first cycle need no less than they declare
this_cycle : (set : TaskSet) (cycle a b : ℕ) → declared_within (cycle_jobs set cycle 0) 0 a b ≤ work_from (cycle_jobs set cycle 0) a b
this_cycle set cycle a b =
    let le = sum_by-le-sum_by (shifted_within set 0 a b) (lies_within set a b) (raw_jobs set cycle 0) (λ raw.
    let job = derived_job set raw in
    shifted_within-none a b job.est job.dl job.declared) in
    omega (arith, le, declared_within-shifted set cycle 0 0 a b, work_from-raw set cycle 0 a b)

-- so three cycles need no less than the test counts
pub three_cycles : (set : TaskSet) (a b : ℕ) → is_sound set ≡ true → declared_within (cycle_jobs set (cycle_of set) 0) 0 a b + cond (nat_lt (cycle_of set) b) (declared_within (cycle_jobs set (cycle_of set) 0) (cycle_of set) a b) 0 ≤ work_from (offline_jobs set (cycle_of set) 3) a b
three_cycles set a b sound =
    let cycle = cycle_of set in
    let from = λ (j : Job). cond (nat_le a j.est && nat_le j.dl b) j.left 0 in
    omega (
      arith,
      this_cycle set cycle a b,
      next_cycle set a b sound,
      cond-le (nat_lt cycle b) (declared_within (cycle_jobs set cycle 0) cycle a b),
      sum_by-append from (offline_jobs set cycle 0) (cycle_jobs set cycle 0),
      sum_by-append from (offline_jobs set cycle 1) (cycle_jobs set cycle 1),
      sum_by-append from (offline_jobs set cycle 2) (cycle_jobs set cycle 2),
    )
