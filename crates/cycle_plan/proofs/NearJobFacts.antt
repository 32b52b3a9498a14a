-- The jobs of the first cycle are near the start.
use Rattle.std.proofs.Common.{◌≡◌, ℕ, ◌+◌, ◌*◌, ◌/◌, ◌<◌, ◌≤◌, true, List, ap, arith}
use Rattle.std.specs.Prelude.{All, Contains}
use Rattle.std.proofs.Math.Nat.{mul-le-mul_left}
use Rattle.std.proofs.lemmas.List.Elements.{All-from_recursion}
use Rattle.slot_core.specs.declared.jobs.Job.{Job}
use Rattle.slot_core.specs.declared.tasks.TaskSet.{TaskSet}
use Rattle.slot_core.specs.Sets.Cycles.{cycle_of}
use Rattle.slot_core.specs.Sets.Ranges.{is_sound}
use Rattle.slot_core.specs.Offline.OfflineJobs.{cycle_jobs}
use Rattle.slot_facts.proofs.Lists.Members.{Has, AllByRecursion-from_Has}
use Rattle.slot_facts.proofs.Lists.Permuted.{Contains-from_permuted}
use Rattle.slot_facts.proofs.Sets.Ranges.{GraphFits}
use Rattle.slot_facts.proofs.Offline.LaterCycles.{GraphFits-from_sound}
use Rattle.slot_facts.proofs.Offline.Jobs.{offline_from_cycle, cycle-multiple, cycle-at_most}
use Rattle.interval_build.specs.FirstJobs.{AreFirstJobs}
use Rattle.interval_build.proofs.PlanSpans.{in_cycle-from_first}
use Rattle.cycle_plan.specs.NearJobs.{instance_of, IsNear}

-- an instance of the first cycle has a number below the cycle
instance-lt : (q period cycle k : ℕ) → q * period ≡ cycle → 1 ≤ period → k < (0 + 1) * q → k < cycle
instance-lt q period cycle k whole some below = omega (arith, mul-le-mul_left q some)

instance_in_cycle : (set : TaskSet) (job : Job) → is_sound set ≡ true → Contains (cycle_jobs set (cycle_of set) 0) job → instance_of job.key < cycle_of set
instance_in_cycle set job sound at =
    let o = offline_from_cycle set (cycle_of set) 0 job at in
    let key = ap (λ (j : Job). instance_of j.key) o.instance_of.derived in
    let fits : GraphFits o.graph = GraphFits-from_sound set o.g o.graph sound o.instance_of.graph_at in
    omega (arith, key, instance-lt (cycle_of set / o.graph.period) o.graph.period (cycle_of set) o.k (cycle-multiple set o.g o.graph sound o.instance_of.graph_at) fits.some_period o.below)

-- so all its numbers are small
pub IsNear-from_first : (set : TaskSet) (jobs : List Job) (job : Job) → AreFirstJobs set jobs → Has jobs job → IsNear job
IsNear-from_first set jobs job these listed =
    let within = in_cycle-from_first set jobs these job listed in
    let most = cycle-at_most set these.sound in
    let instance = instance_in_cycle set job these.sound (Contains-from_permuted (cycle_jobs set (cycle_of set) 0) jobs job these.listed listed) in
    (omega (arith, within), omega (arith, within), omega arith)

pub all_near : (set : TaskSet) (jobs : List Job) → AreFirstJobs set jobs → All IsNear jobs
all_near set jobs these =
    All-from_recursion IsNear jobs (AllByRecursion-from_Has IsNear jobs (λ j listed. IsNear-from_first set jobs j these listed))
