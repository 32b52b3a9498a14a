-- The raw jobs of the first cycle of a sound set.
use Rattle.std.proofs.Common.{◌≡◌, ℕ, ◌+◌, ◌*◌, ◌/◌, ◌<◌, ◌≤◌, true, length, map, Some, ap, arith}
use Rattle.std.specs.Prelude.{slice_get}
use Rattle.std.proofs.lemmas.Option.{slice_get_within}
use Rattle.std.proofs.Math.Nat.{mul-le-mul_right}
use Rattle.slot_core.specs.declared.TheConstants.{SLOT_LIMIT}
use Rattle.slot_core.specs.declared.jobs.Key.TheVariants.{Offline}
use Rattle.slot_core.specs.declared.jobs.Job.{Job}
use Rattle.slot_core.specs.declared.jobs.RawJob.{RawJob}
use Rattle.slot_core.specs.declared.tasks.Graph.{Graph}
use Rattle.slot_core.specs.declared.tasks.TaskSet.{TaskSet}
use Rattle.slot_core.specs.Sets.Cycles.{cycle_of}
use Rattle.slot_core.specs.Offline.OfflineJobs.{raw_jobs, derived_job, release_of, chain_before}
use Rattle.slot_core.specs.Sets.Ranges.{is_sound}
use Rattle.slot_facts.proofs.Lists.Members.{Has, Has-map, Contains-from_Has}
use Rattle.slot_facts.proofs.Offline.Jobs.{offline_from_cycle, cycle-multiple, cycle-at_most}
use Rattle.slot_facts.proofs.Sets.Ranges.{GraphFits}
use Rattle.slot_facts.proofs.Offline.LaterCycles.{GraphFits-from_sound}

-- the raw job of a task of a graph of the set
pub record IsRawJob (set : TaskSet) (raw : RawJob) : Type 0 where
  pub g : ℕ
  pub t : ℕ
  pub k : ℕ
  pub graph : Graph
  pub key : raw.key ≡ Offline g t k
  pub graph_at : slice_get set.graphs g ≡ Some graph
  pub within : t < length graph.tasks
  pub early : raw.release ≤ SLOT_LIMIT

-- an instance of the first cycle is released in it
released_early : (q period offset cycle k : ℕ) → q * period ≡ cycle → k < 1 * q → offset ≤ period → k * period + offset ≤ cycle
released_early q period offset cycle k whole first fits =
    let times : k + 1 ≤ q = omega arith in
    omega (arith, mul-le-mul_right period times)

pub IsRawJob-from_cycle : (set : TaskSet) (raw : RawJob) → is_sound set ≡ true → Has (raw_jobs set (cycle_of set) 0) raw → IsRawJob set raw
IsRawJob-from_cycle set raw sound listed =
    let cycle = cycle_of set in
    let jobs = raw_jobs set cycle 0 in
    let job = derived_job set raw in
    let is = offline_from_cycle set cycle 0 job (Contains-from_Has (map (derived_job set) jobs) job (Has-map (derived_job set) jobs raw listed)) in
    let same : raw.key ≡ Offline is.g is.t is.k = ap (λ (j : Job). j.key) is.instance_of.derived in
    let starts : raw.release + chain_before set raw.key ≡ release_of is.graph is.k + chain_before set (Offline is.g is.t is.k) =
    ap (λ (j : Job). j.est) is.instance_of.derived in
    let chain = ap (chain_before set) same in
    let fits : GraphFits is.graph = GraphFits-from_sound set is.g is.graph sound is.instance_of.graph_at in
    let whole = cycle-multiple set is.g is.graph sound is.instance_of.graph_at in
    let early = released_early (cycle / is.graph.period) is.graph.period is.graph.offset cycle is.k whole is.below (omega (arith, fits.within)) in
    record {
      g = is.g;
      t = is.t;
      k = is.k;
      graph = is.graph;
      key = same;
      graph_at = is.instance_of.graph_at;
      within = slice_get_within is.graph.tasks is.t is.task is.instance_of.task_at;
      early = omega (arith, cycle-at_most set sound);
    }
