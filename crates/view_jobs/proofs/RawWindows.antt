-- The raw windows of the jobs of later cycles lie far from an overflow.
use Rattle.std.proofs.Common.{◌≡◌, ℕ, ◌+◌, ◌*◌, ◌/◌, ◌^◌, ◌<◌, ◌≤◌, true, List, length, map, get_or, Some, sym, ap, subst, arith}
use Rattle.std.specs.Prelude.{slice_get, IfSome, IsPermutation}
use Rattle.std.proofs.Math.Nat.{mul-le-mul_right}
use Rattle.std.proofs.lemmas.Option.{slice_get-get_or}
use Rattle.slot_core.specs.declared.TheConstants.{CYCLES_LIMIT}
use Rattle.slot_core.specs.declared.jobs.Job.{Job}
use Rattle.slot_core.specs.declared.tasks.TaskSet.{TaskSet}
use Rattle.slot_core.specs.Feasibility.Feasible.{IsFeasible}
use Rattle.slot_core.specs.Keeping.Plans.{IsPlan, PlanParts}
use Rattle.slot_core.specs.Offline.OfflineJobs.{cycle_jobs, later_job}
use Rattle.slot_core.specs.Offline.Windows.{raw_deadline}
use Rattle.slot_core.specs.Sets.Cycles.{cycle_of}
use Rattle.slot_core.specs.Sets.Ranges.{is_sound}
use Rattle.slot_facts.proofs.Lists.Members.{Has, Has-from_slice_get, Has-map}
use Rattle.slot_facts.proofs.Lists.Permuted.{Contains-from_permuted}
use Rattle.slot_facts.proofs.Offline.Jobs.{cycle-multiple, offline_from_cycle}
use Rattle.slot_facts.proofs.Offline.LaterCycles.{GraphFits-from_sound}
use Rattle.slot_facts.proofs.Offline.LaterJobs.{later-permutation}
use Rattle.slot_facts.proofs.Plans.Items.{later_end-fits, plan_cycle-bounds}
use Rattle.slot_facts.proofs.Scheduling.Chains.{raw_deadline-offline}
use Rattle.slot_facts.proofs.Sets.Ranges.{GraphFits}

-- a job of cycle n is due by the end of that cycle
due-by_cycle : (set : TaskSet) (n : ℕ) (jobs : List Job) (job : Job) → is_sound set ≡ true → IsFeasible set (cycle_of set) → IsPermutation (cycle_jobs set (cycle_of set) 0) jobs → Has jobs job → raw_deadline set (later_job set (cycle_of set) n job) ≤ (n + 1) * cycle_of set
due-by_cycle set n jobs job sound feasible permuted at =
    let cycle = cycle_of set in
    let later = later_job set cycle n job in
    let listed = Contains-from_permuted (cycle_jobs set cycle n) (map (later_job set cycle n) jobs) later (later-permutation set jobs n sound feasible permuted) (Has-map (later_job set cycle n) jobs job at) in
    let o = offline_from_cycle set cycle n later listed in
    let graph_at = o.instance_of.graph_at in
    let ends = raw_deadline-offline set later o.g o.t o.k o.graph graph_at (ap (λ (j : Job). j.key) o.instance_of.derived) in
    let fits : GraphFits o.graph = GraphFits-from_sound set o.g o.graph sound graph_at in
    let last : (o.k + 1) * o.graph.period ≤ ((n + 1) * (cycle / o.graph.period)) * o.graph.period = mul-le-mul_right o.graph.period (omega (arith, o.below)) in
    let all : ((n + 1) * (cycle / o.graph.period)) * o.graph.period ≡ (n + 1) * cycle = omega (arith, ap (λ c. (n + 1) * c) (cycle-multiple set o.g o.graph sound graph_at)) in
    omega (arith, ends, fits.within, last, all)

-- the same of a plan
plan_due-by_cycle : (plan : PlanParts) (n : ℕ) (job : Job) → IsPlan plan → Has plan.jobs job → raw_deadline plan.tasks (later_job plan.tasks plan.cycle n job) ≤ (n + 1) * plan.cycle
plan_due-by_cycle plan n job is_plan at =
    subst
    (λ c. raw_deadline plan.tasks (later_job plan.tasks c n job) ≤ (n + 1) * c)
    (sym is_plan.cycle)
    (due-by_cycle plan.tasks n plan.jobs job is_plan.sound (subst (IsFeasible plan.tasks) is_plan.cycle is_plan.feasible) (subst (λ c. IsPermutation (cycle_jobs plan.tasks c 0) plan.jobs) is_plan.cycle is_plan.jobs) at)

-- so the raw deadline of the job at a place of a plan fits a number in each cycle
pub raw_deadline-fits : (plan : PlanParts) (i n : ℕ) (made : Job) → IsPlan plan → i < length plan.jobs → n ≤ CYCLES_LIMIT → IfSome (slice_get plan.jobs i) (λ job. made ≡ later_job plan.tasks plan.cycle n job) → raw_deadline plan.tasks made < 2 ^ 64
raw_deadline-fits plan i n made is_plan inside few is =
    let job = get_or plan.jobs i made in
    let at : slice_get plan.jobs i ≡ Some job = slice_get-get_or plan.jobs i made inside in
    let same : made ≡ later_job plan.tasks plan.cycle n job = subst (λ o. IfSome o (λ j. made ≡ later_job plan.tasks plan.cycle n j)) at is in
    let due = plan_due-by_cycle plan n job is_plan (Has-from_slice_get plan.jobs i job at) in
    let most = (plan_cycle-bounds plan is_plan).1 in
    subst (λ j. raw_deadline plan.tasks j < 2 ^ 64) (sym same) (omega (arith, due, later_end-fits plan.cycle n plan.cycle most few most))
