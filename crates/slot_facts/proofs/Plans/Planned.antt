-- The plan that is computed from a set: it is a plan of the set, and there is no other.
use Rattle.std.proofs.Common.{◌≡◌, true, refl, ap, ◌∙◌, subst}
use Rattle.std.specs.Prelude.{IsPermutation}
use Rattle.std.proofs.lemmas.List.Sorted.{IsPermutation-sym, IsPermutation-trans}
use Rattle.slot_core.specs.declared.tasks.TaskSet.{TaskSet}
use Rattle.slot_core.specs.Sets.Cycles.{cycle_of}
use Rattle.slot_core.specs.Feasibility.Feasible.{IsFeasible}
use Rattle.slot_core.specs.Offline.OfflineJobs.{cycle_jobs}
use Rattle.slot_core.specs.Keeping.Plans.{AreInDeadlineOrder, PlanParts, plan_spans, IsPlan, in_deadline_order, planned}
use Rattle.slot_core.specs.Sets.Ranges.{is_sound}
use Rattle.slot_facts.proofs.Offline.DistinctKeys.{offline_jobs-apart}
use Rattle.slot_facts.proofs.Plans.InOrder.{IsPermutation-in_order, AreInDeadlineOrder-in_order, AreInDeadlineOrder-one}

-- the jobs of the first cycle stand in order in it
planned-ordered : (set : TaskSet) → AreInDeadlineOrder (in_deadline_order (cycle_jobs set (cycle_of set) 0))
planned-ordered set = AreInDeadlineOrder-in_order (cycle_jobs set (cycle_of set) 0) (offline_jobs-apart set (cycle_of set) 1)

-- a sound and feasible set has its plan
pub IsPlan-planned : (set : TaskSet) → is_sound set ≡ true → IsFeasible set (cycle_of set) → IsPlan (planned set)
IsPlan-planned set sound feasible =
    record {
      sound = sound;
      cycle = refl;
      feasible = feasible;
      jobs = IsPermutation-in_order (cycle_jobs set (cycle_of set) 0);
      ordered = planned-ordered set;
      spans = refl;
    }

-- a plan is the one that is computed from its set
pub planned-from_plan : (plan : PlanParts) → IsPlan plan → plan ≡ planned plan.tasks
planned-from_plan plan is_plan =
    let set = plan.tasks in
    let first = cycle_jobs set (cycle_of set) 0 in
    let own = in_deadline_order first in
    let listed : IsPermutation first plan.jobs = subst (λ n. IsPermutation (cycle_jobs set n 0) plan.jobs) is_plan.cycle is_plan.jobs in
    let permuted = IsPermutation-trans plan.jobs first own (IsPermutation-sym first plan.jobs listed) (IsPermutation-in_order first) in
    let jobs = AreInDeadlineOrder-one plan.jobs own is_plan.ordered (planned-ordered set) permuted in
    let spans : plan.spans ≡ plan_spans set (cycle_of set) = is_plan.spans ∙ ap (plan_spans set) is_plan.cycle in
    λ i. record { tasks = set; cycle = is_plan.cycle i; jobs = jobs i; spans = spans i }
