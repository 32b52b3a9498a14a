-- The keys that are written of a plan.
use Rattle.std.proofs.Common.{◌≡◌, true, subst}
use Rattle.std.specs.Prelude.{All, IsPermutation}
use Rattle.std.proofs.lemmas.List.Elements.{All-from_recursion}
use Rattle.std.proofs.lemmas.List.Sorted.{IsPermutation-sym, Contains-permutation}
use Rattle.slot_core.specs.declared.jobs.Job.{Job}
use Rattle.slot_core.specs.Runs.Arrivals.{key_in_set}
use Rattle.slot_core.specs.Sets.Cycles.{cycle_of}
use Rattle.slot_core.specs.Offline.OfflineJobs.{cycle_jobs}
use Rattle.slot_core.specs.Keeping.Plans.{PlanParts, IsPlan}
use Rattle.slot_facts.proofs.Lists.Members.{Contains-from_Has, AllByRecursion-from_Has}
use Rattle.slot_facts.proofs.Offline.Jobs.{offline_from_cycle, offline-named}

-- the keys of the jobs of a plan lie in its set
pub keys-named : (plan : PlanParts) → IsPlan plan → All (λ (j : Job). key_in_set plan.tasks j.key ≡ true) plan.jobs
keys-named plan is_plan =
    let set = plan.tasks in
    let first = cycle_jobs set (cycle_of set) 0 in
    let Named : Job → Type 0 = λ j. key_in_set set j.key ≡ true in
    let listed : IsPermutation first plan.jobs = subst (λ n. IsPermutation (cycle_jobs set n 0) plan.jobs) is_plan.cycle is_plan.jobs in
    All-from_recursion Named plan.jobs (AllByRecursion-from_Has Named plan.jobs (λ job has. offline-named set 1 job (offline_from_cycle set (cycle_of set) 0 job (Contains-permutation plan.jobs first job (IsPermutation-sym first plan.jobs listed) (Contains-from_Has plan.jobs job has)))))
