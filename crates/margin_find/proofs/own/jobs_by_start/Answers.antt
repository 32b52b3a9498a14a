use Rattle.std.proofs.Common.{rules, subst, ◌∙◌}
use Rattle.std.specs.List.Sorted.{IsPermutation}
use Rattle.std.proofs.lemmas.List.Sorted.{IsNonDecreasingBy-from_sort_by_key, IsPermutation-trans}
use Rattle.slot_core.specs.declared.jobs.Job.{Job}
use Rattle.slot_core.specs.Offline.OfflineJobs.{cycle_jobs, derived_job}
use Rattle.slot_core.specs.Sets.Cycles.{cycle_of}
use Rattle.std.specs.Prelude.{map}
use Rattle.margin_find.proofs.own.jobs_by_start.Goals as goal

pub returns-clause-ordered : goal.returns-clause-ordered
returns-clause-ordered c =
    IsNonDecreasingBy-from_sort_by_key (λ (j : Job). j.est) c.sort_unstable_by_key.new.self.items c.sort_unstable_by_key.ensures.sorted (λ a r q k. search rules)

pub returns-clause-listed : goal.returns-clause-listed
returns-clause-listed c =
    let set = c.args.tasks.now in
    let first = cycle_jobs set (cycle_of set) 0 in
    let raw = c.deref.ensures.value ∙ c.in_ok-raw.ensures in
    let derived = subst (λ rs. IsPermutation (map (derived_job set) rs) c.in_ok-jobs.jobs.items) raw c.in_ok-jobs.ensures.jobs in
    IsPermutation-trans first c.in_ok-jobs.jobs.items c.sort_unstable_by_key.new.self.items derived c.sort_unstable_by_key.ensures.permutation
