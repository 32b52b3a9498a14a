-- What soundness says of the graphs and the raw jobs, and the order of the sorted jobs.
use Rattle.std.proofs.Common.{◌≡◌, true, List, get_or, map, ap, sym, ◌∙◌, subst, rules}
use Rattle.std.proofs.lemmas.List.Elements.{Contains-get_or}
use Rattle.slot_facts.proofs.Lists.Members.{Has, Has-from_Contains}
use Rattle.window_derive.specs.GraphChains.{AreChainsOfGraphs, job_by}
use Rattle.window_derive.proofs.SoundSets.{graphs_orderable, HasChains-from_graphs, cycle_jobs-from_chains}
use Rattle.slot_facts.proofs.Offline.RawJobs.{IsRawJob-from_cycle}
use Rattle.slot_core.specs.declared.jobs.Job.{Job}
use Rattle.slot_core.specs.declared.jobs.RawJob.{RawJob}
use Rattle.slot_core.specs.declared.tasks.Graph.{Graph}
use Rattle.slot_core.specs.declared.tasks.TaskSet.{TaskSet}
use Rattle.slot_core.specs.Sets.Cycles.{cycle_of}
use Rattle.slot_core.specs.Sets.Ranges.{is_sound}
use Rattle.window_derive.specs.declared.windows.Chains.{Chains}
use Rattle.slot_core.specs.Offline.OfflineJobs.{raw_jobs, derived_job, cycle_jobs}
use Rattle.slot_facts.proofs.Offline.DistinctKeys.{IsApart, offline_jobs-apart}
use Rattle.slot_core.specs.Offline.Keys.{deadline_order}
use Rattle.std.specs.Ordering.{is_lt}
use Rattle.std.proofs.lemmas.Cmp.{nat_list_cmp_total}
use Rattle.std.proofs.lemmas.List.Sorted.{ranks_by, answers_always}
use Rattle.slot_facts.proofs.Choice.Earliest.{job_cmp}
use Rattle.slot_facts.proofs.Plans.SortedJobs.{AreInDeadlineOrder-from_sorted}
use Rattle.window_derive.proofs.PrecedenceLemmas.{KeepsPrecedence-from_cycle}
use Rattle.window_derive.proofs.derive.Goals as goal

-- the windows before the sort are those of the derived jobs
windows_derived : (set : TaskSet) (graphs : List Graph) (chains lent : List Chains) (raw : List RawJob) (jobs : List Job) → is_sound set ≡ true → graphs ≡ set.graphs → AreChainsOfGraphs graphs chains → lent ≡ chains → raw ≡ raw_jobs set (cycle_of set) 0 → jobs ≡ map (job_by lent) raw → jobs ≡ map (derived_job set) raw
windows_derived set graphs chains lent raw jobs sound same all lend unrolled made =
    made ∙ ap (λ xs. map (job_by xs) raw) lend ∙ cycle_jobs-from_chains set graphs chains raw sound same all unrolled

pub chains_of_graphs-requires : goal.chains_of_graphs-requires
chains_of_graphs-requires c = rw c.items.ensures (graphs_orderable c.args.tasks.now c.requires.sound)

pub windows_of-requires : goal.windows_of-requires
windows_of-requires c = λ k d within.
    let set = c.args.tasks.now in
    let raw = c.args.raw.now in
    let all : AreChainsOfGraphs set.graphs c.in_ok-chains.chains.items = rw (← c.items.ensures) c.in_ok-chains.ensures in
    let listed : Has raw (get_or raw k d) = Has-from_Contains raw (get_or raw k d) (Contains-get_or raw k d within) in
    let job = IsRawJob-from_cycle set (get_or raw k d) c.requires.sound (subst (λ xs. Has xs (get_or raw k d)) c.requires.unrolled listed) in
    rw c.as_slice.ensures.value (HasChains-from_graphs set c.in_ok-chains.chains.items (get_or raw k d) c.requires.sound all job)

pub returns-clause-jobs : goal.returns-clause-jobs
returns-clause-jobs c =
    let jobs = windows_derived c.args.tasks.now c.items.result.now c.in_ok-chains.chains.items c.as_slice.result.now c.args.raw.now c.in_ok-jobs.jobs.items c.requires.sound c.items.ensures c.in_ok-chains.ensures c.as_slice.ensures.value c.requires.unrolled c.in_ok-jobs.ensures in
    rw (← jobs) c.sort_unstable_by.ensures.permutation

pub returns-clause-ordered : goal.returns-clause-ordered
returns-clause-ordered c =
    let set = c.args.tasks.now in
    let cycle = cycle_of set in
    let key = λ (j : Job). j.key in
    let jobs = windows_derived set c.items.result.now c.in_ok-chains.chains.items c.as_slice.result.now c.args.raw.now c.in_ok-jobs.jobs.items c.requires.sound c.items.ensures c.in_ok-chains.ensures c.as_slice.ensures.value c.requires.unrolled c.in_ok-jobs.ensures in
    let listed : c.in_ok-jobs.jobs.items ≡ cycle_jobs set cycle 0 = jobs ∙ ap (map (derived_job set)) c.requires.unrolled in
    let apart : IsApart key c.in_ok-jobs.jobs.items = subst (IsApart key) (sym listed) (offline_jobs-apart set cycle 1) in
    let up = c.sort_unstable_by.ensures.sorted (λ a b. is_lt (job_cmp a b)) (ranks_by nat_list_cmp_total deadline_order) (answers_always _ _ _ (λ f a r g h. search rules)) in
    AreInDeadlineOrder-from_sorted c.in_ok-jobs.jobs.items c.sort_unstable_by.new.self.items apart c.sort_unstable_by.ensures.permutation up

pub returns-clause-precedence : goal.returns-clause-precedence
returns-clause-precedence c =
    let set = c.args.tasks.now in
    let jobs = windows_derived set c.items.result.now c.in_ok-chains.chains.items c.as_slice.result.now c.args.raw.now c.in_ok-jobs.jobs.items c.requires.sound c.items.ensures c.in_ok-chains.ensures c.as_slice.ensures.value c.requires.unrolled c.in_ok-jobs.ensures in
    let listed : c.in_ok-jobs.jobs.items ≡ cycle_jobs set (cycle_of set) 0 = jobs ∙ ap (map (derived_job set)) c.requires.unrolled in
    KeepsPrecedence-from_cycle set c.sort_unstable_by.new.self.items c.requires.sound (rw (← listed) c.sort_unstable_by.ensures.permutation)
