-- The sort puts the jobs in order.
use Rattle.std.proofs.Common.{◌≡◌, ◌++◌, filter, rules, subst}
use Rattle.std.specs.Prelude.{nat_le, IsPermutation}
use Rattle.std.specs.Ordering.{is_lt}
use Rattle.std.proofs.lemmas.Cmp.{nat_list_cmp_total}
use Rattle.std.proofs.lemmas.List.Sorted.{ranks_by, answers_always}
use Rattle.slot_core.specs.declared.jobs.Job.{Job}
use Rattle.slot_core.specs.Offline.Keys.{deadline_order}
use Rattle.slot_facts.proofs.Choice.Earliest.{job_cmp}
use Rattle.future_check.proofs.ShownJobs.{shown-from_sorted}
use Rattle.future_check.proofs.jobs.due_jobs.Goals as goal

pub returns : goal.returns
returns g c =
    let jobs = c.args.exec.now.scene.jobs in
    let due = filter (λ (j : Job). nat_le j.dl c.args.until) jobs in
    let listed : c.push_due.new.jobs.items ≡ due = subst (λ xs. c.push_due.new.jobs.items ≡ xs ++ due) c.new-jobs.ensures.items c.in_ok-push_due.ensures in
    let up = c.sort_unstable_by.ensures.sorted (λ a b. is_lt (job_cmp a b)) (ranks_by nat_list_cmp_total deadline_order) (answers_always _ _ _ (λ f a r g h. search rules)) in
    let permuted = subst (λ xs. IsPermutation xs c.sort_unstable_by.new.self.items) listed c.sort_unstable_by.ensures.permutation in
    shown-from_sorted jobs c.sort_unstable_by.new.self.items c.args.until c.requires permuted up
