-- The sort puts them in deadline order.
use Rattle.std.proofs.Common.{◌≡◌, rules}
use Rattle.std.specs.Ordering.{is_lt}
use Rattle.std.proofs.lemmas.Cmp.{nat_list_cmp_total}
use Rattle.std.proofs.lemmas.List.Sorted.{ranks_by, answers_always}
use Rattle.slot_core.specs.Offline.Keys.{deadline_order}
use Rattle.slot_facts.proofs.Choice.Earliest.{job_cmp}
use Rattle.change_laws.specs.Carried.{carried_of}
use Rattle.mode_switch.proofs.CarriedJobs.{carried_from-sorted}
use Rattle.mode_switch.proofs.carried.carried_jobs.Goals as goal

pub returns : goal.returns
returns g c =
    let up = c.sort_unstable_by.ensures.sorted (λ a b. is_lt (job_cmp a b)) (ranks_by nat_list_cmp_total deadline_order) (answers_always _ _ _ (λ f a r g h. search rules)) in
    let gathered : c.in_ok-jobs.jobs.items ≡ carried_of c.args.exec.now.scene.jobs = c.in_ok-jobs.ensures in
    carried_from-sorted c.args.exec.now.scene.jobs c.in_ok-jobs.jobs.items c.sort_unstable_by.new.self.items c.requires gathered c.sort_unstable_by.ensures.permutation up
