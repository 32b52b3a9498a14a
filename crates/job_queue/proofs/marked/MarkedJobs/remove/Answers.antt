use Rattle.std.proofs.Common.{◌+◌, ◌<◌, List, length, ap, ◌∙◌, arith}
use Rattle.std.specs.List.{remove}
use Rattle.std.specs.Prelude.{sum_by}
use Rattle.std.proofs.lemmas.List.Sums.{sum_by-remove}
use Rattle.slot_core.specs.declared.jobs.Job.{Job}
use Rattle.job_queue.specs.Marks.{PlacedJobs}
use Rattle.job_queue.proofs.MarkedKeys.{AreCounted-less}
use Rattle.job_queue.proofs.marked.MarkedJobs.remove.Goals as goal

pub invariant_of-self : goal.invariant_of-self
invariant_of-self c =
    let old = c.self.inside.jobs.items in
    let job = c.remove_at-job.result in
    let inside : c.args.place < length old = omega (arith, c.requires, ap (λ (p : PlacedJobs). length p.items) c.self.view_is) in
    let items = c.remove_at-job.ensures.items in
    let here = c.remove_at-job.ensures.value in
    AreCounted-less old c.remove_at-job.new.jobs.items c.self.inside.counts.items job c.key_mark-mark.result c.index.result.now c.one_less.result c.self.invariant c.key_mark-mark.ensures.mark c.key_mark-mark.ensures.few (λ f. ap (λ (js : List Job). sum_by f js + f job) items ∙ ap (λ (j : Job). sum_by f (remove old c.args.place) + f j) here ∙ sum_by-remove f old c.args.place job inside) c.index.ensures c.one_less.ensures
