use Rattle.std.proofs.Common.{◌≡◌, ap, ◌∙◌, rules}
use Rattle.std.specs.Prelude.{insert, sum_by}
use Rattle.std.proofs.lemmas.List.Sums.{sum_by-insert}
use Rattle.job_queue.proofs.MarkedKeys.{AreCounted-more}
use Rattle.job_queue.proofs.marked.MarkedJobs.insert.Goals as goal

pub invariant_of-self : goal.invariant_of-self
invariant_of-self c =
    let old = c.self.inside.jobs.items in
    let items : c.insert_at.new.jobs.items ≡ insert old c.args.place c.args.job.now = search rules in
    AreCounted-more old c.insert_at.new.jobs.items c.self.inside.counts.items c.args.job.now c.key_mark-mark.result c.index.result.now c.one_more.result c.self.invariant c.key_mark-mark.ensures.mark c.key_mark-mark.ensures.few (λ f. ap (sum_by f) items ∙ sum_by-insert f old c.args.place c.args.job.now) c.index.ensures c.one_more.ensures
