use Rattle.std.proofs.Common.{◌≡◌, subst, arith}
use Rattle.std.specs.Prelude.{count_by}
use Rattle.std.proofs.lemmas.Bool.{ltb-false}
use Rattle.job_queue.specs.Marks.{PlacedJobs}
use Rattle.job_queue.proofs.MarkedKeys.{count_by-unmarked}
use Rattle.job_queue.proofs.Searches.{has_key}
use Rattle.job_queue.proofs.marked.MarkedJobs.may_have.Goals as goal

pub returns : goal.returns
returns c = λ off.
    let none : c.index.result.now ≡ 0 = omega (arith, ltb-false 0 c.index.result.now off) in
    let all = count_by-unmarked c.args.key c.self.inside.jobs.items c.self.inside.counts.items c.key_mark.result c.index.result.now c.self.invariant c.key_mark.ensures.mark c.key_mark.ensures.few c.index.ensures none in
    subst (λ (p : PlacedJobs). count_by (has_key c.args.key) p.items ≡ 0) c.self.view_is all
