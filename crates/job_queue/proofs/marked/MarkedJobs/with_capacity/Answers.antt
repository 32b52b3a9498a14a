use Rattle.std.proofs.Common.{◌≡◌, refl, replicate, rules, subst, sym}
use Rattle.job_queue.specs.declared.marked.TheConstants.{MARK_COUNT}
use Rattle.job_queue.specs.Marks.{AreCounted}
use Rattle.job_queue.proofs.MarkedKeys.{AreCounted-none}
use Rattle.job_queue.proofs.marked.MarkedJobs.with_capacity.Goals as goal

pub invariant_of-result : goal.invariant_of-result
invariant_of-result c =
    let counts = c.in_ok-vec.field-0.items in
    let zeros : counts ≡ replicate MARK_COUNT 0 = search rules in
    subst (λ jobs. AreCounted jobs counts) (sym c.in_ok-with_capacity.ensures.items) (AreCounted-none counts MARK_COUNT zeros refl)
