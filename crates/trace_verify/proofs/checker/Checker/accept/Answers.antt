use Rattle.std.proofs.Common.{◌<◌, ap, sym, subst, arith}
use Rattle.std.specs.Prelude.{sum_by, All}
use Rattle.slot_core.specs.declared.jobs.Job.{Job}
use Rattle.slot_core.specs.Keeping.Plans.{AreInDeadlineOrder}
use Rattle.slot_core.specs.Offline.Keys.{row_of}
use Rattle.trace_verify.specs.Checked.{Checked}
use Rattle.trace_verify.proofs.OrderEdits.{AreInDeadlineOrder-inserted, with_job-inserted}
use Rattle.trace_verify.proofs.checker.Checker.accept.Goals as goal

pub invariant_of-self-2 : goal.invariant_of-self-2
invariant_of-self-2 c =
    let fresh = subst (λ (k : Checked). All (λ (j : Job). row_of j.key < row_of c.args.job.key) k.scene.jobs) (sym c.self.view_is) c.requires.fresh in
    subst AreInDeadlineOrder (sym c.in_ok-insert.ensures.inserted) (AreInDeadlineOrder-inserted c.args.job c.self.inside.jobs c.self.invariant fresh)

pub invariant_of-self-in_err-insert_point : goal.invariant_of-self-in_err-insert_point
invariant_of-self-in_err-insert_point c =
    let fresh = subst (λ (k : Checked). All (λ (j : Job). row_of j.key < row_of c.args.job.key) k.scene.jobs) (sym c.self.view_is) c.requires.fresh in
    subst AreInDeadlineOrder (sym c.in_ok-insert.ensures.inserted) (AreInDeadlineOrder-inserted c.args.job c.self.inside.jobs c.self.invariant fresh)

pub returns-clause-scene : goal.returns-clause-scene
returns-clause-scene c =
    with_job-inserted c.args.job c.args.self.now.scene _ _ _ (sym (ap (λ (k : Checked). k.scene) c.self.view_is)) c.in_ok-insert.ensures.inserted c.in_ok-insert_point.ensures

pub insert-requires : goal.insert-requires
insert-requires c =
    omega (arith, ap (λ (k : Checked). sum_by (λ (j : Job). j.left) k.scene.jobs) c.self.view_is, c.requires.small)
