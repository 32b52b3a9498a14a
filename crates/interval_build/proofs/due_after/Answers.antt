use Rattle.std.proofs.Common.{sym, subst, ap, drop, ◌∙◌}
use Rattle.slot_core.specs.Keeping.Plans.{AreInDeadlineOrder}
use Rattle.interval_build.proofs.Due.{HasDueFront-ordered, AreInDeadlineOrder-drop}
use Rattle.interval_build.proofs.due_after.Goals as goal

pub returns : goal.returns
returns c =
    let jobs = c.args.jobs.now in
    let back = c.split_at.ensures.back in
    record {
      jobs = back ∙ ap (λ n. drop n jobs) c.count_due.ensures.count ∙ (HasDueFront-ordered c.args.point jobs c.requires).rest;
      ordered = subst AreInDeadlineOrder (sym back) (AreInDeadlineOrder-drop c.count_due.result jobs c.requires);
    }
