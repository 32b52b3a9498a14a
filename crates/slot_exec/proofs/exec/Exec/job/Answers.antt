use Rattle.std.proofs.Common.{◌≡◌, subst, true}
use Rattle.slot_core.specs.Keeping.Executives.{Executive}
use Rattle.slot_core.specs.Runs.Arrivals.{key_in_set}
use Rattle.slot_exec.proofs.ShownExecutives.{job-named}
use Rattle.slot_exec.proofs.exec.Exec.job.Goals as goal

pub returns-clause-named : goal.returns-clause-named
returns-clause-named g c =
    subst
    (λ (exec : Executive). key_in_set exec.plan.tasks c.at.result.key ≡ true)
    c.self.view_is
    (job-named _ c.args.i c.at.result c.self.invariant.plan c.self.invariant.stands c.at.ensures.job)
