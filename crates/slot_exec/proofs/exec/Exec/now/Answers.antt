use Rattle.std.proofs.Common.{◌*◌, ◌≤◌, length, subst}
use Rattle.std.specs.Prelude.{pos, ◌≤ℤ◌}
use Rattle.slot_core.specs.Keeping.Executives.{Executive, IsKept}
use Rattle.slot_core.specs.Runs.Spans.{spans_of}
use Rattle.slot_facts.proofs.Legal.Executives.{every_executive_is_kept}
use Rattle.spare_capacity.specs.Recurrence.{first_spare}
use Rattle.scene_steps.proofs.Spans.Executives.{first_spare-positive}
use Rattle.slot_exec.proofs.ShownExecutives.{few_jobs-stands}
use Rattle.slot_exec.proofs.exec.Exec.now.Goals as goal

pub returns-clause-kept : goal.returns-clause-kept
returns-clause-kept g c =
    subst IsKept c.self.view_is (every_executive_is_kept _ c.self.invariant.plan c.self.invariant.stands)

pub returns-clause-few_jobs : goal.returns-clause-few_jobs
returns-clause-few_jobs g c =
    subst
    (λ (exec : Executive). length exec.scene.jobs ≤ 3 * exec.plan.cycle)
    c.self.view_is
    (few_jobs-stands _ c.self.invariant.plan c.self.invariant.stands)

pub returns-clause-spare : goal.returns-clause-spare
returns-clause-spare g c =
    subst
    (λ (exec : Executive). pos 0 ≤ℤ first_spare (spans_of exec.plan.cycle exec.scene))
    c.self.view_is
    (first_spare-positive _ c.self.invariant.plan c.self.invariant.stands)
