-- The jobs that are derived are the ordered ones.
use Rattle.std.proofs.Common.{Vec, Global, ◌∙◌}
use Rattle.slot_core.specs.declared.jobs.Job.{Job}
use Rattle.plan_answers.proofs.Insides.{derived-ordered}
use Rattle.plan_answers.proofs.jobs.ordered_jobs.Goals as goal

pub returns : goal.returns
returns c =
    derived-ordered c.args.tasks.now c.deref.result.now (λ (v : Vec Job Global). v.items) c.derive.result (c.deref.ensures.value ∙ c.in_ok-raw.ensures) c.derive.ensures.jobs c.derive.ensures.ordered
