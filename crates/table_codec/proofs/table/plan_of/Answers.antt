use Rattle.std.proofs.Common.{◌≡◌, Ok, ap, subst}
use Rattle.slot_core.specs.declared.tasks.TaskSet.{TaskSet}
use Rattle.table_codec.specs.Grammar.{plan_of}
use Rattle.table_codec.specs.Readers.{settled}
use Rattle.table_codec.proofs.Planned.{plan_of-plan}
use Rattle.table_codec.proofs.table.plan_of.Goals as goal

pub returns-in-Ok-clause-reading : goal.returns-in-Ok-clause-reading
returns-in-Ok-clause-reading c = λ input.
    let plan = c.in-Ok.plan in
    let own = ap (λ r. settled r input) (plan_of-plan plan c.in-Ok.ensures.plan) in
    subst (λ (set : TaskSet). settled (plan_of set) input ≡ Ok (plan, input)) c.in-Ok.ensures.tasks own
