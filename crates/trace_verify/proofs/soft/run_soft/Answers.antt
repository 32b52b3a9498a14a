use Rattle.std.proofs.Common.{rules, ap, ◌∙◌}
use Rattle.std.specs.Prelude.{filter, nat_lt}
use Rattle.std.proofs.lemmas.Fn.{filter_same}
use Rattle.slot_core.specs.declared.jobs.SoftJob.{SoftJob}
use Rattle.trace_verify.proofs.soft.run_soft.Goals as goal

pub returns : goal.returns
returns c =
    filter_same _ (λ (s : SoftJob). nat_lt 0 s.left) _ (λ x b f k. search rules) _ _ c.retain.ensures.filtered ∙ ap (filter (λ (s : SoftJob). nat_lt 0 s.left)) c.run_slot.ensures
