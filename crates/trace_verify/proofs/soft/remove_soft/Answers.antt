use Rattle.std.proofs.Common.{not, rules}
use Rattle.std.proofs.lemmas.Fn.{filter_same}
use Rattle.slot_core.specs.declared.jobs.SoftJob.{SoftJob}
use Rattle.slot_core.specs.declared.jobs.Key.TheVariants.{Soft as SoftKey}
use Rattle.slot_core.specs.Offline.Keys.{same_key}
use Rattle.trace_verify.proofs.soft.remove_soft.Goals as goal

pub returns : goal.returns
returns c =
    filter_same _ (λ (s : SoftJob). not (same_key (SoftKey s.row) c.args.key)) _ (λ x b f k. search rules) _ _ c.retain.ensures.filtered
