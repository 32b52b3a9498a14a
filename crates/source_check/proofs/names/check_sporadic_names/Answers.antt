-- The name at this place is doubled, or it is not.
use Rattle.std.proofs.Common.{sym, ap, ◌∙◌, Some}
use Rattle.slot_core.specs.declared.faults.Part.TheVariants.{Sporadic as SporadicPart}
use Rattle.slot_core.specs.declared.tasks.Sporadic.{Sporadic}
use Rattle.source_check.proofs.FaultSteps.{names_step, told, told_later}
use Rattle.source_check.proofs.names.check_sporadic_names.Goals as goal

pub returns-then-is_sporadic_name : goal.returns-then-is_sporadic_name
returns-then-is_sporadic_name c =
    let step = names_step SporadicPart (λ (s : Sporadic). s.name) c.args.sporadics.now c.loop-place.place c.index-sporadics-place.result c.loop-place-test.true c.index-sporadics-place.is in
    sym c.loop-place.invariant ∙ told _ _ _ _ step (sym c.is_sporadic_name.ensures ∙ c.if-is_sporadic_name.true) ∙ ap Some (sym c.doubled_name.ensures)

pub loop-place-preserved : goal.loop-place-preserved
loop-place-preserved c =
    let step = names_step SporadicPart (λ (s : Sporadic). s.name) c.args.sporadics.now c.loop-place.place c.index-sporadics-place.result c.loop-place-test.true c.index-sporadics-place.is in
    sym (told_later _ _ _ _ step (sym c.is_sporadic_name.ensures ∙ c.if-is_sporadic_name.false)) ∙ c.loop-place.invariant
