-- What is carried is what the first handle had, to what the second one has.
use Rattle.std.proofs.Common.{subst, sym, ◌∙◌}
use Rattle.slot_core.specs.Keeping.Executives.{Executive}
use Rattle.slot_port.specs.Changes.{CarriesWithSoft}
use Rattle.slot_c.proofs.changes.ss_carry_with_soft.Goals as goal

pub returns-clause-carries : goal.returns-clause-carries
returns-clause-carries c = λ k named done.
    let Carried : Executive → Executive → Executive → Type 0 = λ first into after. CarriesWithSoft k c.args.first first into after c.carry_with_soft_to-status.new.told in
    let after = c.opened-2.result.handle.value in
    subst (λ (e : Executive). Carried e c.args.into.now.handle.value after) (c.deref_mut.ensures.value ∙ c.take-unit.ensures.value)
    (subst (λ (e : Executive). Carried c.deref_mut.result.now e after) (c.deref_mut-2.ensures.value ∙ c.take-second.ensures.value)
    (subst (Carried c.deref_mut.result.now c.deref_mut-2.result.now) (sym c.opened-2.ensures.value) (c.carry_with_soft_to-status.ensures.carries k named done)))
