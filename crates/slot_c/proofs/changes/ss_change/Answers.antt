-- The handle has what was opened, and what it carries is what the first one had.
use Rattle.std.proofs.Common.{subst, sym, ◌∙◌}
use Rattle.slot_core.specs.Keeping.Executives.{Executive}
use Rattle.slot_port.specs.Changes.{Changes}
use Rattle.slot_c.proofs.changes.ss_change.Goals as goal

pub returns-in-Ok-clause-changes : goal.returns-in-Ok-clause-changes
returns-in-Ok-clause-changes c = λ k named done.
    let Changed : Executive → Executive → Type 0 = λ first after. Changes k c.args.first first c.args.table.now after c.changed.new.told in
    subst (λ (e : Executive). Changed e c.opened.result.handle.value) (c.deref_mut.ensures.value ∙ c.take-unit.ensures.value)
    (subst (Changed c.deref_mut.result.now) (sym c.opened.ensures.value) (c.in-Ok.ensures.changes k named))
