-- The executive that was opened goes on, and its plan is the one that the bytes spell.
use Rattle.std.proofs.Common.{◌≡◌, subst, sym, ◌∙◌}
use Rattle.slot_core.specs.Keeping.Plans.{IsPlan, PlanParts}
use Rattle.table_codec.specs.Grammar.{Spells}
use Rattle.plan_change.specs.declared.keep.Keep.{Keep}
use Rattle.plan_change.specs.Carrying.{offers_from}
use Rattle.plan_change.specs.SoftWork.{IsChangedWithSoft, soft_from}
use Rattle.slot_port.specs.Changes.{moved_with_soft_numbers}
use Rattle.slot_port.proofs.changes.change_with_soft.Goals as goal

pub returns-in-0-clause-changes : goal.returns-in-0-clause-changes
returns-in-0-clause-changes g c = λ k named.
    let from = c.args.from.now in
    let after = c.carry_asked_with_soft.new.into in
    let same : c.in_ok-keep.keep ≡ k = cc (sym c.in_ok-keep.ensures.fits.0 ∙ named) in
    let carried = c.carry_asked_with_soft.ensures.carries c.in-0.is in
    let Changed : Keep → PlanParts → Type 0 = λ q p.
    IsPlan p
    × Spells c.args.table.now p
    × IsChangedWithSoft p (offers_from q from p.cycle c.args.first) (soft_from from p.tasks.soft_limit) after
    × (c.carry_asked_with_soft.new.told ≡ moved_with_soft_numbers q from p.cycle p.tasks.soft_limit) in
    subst (λ (q : Keep). Changed q after.plan) same
    (subst (Changed c.in_ok-keep.keep) (sym c.carry_asked_with_soft.ensures.plan) (c.in_ok-into.ensures.plan, c.in_ok-into.ensures.spelled, carried.0, carried.1))

pub returns-in-0-clause-every : goal.returns-in-0-clause-every
returns-in-0-clause-every g c = λ plan is spelled.
    c.carry_asked_with_soft.ensures.plan ∙ c.in_ok-into.ensures.every plan is spelled
