-- The handle has what was opened, and what it carries is what the first one had. A status that tells of no change is not
-- OK.
use Rattle.std.proofs.Common.{◌≡◌, ◌⊎◌, ℕ, subst, sym, ◌∙◌, inl, inr}
use Rattle.std.proofs.lemmas.Bool.{cases_eq}
use Rattle.slot_core.specs.Keeping.Executives.{Executive}
use Rattle.slot_port.specs.declared.status.TheConstants.{BAD_TABLE, MEMORY, OK, REFUSED}
use Rattle.slot_port.specs.Changes.{asked_status, ChangesWithSoft, keep_named}
use Rattle.slot_c.proofs.changes.ss_change_with_soft.Goals as goal

pub returns-in-Ok-clause-changes : goal.returns-in-Ok-clause-changes
returns-in-Ok-clause-changes c = λ k named done.
    let Changed : Executive → Executive → Type 0 = λ first after. ChangesWithSoft k c.args.first first c.args.table.now after c.changed_with_soft.new.told in
    subst (λ (e : Executive). Changed e c.opened.result.handle.value) (c.deref_mut.ensures.value ∙ c.take-unit.ensures.value)
    (subst (Changed c.deref_mut.result.now) (sym c.opened.ensures.value) (c.in-Ok.ensures.changes k named))

-- so it is for each of the three
not_done : (status : ℕ) → (status ≡ MEMORY) ⊎ (status ≡ BAD_TABLE) ⊎ (status ≡ REFUSED) → status ≡ OK → ⊥
not_done status (inl memory) done = cc (sym memory ∙ done)
not_done status (inr (inl table)) done = cc (sym table ∙ done)
not_done status (inr (inr refused)) done = cc (sym refused ∙ done)

pub returns-in-Err-clause-changes : goal.returns-in-Err-clause-changes
returns-in-Err-clause-changes c = λ k named done.
    let asked = asked_status c.deref_mut.result.now c.args.first (keep_named c.args.keep) in
    elim (cases_eq asked OK) [
      | inl fits ↦ absurd (not_done c.in-Err.status (c.in-Err.ensures.statuses fits) done)
      | inr other ↦
          let same : c.in-Err.status ≡ asked = cc (c.in-Err.ensures.asked other) in
          absurd (other (sym same ∙ done))
    ]
