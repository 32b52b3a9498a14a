-- The box has the executive that was opened.
use Rattle.std.proofs.Common.{◌≡◌, subst, sym, ◌∙◌, ap}
use Rattle.std.proofs.lemmas.Result.{IfOk-weaker}
use Rattle.slot_core.specs.Keeping.Executives.{Executive}
use Rattle.slot_port.specs.Changes.{Changes}
use Rattle.slot_c.proofs.unit.Unit.changed.Goals as goal

pub returns-clause-changes : goal.returns-clause-changes
returns-clause-changes c = λ k named.
    let Changed : Executive → Executive → Type 0 = λ first e. Changes k c.args.first first c.args.table.now e c.change.new.told in
    IfOk-weaker c.boxed.result (λ it. it.value ≡ c.in_ok-exec.exec) (λ it. Changed c.args.self.now it.value) (λ it same. subst (Changed c.args.self.now) (sym same) (subst (λ (e : Executive). Changed e c.in_ok-exec.exec) c.self.view_is (c.in_ok-exec.ensures.changes k named))) c.boxed.ensures.value

pub returns-clause-every : goal.returns-clause-every
returns-clause-every c = λ plan is spelled.
    IfOk-weaker c.boxed.result (λ it. it.value ≡ c.in_ok-exec.exec) (λ it. it.value.plan ≡ plan) (λ it same. ap (λ (e : Executive). e.plan) same ∙ c.in_ok-exec.ensures.every plan is spelled) c.boxed.ensures.value
