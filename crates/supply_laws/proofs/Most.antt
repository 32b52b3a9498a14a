-- The supply is the most that is always accepted, and a budget.
use Rattle.std.proofs.Common.{◌≡◌, ◌+◌, inl, inr, arith, sym, ◌∙◌}
use Rattle.std.proofs.lemmas.Bool.{cases_lt}
use Rattle.slot_core.specs.declared.events.Firm.TheVariants.{Accepted, NoRoom}
use Rattle.supply_laws.specs.Laws.{IsAccepted, SupplyIsTheMost, SupplyIsABudget}
use Rattle.supply_laws.specs.Requests.{quiet}
use Rattle.supply_laws.proofs.Exact.{supply_is_exact}
use Rattle.supply_laws.proofs.FewWindows.{these_windows_are_all}
use Rattle.supply_laws.proofs.Guaranteed.{supply_is_guaranteed}

pub supply_is_the_most : SupplyIsTheMost
supply_is_the_most set offer within slots sound feasible some near is = (
  λ few h legal none unused.
      let free = these_windows_are_all set within slots sound feasible near is.free in
      supply_is_guaranteed set h offer within slots sound feasible legal some near (λ n a x long. free n a x (omega arith)) (omega (arith, none, unused)),
  λ always. elim (cases_lt slots offer) [
    | inr few ↦ few
    | inl more ↦
        let (a, x, worst) = is.worst in
        let exact = supply_is_exact set offer within a x sound feasible some near worst.start worst.long worst.end (omega (arith, worst.leaves)) in
        let yes : IsAccepted set (quiet set a) offer within = always (quiet set a) exact.0.legal exact.0.none exact.0.unused in
        let both : Accepted ≡ NoRoom exact.1.0 = sym yes ∙ exact.1.1 in
        absurd (cc both)
  ],
)

-- windows of as many slots more as were used leave no less free
pub supply_is_a_budget : SupplyIsABudget
supply_is_a_budget set h offer within slots sound feasible legal some near is fits =
    let free = these_windows_are_all set within slots sound feasible near is.free in
    supply_is_guaranteed set h offer within slots sound feasible legal some near (λ n a x long. free n a x (omega (arith, long))) fits
