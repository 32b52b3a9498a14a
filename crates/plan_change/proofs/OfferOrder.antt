-- Offers that ask for the same are accepted all the way or not alike, in whatever order.
use Rattle.std.proofs.Common.{◌≡◌, ℕ, ◌+◌, cond, List, [], ◌∷◌, map, refl, arith}
use Rattle.std.specs.Prelude.{IsPermutation, nat_le, sum_by, true}
use Rattle.std.proofs.lemmas.List.Sorted.{IsPermutation-sym, sum_by-IsPermutation}
use Rattle.std.proofs.lemmas.List.Sums.{sum_by-cons}
use Rattle.slot_core.specs.declared.tasks.TaskSet.{TaskSet}
use Rattle.slot_core.specs.Sets.Cycles.{cycle_of}
use Rattle.slot_core.specs.Sets.Ranges.{is_sound}
use Rattle.slot_core.specs.Feasibility.Feasible.{IsFeasible}
use Rattle.slot_core.specs.Runs.Demand.{work_by}
use Rattle.slot_core.specs.Runs.Histories.{History, last_row, time_of}
use Rattle.slot_core.specs.Runs.Traces.{IsLegal}
use Rattle.plan_change.specs.declared.offers.Offer.{Offer}
use Rattle.plan_change.specs.Laws.{TheOrderOfOffersIsFree}
use Rattle.plan_change.specs.Offers.{AllAccepted, demand_of, job_of, MayBeOffered}
use Rattle.plan_change.proofs.Together.{accepted-from_fit, fit-from_accepted, work_by-offers}

-- the slots of a demand that is due by x
abbrev due_of : ℕ → ℕ → ℕ × ℕ → ℕ
due_of t x demand = cond (nat_le (t + demand.1) x) demand.0 0

-- the work of offers is that of what they ask for
work-demand : (t : ℕ) (offers : List Offer) (x : ℕ) → work_by (map (job_of t) offers) x ≡ sum_by (due_of t x) (map demand_of offers)
work-demand t [] x = refl
work-demand t (offer ∷ offers) x =
    omega (
      arith,
      work_by-offers t offer offers x,
      sum_by-cons (due_of t x) (demand_of offer) (map demand_of offers),
      work-demand t offers x,
    )

module _ (set : TaskSet) (h : History) (sound : is_sound set ≡ true) (feasible : IsFeasible set (cycle_of set)) (legal : IsLegal set (cycle_of set) h) where
  accepted-permuted : (offers others : List Offer) → MayBeOffered (cycle_of set) (last_row h) offers → MayBeOffered (cycle_of set) (last_row h) others → IsPermutation (map demand_of offers) (map demand_of others) → AllAccepted set (cycle_of set) h offers → AllAccepted set (cycle_of set) h others
  accepted-permuted offers others may may_others permuted accepted =
      let t = time_of h in
      let fit = fit-from_accepted set sound feasible h offers legal may accepted in
      accepted-from_fit set sound feasible h others legal may_others (λ x low high.
      omega (
        arith,
        fit x low high,
        work-demand t offers x,
        work-demand t others x,
        sum_by-IsPermutation (due_of t x) (map demand_of offers) (map demand_of others) permuted,
      ))

pub the_order_of_offers_is_free : TheOrderOfOffersIsFree
the_order_of_offers_is_free set h offers others sound feasible legal may may_others permuted = (
  accepted-permuted set h sound feasible legal offers others may may_others permuted,
  accepted-permuted set h sound feasible legal others offers may_others may (IsPermutation-sym (map demand_of offers) (map demand_of others) permuted),
)
