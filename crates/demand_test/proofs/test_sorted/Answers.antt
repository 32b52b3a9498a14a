use Rattle.std.proofs.Common.{◌≡◌, ◌≤◌, List, sym, subst, arith, rules}
use Rattle.std.specs.Prelude.{IfOk}
use Rattle.std.specs.List.Sorted.{IsPermutation}
use Rattle.std.proofs.lemmas.List.Sorted.{IsNonDecreasingBy-from_sort_by_key, All-permutation, sum_by-IsPermutation}
use Rattle.slot_core.specs.declared.jobs.Job.{Job}
use Rattle.demand_test.specs.Verdicts.{verdict_of}
use Rattle.slot_facts.proofs.Demand.Feasible.{counterexample_in-permutation}
use Rattle.demand_test.proofs.CycleTotals.{window_demand-cycle}
use Rattle.demand_test.proofs.test_sorted.Goals as goal

-- the sorted copy is the jobs in another order
in_order : (jobs copy sorted slice : List Job) → copy ≡ jobs → IsPermutation copy sorted → slice ≡ sorted → IsPermutation jobs slice
in_order jobs copy sorted slice a b c =
    subst (λ xs. IsPermutation jobs xs) (sym c) (subst (λ xs. IsPermutation xs sorted) a b)

pub test_ordered-requires-clause-within : goal.test_ordered-requires-clause-within
test_ordered-requires-clause-within c =
    let same = in_order c.args.jobs.now c.in_ok-ordered.ordered.items c.sort_unstable_by_key.new.self.items c.as_slice.result.now c.in_ok-ordered.ensures.items c.sort_unstable_by_key.ensures.permutation c.as_slice.ensures.value in
    All-permutation (λ (j : Job). j.dl ≤ c.args.cycle) c.args.jobs.now c.as_slice.result.now same c.requires.within

pub test_ordered-requires-clause-fits : goal.test_ordered-requires-clause-fits
test_ordered-requires-clause-fits c =
    let same = in_order c.args.jobs.now c.in_ok-ordered.ordered.items c.sort_unstable_by_key.new.self.items c.as_slice.result.now c.in_ok-ordered.ensures.items c.sort_unstable_by_key.ensures.permutation c.as_slice.ensures.value in
    omega (
      arith,
      sum_by-IsPermutation (λ (j : Job). j.declared) c.args.jobs.now c.as_slice.result.now same,
      window_demand-cycle c.args.jobs.now c.args.sporadics.now c.args.cycle c.requires.within,
      window_demand-cycle c.as_slice.result.now c.args.sporadics.now c.args.cycle (test_ordered-requires-clause-within c),
    )

pub test_ordered-requires-clause-ordered : goal.test_ordered-requires-clause-ordered
test_ordered-requires-clause-ordered c =
    let sorted = IsNonDecreasingBy-from_sort_by_key (λ (j : Job). j.est) c.sort_unstable_by_key.new.self.items c.sort_unstable_by_key.ensures.sorted (λ a r q k. search rules) in
    rw c.as_slice.ensures.value sorted

pub returns : goal.returns
returns c =
    let same = in_order c.args.jobs.now c.in_ok-ordered.ordered.items c.sort_unstable_by_key.new.self.items c.as_slice.result.now c.in_ok-ordered.ensures.items c.sort_unstable_by_key.ensures.permutation c.as_slice.ensures.value in
    subst (λ o. IfOk c.test_ordered.result (λ v. v ≡ verdict_of o)) (sym (counterexample_in-permutation c.args.jobs.now c.as_slice.result.now c.args.sporadics.now c.args.cycle same)) c.test_ordered.ensures
