-- What a search over windows finds is the supply.
use Rattle.std.proofs.Common.{◌≡◌, ℕ, zero, suc, ◌+◌, ◌-◌, ◌*◌, ◌<◌, ◌≤◌, Bool, true, cond, ◌==◌, [], Option, Some, None, eqb-true, refl, sym, ap, subst, inl, inr, arith}
use Rattle.std.specs.Prelude.{find, unwrap_or, nat_le, ◌&&◌}
use Rattle.std.specs.List.{range_with_len}
use Rattle.std.proofs.lemmas.Bool.{both_ways, cases_lt, eq-eqb, ne_eqb}
use Rattle.std.proofs.lemmas.Bool.Decides.{nat_tests}
use Rattle.std.proofs.lemmas.List.Sums.{sum_by-le-sum_by}
use Rattle.slot_core.specs.declared.jobs.Job.{Job}
use Rattle.slot_core.specs.Offline.OfflineJobs.{offline_jobs}
use Rattle.demand_test.proofs.ArrivalsGrow.{sporadic_demand-grows}
use Rattle.slot_core.specs.declared.tasks.TaskSet.{TaskSet}
use Rattle.slot_core.specs.Sets.Cycles.{cycle_of}
use Rattle.slot_core.specs.Sets.Ranges.{is_sound}
use Rattle.slot_core.specs.Feasibility.Feasible.{IsFeasible}
use Rattle.slot_facts.proofs.Bounds.SafeStart.{offline_jobs-fit}
use Rattle.slot_facts.proofs.Lists.Members.{Has-range_with_len, Has-range_with_len_bounds}
use Rattle.slot_facts.proofs.Lists.Tests.{find-Some}
use Rattle.slot_facts.proofs.Offline.Jobs.{cycle-positive}
use Rattle.slot_facts.proofs.Sets.Faults.{find-None}
use Rattle.supply_laws.specs.Windows.{window_need, IsSupply, IsWorst}
use Rattle.supply_laws.proofs.FewWindows.{window_need-longer}
use Rattle.supply_find.specs.Found.{free_in, least_free, supply_slots, shortest, first_start, SupplyIsFound, SupplyRisesSlowly}
use Rattle.supply_find.proofs.Least.{least-start, least-at, least-reached, least-is, find-is}

-- by a later time no less is needed
by_grows : (a x y est dl n : ℕ) → x ≤ y → cond (nat_le a est && nat_le dl x) n 0 ≤ cond (nat_le a est && nat_le dl y) n 0
by_grows a x y est dl n later = grind (arith, nat_tests)

window_need-grows : (set : TaskSet) (n a x y : ℕ) → x ≤ y → window_need set n a x ≤ window_need set n a y
window_need-grows set n a x y later =
    omega (
      arith,
      sum_by-le-sum_by (λ (j : Job). cond (nat_le a j.est && nat_le j.dl x) j.left 0) (λ (j : Job). cond (nat_le a j.est && nat_le j.dl y) j.left 0) (offline_jobs set (cycle_of set) n) (λ j. by_grows a x y j.est j.dl j.left later),
      sporadic_demand-grows set.sporadics a x y later,
    )

module _ (set : TaskSet) (sound : is_sound set ≡ true) (feasible : IsFeasible set (cycle_of set)) where
  abbrev cycle : ℕ
  cycle = cycle_of set

  -- what a window needs
  abbrev needs : ℕ → ℕ → ℕ
  needs n a = window_need set 3 a (a + n)

  positive : 1 ≤ cycle
  positive = cycle-positive set sound

  pub need-fits : (n a : ℕ) → window_need set 3 a (a + n) ≤ n
  need-fits n a = omega (arith, offline_jobs-fit set 3 [] a (a + n) sound feasible (omega arith))

  -- some window leaves least free
  some_least : (n : ℕ) → (a : ℕ) × (a < cycle) × (free_in set n a ≡ least_free set n)
  some_least n =
      elim (least-reached (free_in set n) n 0 cycle) [
        | inl start ↦ (0, positive, omega (arith, start, least-at (free_in set n) n 0 cycle 0 (omega arith) (omega (arith, positive))))
        | inr at ↦ (at.0, omega (arith, at.2), at.3)
      ]

  -- a window with most work leaves least free
  pub least_free-is : (n a : ℕ) → a < cycle → ((b : ℕ) → b < cycle → window_need set 3 b (b + n) ≤ window_need set 3 a (a + n)) → least_free set n ≡ n - window_need set 3 a (a + n)
  least_free-is n a start most =
      least-is (free_in set n) n 0 cycle (free_in set n a) a (omega arith) (λ b low high. omega (arith, most b (omega arith))) (omega arith) (omega arith) refl

  -- and the first of them is the first start
  pub first_start-is : (n a : ℕ) → a < cycle → ((b : ℕ) → b < cycle → window_need set 3 b (b + n) ≤ window_need set 3 a (a + n)) → ((b : ℕ) → b < a → window_need set 3 b (b + n) < window_need set 3 a (a + n)) → first_start set n ≡ a
  first_start-is n a start most first =
      let is = least_free-is n a start most in
      let found = find-is (λ b. free_in set n b == least_free set n) 0 cycle a (omega arith) (omega (arith, start)) (λ b low early. ne_eqb (free_in set n b) (least_free set n) (λ same. absurd (omega (arith, same, is, first b early, need-fits n a)))) (eq-eqb (free_in set n a) (least_free set n) (sym is)) in
      ap (λ o. unwrap_or o 0) found

  -- a window a cycle longer leaves no less free
  pub least_free-longer : (n : ℕ) → least_free set n ≤ least_free set (n + cycle)
  least_free-longer n =
      let (a, start, is) = some_least (n + cycle) in
      let end : a + n + cycle ≡ a + (n + cycle) = omega arith in
      omega (
        arith,
        is,
        window_need-longer set 3 a (a + n) (a + (n + cycle)) sound feasible end,
        least-at (free_in set n) n 0 cycle a (omega arith) (omega (arith, start)),
      )

  -- the shortest length that leaves least free is at most a cycle more
  shortest-near : (within n : ℕ) → within ≤ n → ((k : ℕ) → within ≤ k → k < n → least_free set n < least_free set k) → n ≤ within + cycle
  shortest-near within n low first =
      elim (cases_lt (within + cycle) n) [
        | inr near ↦ near
        | inl past ↦
            let k : ℕ = n - cycle in
            let same : k + cycle ≡ n = omega arith in
            let longer = subst (λ m. least_free set k ≤ least_free set m) same (least_free-longer k) in
            absurd (omega (arith, longer, first k (omega arith) (omega (arith, positive))))
      ]

  -- so it is the one that is found
  pub supply-is : (within n high : ℕ) → within ≤ n → n ≤ high → within + cycle ≤ high → ((k : ℕ) → within ≤ k → k ≤ high → least_free set n ≤ least_free set k) → ((k : ℕ) → within ≤ k → k < n → least_free set n < least_free set k) → (supply_slots set within ≡ least_free set n) × (shortest set within ≡ n)
  supply-is within n high low below far least first =
      let near = shortest-near within n low first in
      let slots = least-is (least_free set) within within (cycle + 1) (least_free set n) n (omega (arith, least within (omega arith) (omega arith), least-start (free_in set within) within 0 cycle)) (λ k from upto. least k from (omega arith)) low (omega arith) refl in
      let found = find-is (λ k. least_free set k == supply_slots set within) within (cycle + 1) n low (omega arith) (λ k from early. ne_eqb (least_free set k) (supply_slots set within) (λ same. absurd (omega (arith, same, slots, first k from early)))) (eq-eqb (least_free set n) (supply_slots set within) (sym slots)) in
      (slots, ap (λ o. unwrap_or o within) found)

  -- some length has the supply
  some_length : (within : ℕ) → (n : ℕ) × (within ≤ n) × (n ≤ within + cycle) × (least_free set n ≡ supply_slots set within)
  some_length within =
      elim (least-reached (least_free set) within within (cycle + 1)) [
        | inl start ↦ (within, omega arith, omega arith, omega (arith, start, least-at (least_free set) within within (cycle + 1) within (omega arith) (omega arith), least-start (free_in set within) within 0 cycle))
        | inr at ↦ (at.0, at.1, omega (arith, at.2), at.3)
      ]

  -- every window of the first cycle leaves the supply free, also a longer one
  free-long : (within m n a : ℕ) → a < cycle → within ≤ n → n ≤ within + cycle + m * cycle → supply_slots set within + window_need set 3 a (a + n) ≤ n
  free-long within zero n a start low near =
      omega (
        arith,
        least-at (least_free set) within within (cycle + 1) n low (omega arith),
        least-at (free_in set n) n 0 cycle a (omega arith) (omega (arith, start)),
        need-fits n a,
      )
  free-long within (suc m) n a start low near =
      elim (cases_lt (within + cycle + m * cycle) n) [
        | inr shorter ↦ free-long within m n a start low shorter
        | inl past ↦
            let k : ℕ = n - cycle in
            let end : a + k + cycle ≡ a + n = omega arith in
            omega (arith, free-long within m k a start (omega arith) (omega arith), window_need-longer set 3 a (a + k) (a + n) sound feasible end)
      ]

  -- a place that is found passes
  found-at : (p : ℕ → Bool) (a n k d : ℕ) → a ≤ k → k < a + n → p k ≡ true → (a ≤ unwrap_or (find p (range_with_len a n)) d) × (unwrap_or (find p (range_with_len a n)) d < a + n) × (p (unwrap_or (find p (range_with_len a n)) d) ≡ true)
  found-at p a n k d low high passes = by_found (find p (range_with_len a n)) refl
    where
      by_found : (o : Option ℕ) → find p (range_with_len a n) ≡ o → (a ≤ unwrap_or o d) × (unwrap_or o d < a + n) × (p (unwrap_or o d) ≡ true)
      by_found None e = absurd (both_ways (p k) (find-None p (range_with_len a n) k e (Has-range_with_len a n k low high)) passes)
      by_found (Some x) e =
          let found = find-Some p (range_with_len a n) x e in
          let bounds = Has-range_with_len_bounds a n x found.0 in
          (bounds.0, bounds.1, found.1)

  pub found : (within : ℕ) → within ≤ cycle → IsSupply set within (supply_slots set within) × IsWorst set within (supply_slots set within) (first_start set (shortest set within)) (first_start set (shortest set within) + shortest set within)
  found within near =
      let slots = supply_slots set within in
      let some = some_length within in
      let length = found-at (λ n. least_free set n == slots) within (cycle + 1) some.0 within some.1 (omega (arith, some.2)) (eq-eqb (least_free set some.0) slots some.3) in
      let n : ℕ = shortest set within in
      let least : least_free set n ≡ slots = eqb-true (least_free set n) slots length.2 in
      let one = some_least n in
      let start = found-at (λ a. free_in set n a == least_free set n) 0 cycle one.0 0 (omega arith) (omega (arith, one.1)) (eq-eqb (free_in set n one.0) (least_free set n) one.2) in
      let a : ℕ = first_start set n in
      let free : free_in set n a ≡ least_free set n = eqb-true (free_in set n a) (least_free set n) start.2 in
      let worst : IsWorst set within slots a (a + n) = record {
        start = omega (arith, start.1);
        long = omega (arith, length.0);
        end = omega (arith, length.1, start.1);
        leaves = omega (arith, free, least, need-fits n a);
      } in (
        record {
          free = λ b x low long end.
              let m : ℕ = x - b in
              let same : b + m ≡ x = omega arith in
              subst (λ y. slots + window_need set 3 b y ≤ m) same (free-long within 2 m b low (omega arith) (omega arith));
          worst = (a, a + n, worst);
        },
        worst,
      )

  -- with one slot more it is as much, or one slot more
  least_free-rises : (n : ℕ) → least_free set (n + 1) ≤ least_free set n + 1
  least_free-rises n =
      let (a, start, is) = some_least n in
      let end : a + (n + 1) ≡ a + n + 1 = omega arith in
      let more : window_need set 3 a (a + n) ≤ window_need set 3 a (a + (n + 1)) = window_need-grows set 3 a (a + n) (a + (n + 1)) (omega arith) in
      omega (arith, is, more, least-at (free_in set (n + 1)) (n + 1) 0 cycle a (omega arith) (omega (arith, start)))

  pub rises_slowly : (within : ℕ) → (supply_slots set within ≤ supply_slots set (within + 1)) × (supply_slots set (within + 1) ≤ supply_slots set within + 1)
  rises_slowly within =
      let here = some_length within in
      let next = some_length (within + 1) in
      let less : supply_slots set within ≤ supply_slots set (within + 1) =
      elim (cases_lt (within + cycle) next.0) [
        | inl past ↦
            let same : within + 1 + cycle ≡ next.0 = omega (arith, next.2) in
            let longer = subst (λ m. least_free set (within + 1) ≤ least_free set m) same (least_free-longer (within + 1)) in
            omega (arith, longer, next.3, least-at (least_free set) within within (cycle + 1) (within + 1) (omega arith) (omega (arith, positive)))
        | inr near ↦ omega (arith, next.3, least-at (least_free set) within within (cycle + 1) next.0 (omega (arith, next.1)) (omega (arith, near)))
      ] in
      let more : supply_slots set (within + 1) ≤ supply_slots set within + 1 =
      elim (cases_lt within here.0) [
        | inl later ↦ omega (arith, here.3, least-at (least_free set) (within + 1) (within + 1) (cycle + 1) here.0 (omega (arith, later)) (omega (arith, here.2)))
        | inr now ↦
            let same : within ≡ here.0 = omega (arith, now, here.1) in
            let at = ap (least_free set) same in
            omega (arith, here.3, at, least_free-rises within, least-at (least_free set) (within + 1) (within + 1) (cycle + 1) (within + 1) (omega arith) (omega arith))
      ] in
      (less, more)

pub supply_is_found : SupplyIsFound
supply_is_found set within sound feasible near = found set sound feasible within near

pub supply_rises_slowly : SupplyRisesSlowly
supply_rises_slowly set within sound feasible = rises_slowly set sound feasible within
