-- Windows that start in the first cycle and end in the first three are all that count.
use Rattle.std.proofs.Common.{◌≡◌, ℕ, zero, suc, ◌+◌, ◌-◌, ◌*◌, ◌/◌, ◌%◌, ◌<◌, ◌≤◌, true, [], refl, subst, inl, inr, arith}
use Rattle.std.proofs.Math.Nat.{mul-le-mul_left}
use Rattle.std.proofs.lemmas.Bool.{cases_lt}
use Rattle.slot_core.specs.declared.tasks.TaskSet.{TaskSet}
use Rattle.slot_core.specs.Sets.Cycles.{cycle_of}
use Rattle.slot_core.specs.Sets.Ranges.{is_sound}
use Rattle.slot_core.specs.Offline.OfflineJobs.{offline_jobs}
use Rattle.slot_core.specs.Feasibility.Feasible.{IsFeasible}
use Rattle.slot_core.specs.Feasibility.Sporadics.{sporadic_demand}
use Rattle.slot_core.specs.Runs.Demand.{work_from, work_between}
use Rattle.slot_facts.proofs.Bounds.CycleDemand.{FitCycle-from_sound, cycle_slots, sporadic_demand-more, sporadic_demand-shifted, cycle-fits}
use Rattle.slot_facts.proofs.Bounds.CycleSums.{due_in_one_cycle}
use Rattle.slot_facts.proofs.Bounds.SafeStart.{work_from-later}
use Rattle.slot_facts.proofs.Offline.Jobs.{cycle-positive}
use Rattle.supply_laws.specs.Laws.{TheseWindowsAreAll}
use Rattle.supply_laws.specs.Windows.{window_need}
use Rattle.supply_laws.proofs.Windows.{work_from-moved, work_from-few}

-- a window p cycles later needs no more, where it ends in three cycles
pub window_need-moved : (set : TaskSet) (n p u v : ℕ) → is_sound set ≡ true → IsFeasible set (cycle_of set) → u ≤ v → v ≤ 3 * cycle_of set → window_need set n (p * cycle_of set + u) (p * cycle_of set + v) ≤ window_need set 3 u v
window_need-moved set n p u v sound feasible low short =
    let cycle = cycle_of set in
    let m : ℕ = n - p in
    let a = p * cycle + u in
    let x = p * cycle + v in
    let at_a : u + p * cycle ≡ a = omega arith in
    let at_x : v + p * cycle ≡ x = omega arith in
    let arrivals : sporadic_demand set.sporadics [] a x ≡ sporadic_demand set.sporadics [] u v = subst (λ b. sporadic_demand set.sporadics [] b x ≡ sporadic_demand set.sporadics [] u v) at_a (subst (λ y. sporadic_demand set.sporadics [] (u + p * cycle) y ≡ sporadic_demand set.sporadics [] u v) at_x (sporadic_demand-shifted cycle set.sporadics u v (p * cycle) (FitCycle-from_sound set sound) low)) in
    omega (
      arith,
      work_from-moved set sound feasible p n m u v refl,
      work_from-few set sound feasible m 3 u v short,
      arrivals,
    )

-- a window that is a cycle longer needs at most a cycle more
pub window_need-longer : (set : TaskSet) (n a y x : ℕ) → is_sound set ≡ true → IsFeasible set (cycle_of set) → y + cycle_of set ≡ x → window_need set n a x ≤ window_need set n a y + cycle_of set
window_need-longer set n a y x sound feasible end =
    let cycle = cycle_of set in
    let jobs = offline_jobs set cycle n in
    let work : work_from jobs a x ≤ work_from jobs a y + work_between jobs y (y + cycle) = subst (λ e. work_from jobs a e ≤ work_from jobs a y + work_between jobs y (y + cycle)) end (work_from-later jobs a y cycle) in
    let demand : sporadic_demand set.sporadics [] a x ≤ sporadic_demand set.sporadics [] a y + cycle_slots cycle set.sporadics = subst (λ e. sporadic_demand set.sporadics [] a e ≤ sporadic_demand set.sporadics [] a y + cycle_slots cycle set.sporadics) end (sporadic_demand-more cycle set.sporadics [] a y (FitCycle-from_sound set sound)) in
    omega (arith, work, demand, due_in_one_cycle set n y sound feasible, cycle-fits set sound feasible)

module _ (set : TaskSet) (within slots : ℕ) (sound : is_sound set ≡ true) (feasible : IsFeasible set (cycle_of set)) (near : within ≤ cycle_of set) (free : (a x : ℕ) → a < cycle_of set → a + within ≤ x → x ≤ 3 * cycle_of set → slots + window_need set 3 a x ≤ x - a) where
  abbrev cycle : ℕ
  cycle = cycle_of set

  -- every window leaves so many free: those of at most three cycles, and each a cycle longer
  any_free : (n a p u m x : ℕ) → p * cycle + u ≡ a → u < cycle → a + within ≤ x → x ≤ (p + 3) * cycle + m * cycle → slots + window_need set n a x ≤ x - a
  any_free n a p u zero x at start long high =
      let v : ℕ = x - p * cycle in
      let end : p * cycle + v ≡ x = omega arith in
      let here = window_need-moved set n p u v sound feasible (omega arith) (omega arith) in
      let same : window_need set n a x ≤ window_need set 3 u v = subst (λ b. window_need set n b x ≤ window_need set 3 u v) at (subst (λ y. window_need set n (p * cycle + u) y ≤ window_need set 3 u v) end here) in
      omega (arith, same, free u v start (omega arith) (omega arith))
  any_free n a p u (suc m) x at start long high =
      elim (cases_lt ((p + 3) * cycle + m * cycle) x) [
        | inl past ↦ let y : ℕ = x - cycle in
            omega (arith, any_free n a p u m y at start (omega arith) (omega arith), window_need-longer set n a y x sound feasible (omega arith))
        | inr before ↦ any_free n a p u m x at start long before
      ]

  all_free : (n a x : ℕ) → a + within ≤ x → slots + window_need set n a x ≤ x - a
  all_free n a x long =
      let positive = cycle-positive set sound in
      let p = a / cycle in
      let u = a % cycle in
      let parts : p * cycle + u ≡ a = omega arith in
      let start : u < cycle = omega arith in
      any_free n a p u x x parts start long (omega (arith, mul-le-mul_left x positive))

pub these_windows_are_all : TheseWindowsAreAll
these_windows_are_all set within slots sound feasible near free = λ n a x long.
    all_free set within slots sound feasible near free n a x long
