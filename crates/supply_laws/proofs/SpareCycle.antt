-- The times of one cycle are all that count for what is spare.
use Rattle.std.proofs.Common.{◌≡◌, ℕ, ◌+◌, ◌-◌, ◌*◌, ◌/◌, ◌%◌, ◌≤◌, ◌<◌, refl, ap, subst, inl, inr, arith}
use Rattle.std.proofs.lemmas.Bool.{cases_lt}
use Rattle.slot_core.specs.Sets.Cycles.{cycle_of}
use Rattle.slot_core.specs.Offline.OfflineJobs.{offline_jobs}
use Rattle.slot_core.specs.Runs.Demand.{work_between}
use Rattle.slot_facts.proofs.Offline.Jobs.{cycle-positive}
use Rattle.supply_laws.specs.Laws.{TheseTimesAreAll}
use Rattle.supply_laws.proofs.Windows.{work_between-moved, work_between-few, work_between-next}

pub these_times_are_all : TheseTimesAreAll
these_times_are_all set within slots sound feasible near spare = λ n x long.
    let cycle = cycle_of set in
    let positive = cycle-positive set sound in
    let p = x / cycle in
    let v = x % cycle in
    let parts : p * cycle + v ≡ x = omega arith in
    let below : v < cycle = omega arith in
    let u : ℕ = cycle + v in
    let (l, short, free) = spare u (omega arith) (omega arith) in
    let y : ℕ = u - l in
    let fewer : work_between (offline_jobs set cycle n) (x - l) x ≤ work_between (offline_jobs set cycle 2) y u =
    elim (cases_lt 0 p) [
      | inl later ↦
          let q : ℕ = p - 1 in
          let whole : q + 1 ≡ p = omega arith in
          let times : q * cycle + cycle ≡ p * cycle = omega (arith, ap (λ n. n * cycle) whole) in
          let at_x : q * cycle + u ≡ x = omega (arith, times) in
          let at_y : q * cycle + y ≡ x - l = omega (arith, at_x) in
          let moved = work_between-moved set sound feasible q n (n - q) y u refl in
          let here = work_between-few set sound feasible (n - q) 2 y u (omega arith) in
          let same : work_between (offline_jobs set cycle n) (x - l) x ≤ work_between (offline_jobs set cycle (n - q)) y u = subst (λ b. work_between (offline_jobs set cycle n) b x ≤ work_between (offline_jobs set cycle (n - q)) y u) at_y (subst (λ b. work_between (offline_jobs set cycle n) (q * cycle + y) b ≤ work_between (offline_jobs set cycle (n - q)) y u) at_x moved) in
          omega (arith, same, here)
      | inr first ↦
          let none : p * cycle ≡ 0 = times-zero p cycle (omega arith) in
          let at_u : x + cycle ≡ u = omega (arith, parts, none) in
          let at_y : x - l + cycle ≡ y = omega (arith, at_u) in
          let here = work_between-few set sound feasible n 1 (x - l) x (omega (arith, at_u)) in
          let next = work_between-next set sound feasible (x - l) x in
          let same : work_between (offline_jobs set cycle 1) (x - l) x ≤ work_between (offline_jobs set cycle 2) y u = subst (λ b. work_between (offline_jobs set cycle 1) (x - l) x ≤ work_between (offline_jobs set cycle 2) b u) at_y (subst (λ b. work_between (offline_jobs set cycle 1) (x - l) x ≤ work_between (offline_jobs set cycle 2) (x - l + cycle) b) at_u next) in
          omega (arith, here, same)
    ] in
    (l, short, omega (arith, free, fewer))
  where
    times-zero : (p m : ℕ) → p ≡ 0 → p * m ≡ 0
    times-zero p m none = rw none (omega arith)
