-- What fits up to the end of the cycles that are looked at fits for ever.
use Rattle.std.proofs.Common.{◌≡◌, ℕ, zero, suc, ◌+◌, ◌-◌, ◌*◌, ◌<◌, ◌≤◌, true, cond, List, [], map, ap, subst, inl, inr, arith}
use Rattle.std.specs.Prelude.{Contains, nat_le}
use Rattle.std.proofs.Math.Nat.{mul-le-mul_left, mul-le-mul_right}
use Rattle.std.proofs.lemmas.Bool.{cases_lt}
use Rattle.std.proofs.lemmas.Bool.Decides.{nat_tests}
use Rattle.slot_core.specs.declared.jobs.Job.{Job}
use Rattle.slot_core.specs.declared.tasks.TaskSet.{TaskSet}
use Rattle.slot_core.specs.Offline.OfflineJobs.{cycle_jobs, offline_jobs}
use Rattle.slot_core.specs.Sets.Cycles.{cycle_of}
use Rattle.slot_core.specs.Sets.Ranges.{is_sound}
use Rattle.slot_core.specs.Feasibility.Feasible.{IsFeasible}
use Rattle.slot_core.specs.Runs.Demand.{work_by}
use Rattle.slot_facts.proofs.Lists.Members.{Has-map_cases, Contains-from_Has, AllByRecursion-from_Has}
use Rattle.slot_facts.proofs.Lists.Sums.{sum_by-le-where, sum_by-constant}
use Rattle.slot_facts.proofs.Offline.Jobs.{cycle-positive}
use Rattle.slot_facts.proofs.Legal.Cycles.{cycle_job-due}
use Rattle.slot_facts.proofs.Scheduling.Beside.{work_by-both}
use Rattle.slot_facts.proofs.Bounds.CycleSums.{due_in_one_cycle}
use Rattle.slot_facts.proofs.Bounds.CycleDemand.{FitCycle-from_sound, sporadic_demand-more, cycle-fits}
use Rattle.slot_facts.proofs.Bounds.CycleLater.{work_by-later}
use Rattle.change_laws.specs.Carried.{since, cycles_of_change, AreCarried}
use Rattle.change_laws.specs.Demand.{due_after, FitsFor}
use Rattle.change_laws.specs.Laws.{FitsForEver, ChangesCanBeServedForEver}
use Rattle.change_laws.proofs.GrantJobs.{the_cycles_are_least}
use Rattle.change_laws.proofs.GrantExact.{due_after-now, changes_are_exact}

not_due_before : (x n dl left : ℕ) → x ≤ n → n < dl → cond (nat_le dl x) left 0 ≤ 0
not_due_before x n dl left early late = grind (arith, nat_tests)

-- the jobs of a cycle are due after it begins
cycle-not_due : (set : TaskSet) (n x : ℕ) → is_sound set ≡ true → IsFeasible set (cycle_of set) → x ≤ n * cycle_of set → work_by (cycle_jobs set (cycle_of set) n) x ≤ 0
cycle-not_due set n x sound feasible early =
    let cycle = cycle_of set in
    let jobs = cycle_jobs set cycle n in
    let late = AllByRecursion-from_Has (λ (j : Job). n * cycle < j.dl) jobs (λ job at. cycle_job-due set n job sound feasible at) in
    omega (arith, sum_by-le-where (λ (j : Job). cond (nat_le j.dl x) j.left 0) (λ (j : Job). 0) (λ (j : Job). n * cycle < j.dl) jobs late (λ j after. not_due_before x (n * cycle) j.dl j.left early after), sum_by-constant 0 jobs)

-- more cycles have no less work
offline-more : (set : TaskSet) (n m x : ℕ) → n ≤ m → work_by (offline_jobs set (cycle_of set) n) x ≤ work_by (offline_jobs set (cycle_of set) m) x
offline-more set n zero x few =
    let here : 0 ≡ n = omega (arith, few) in
    subst (λ k. work_by (offline_jobs set (cycle_of set) k) x ≤ work_by (offline_jobs set (cycle_of set) 0) x) here (omega arith)
offline-more set n (suc m) x few =
    let cycle = cycle_of set in
    let before = offline-more set n m x in
    elim (cases_lt m n) [
      | inl last ↦ let here : suc m ≡ n = omega (arith, few, last) in
          subst (λ k. work_by (offline_jobs set cycle k) x ≤ work_by (offline_jobs set cycle (suc m)) x) here (omega arith)
      | inr fewer ↦ omega (arith, before fewer, work_by-both (offline_jobs set cycle m) (cycle_jobs set cycle m) x)
    ]

-- by the end of m cycles no number of cycles has more work than those
pub offline-in_cycles : (set : TaskSet) (n m x : ℕ) → is_sound set ≡ true → IsFeasible set (cycle_of set) → x ≤ m * cycle_of set → work_by (offline_jobs set (cycle_of set) n) x ≤ work_by (offline_jobs set (cycle_of set) m) x
offline-in_cycles set zero m x sound feasible early = offline-more set 0 m x (omega arith)
offline-in_cycles set (suc n) m x sound feasible early =
    let cycle = cycle_of set in
    let rest = offline-in_cycles set n m x sound feasible early in
    elim (cases_lt n m) [
      | inl within ↦ offline-more set (suc n) m x within
      | inr past ↦ let low : m * cycle ≤ n * cycle = mul-le-mul_right cycle past in
          omega (arith, rest, work_by-both (offline_jobs set cycle n) (cycle_jobs set cycle n) x, cycle-not_due set n x sound feasible (omega (arith, early, low)))
    ]

due_already : (y cycle dl left : ℕ) → dl ≤ y → cond (nat_le dl (y + cycle)) left 0 ≤ cond (nat_le dl y) left 0
due_already y cycle dl left early = grind (arith, nat_tests)

-- past their deadlines carried jobs need no more
carried-no_more : (c y cycle : ℕ) (carried : List Job) → ((job : Job) → Contains carried job → job.dl ≤ c + y) → work_by (map (since c) carried) (y + cycle) ≤ work_by (map (since c) carried) y
carried-no_more c y cycle carried early =
    let ours = map (since c) carried in
    let each = AllByRecursion-from_Has (λ (j : Job). j.dl ≤ y) ours
    (λ job at.
    let (old, listed, same) = Has-map_cases (since c) carried job at in
    subst (λ (j : Job). j.dl ≤ y) same (omega (arith, early old (Contains-from_Has carried old listed)))) in
    sum_by-le-where (λ (j : Job). cond (nat_le j.dl (y + cycle)) j.left 0) (λ (j : Job). cond (nat_le j.dl y) j.left 0) (λ (j : Job). j.dl ≤ y) ours each (λ j due. due_already y cycle j.dl j.left due)

-- a cycle later at most a cycle more is due
due_after-more : (set : TaskSet) (c n y : ℕ) (carried : List Job) → is_sound set ≡ true → IsFeasible set (cycle_of set) → ((job : Job) → Contains carried job → job.dl ≤ c + y) → due_after set c carried n (y + cycle_of set) ≤ due_after set c carried n y + cycle_of set
due_after-more set c n y carried sound feasible early =
    let cycle = cycle_of set in
    let ours = map (since c) carried in
    let planned = offline_jobs set cycle n in
    omega (
      arith,
      work_by-both ours planned y,
      work_by-both ours planned (y + cycle),
      carried-no_more c y cycle carried early,
      work_by-later planned y cycle,
      due_in_one_cycle set n y sound feasible,
      sporadic_demand-more cycle set.sporadics [] 0 y (FitCycle-from_sound set sound),
      cycle-fits set sound feasible,
    )

-- at every time up to a number of cycles past the first m
fits-from : (set : TaskSet) (c row n m k x : ℕ) (carried : List Job) → is_sound set ≡ true → IsFeasible set (cycle_of set) → AreCarried c row carried → 1 ≤ m → ((job : Job) → Contains carried job → job.dl ≤ c + (m - 1) * cycle_of set) → FitsFor set c carried m → x ≤ m * cycle_of set + k * cycle_of set → due_after set c carried n x ≤ x
fits-from set c row n m zero x carried sound feasible own some reach fits high =
    let ours = map (since c) carried in
    let cycle = cycle_of set in
    elim (cases_lt 0 x) [
      | inl later ↦ omega (
        arith,
        fits x (omega arith) (omega arith),
        work_by-both ours (offline_jobs set cycle n) x,
        work_by-both ours (offline_jobs set cycle m) x,
        offline-in_cycles set n m x sound feasible (omega arith),
      )
      | inr now ↦ let here : 0 ≡ x = omega (arith, now) in
          subst (λ y. due_after set c carried n y ≤ y) here (due_after-now set c row n carried sound feasible own)
    ]
fits-from set c row n m (suc k) x carried sound feasible own some reach fits high =
    let cycle = cycle_of set in
    let before = fits-from set c row n m k in
    elim (cases_lt (m * cycle) x) [
      | inl past ↦ let y = x - cycle in
          let last : m - 1 + 1 ≡ m = omega (arith, some) in
          let whole : (m - 1) * cycle + cycle ≡ m * cycle = omega (arith, ap (λ n. n * cycle) last) in
          let end : y + cycle ≡ x = omega (arith, whole) in
          let rest : due_after set c carried n y ≤ y = before y carried sound feasible own some reach fits (omega arith) in
          let more = due_after-more set c n y carried sound feasible (λ job at. omega (arith, reach job at, whole)) in
          subst (λ e. due_after set c carried n e ≤ e) end (omega (arith, rest, more))
      | inr within ↦ before x carried sound feasible own some reach fits (omega arith)
    ]

-- so what fits fits for ever
pub fits_for_ever : FitsForEver
fits_for_ever set c row cycles carried sound feasible own fits = λ x low high.
    let positive = cycle-positive set sound in
    let m = cycles_of_change (cycle_of set) c carried in
    let least = the_cycles_are_least (cycle_of set) c row carried positive own in
    fits-from set c row cycles m x x carried sound feasible own (omega (arith, least.three)) least.reach fits (omega (arith, mul-le-mul_left x positive))

-- and a change that can be served can be for any number of cycles
pub changes_can_be_served_for_ever : ChangesCanBeServedForEver
changes_can_be_served_for_ever set c row cycles carried sound feasible own can =
    let m = cycles_of_change (cycle_of set) c carried in
    let fits = (changes_are_exact set c row m carried sound feasible own).0 can in
    (changes_are_exact set c row cycles carried sound feasible own).1 (fits_for_ever set c row cycles carried sound feasible own fits)
