-- The capacities of the first cycle look no further than its end: from there on the slack does not fall.
use Rattle.std.proofs.Common.{◌≡◌, ℕ, suc, ◌+◌, ◌-◌, ◌*◌, ◌<◌, ◌≤◌, ◌⊎◌, true, ℤ, pos, ◌+ℤ◌, ◌-ℤ◌, ◌≤ℤ◌, ◌&&◌, cond, ltb, leb, List, [], ◌∷◌, ◌++◌, refl, sym, ap, ◌∙◌, subst, inl, inr, ⊎_elim, arith}
use Rattle.std.specs.Prelude.{nat_le, nat_lt}
use Rattle.std.specs.List.{AllByRecursion}
use Rattle.std.proofs.lemmas.Bool.{cases_lt}
use Rattle.std.proofs.lemmas.Bool.Decides.{nat_tests}
use Rattle.std.proofs.lemmas.Int.{ints}
use Rattle.std.proofs.lemmas.List.Sums.{sum_by-append}
use Rattle.slot_core.specs.declared.jobs.Job.{Job}
use Rattle.slot_core.specs.declared.tasks.TaskSet.{TaskSet}
use Rattle.slot_core.specs.Sets.Cycles.{cycle_of}
use Rattle.slot_core.specs.Sets.Ranges.{is_sound}
use Rattle.slot_core.specs.Offline.OfflineJobs.{cycle_jobs, offline_jobs, later_job}
use Rattle.slot_core.specs.Feasibility.Feasible.{IsFeasible}
use Rattle.slot_core.specs.Runs.Demand.{work_between, work_from}
use Rattle.slot_core.specs.Runs.Rising.{AreRising, last_point}
use Rattle.slot_core.specs.Runs.Spans.{slack, spare_capacity, spans_between}
use Rattle.slot_facts.proofs.Lists.Members.{Has, Has-map_cases, Contains-from_Has, AllByRecursion-from_Has, AllByRecursion-append}
use Rattle.slot_facts.proofs.Lists.Sums.{sum_by-le-where}
use Rattle.slot_facts.proofs.Offline.LaterJobs.{FitsInCycle-from_first, cycle_jobs-are_later}
use Rattle.slot_facts.proofs.Bounds.SafeStart.{offline_jobs-fit}
use Rattle.interval_build.proofs.Capacities.{no_work, slack_splits}
use Rattle.interval_build.proofs.Filled.{last_point-above}
use Rattle.interval_build.proofs.Least.{IsLeast, IsLeast-unique, IsLeast-least}

-- the jobs of a later cycle start at the end of the first or after it, and are due later
later_windows : (set : TaskSet) (n : ℕ) (job : Job) → is_sound set ≡ true → IsFeasible set (cycle_of set) → Has (cycle_jobs set (cycle_of set) (suc n)) job → (cycle_of set ≤ job.est) × (cycle_of set < job.dl)
later_windows set n job sound feasible at =
    let cycle = cycle_of set in
    let first = cycle_jobs set cycle 0 in
    let found = Has-map_cases (later_job set cycle (suc n)) first job (subst (λ js. Has js job) (cycle_jobs-are_later set (suc n) sound feasible) at) in
    let own = found.0 in
    let fits = FitsInCycle-from_first set own sound feasible (Contains-from_Has first own found.1) in
    let est : own.est + suc n * cycle ≡ job.est = ap (λ (j : Job). j.est) found.2 in
    let dl : own.dl + suc n * cycle ≡ job.dl = ap (λ (j : Job). j.dl) found.2 in
    (omega arith, omega (arith, fits.some, fits.room))

-- so no work of a later cycle is due in the first
later_work : (set : TaskSet) (n s x : ℕ) → is_sound set ≡ true → IsFeasible set (cycle_of set) → x ≤ cycle_of set → work_between (cycle_jobs set (cycle_of set) (suc n)) s x ≡ 0
later_work set n s x sound feasible low =
    let jobs = cycle_jobs set (cycle_of set) (suc n) in
    no_work jobs s x (suc (cycle_of set)) (omega arith) (AllByRecursion-from_Has _ jobs (λ j h. inr (omega (arith, later_windows set n j sound feasible h))))

first_work : (set : TaskSet) (s x : ℕ) → is_sound set ≡ true → IsFeasible set (cycle_of set) → x ≤ cycle_of set → work_between (offline_jobs set (cycle_of set) 3) s x ≡ work_between (cycle_jobs set (cycle_of set) 0) s x
first_work set s x sound feasible low =
    let cycle = cycle_of set in
    let due = λ (j : Job). cond (nat_lt s j.dl && nat_le j.dl x) j.left 0 in
    omega (arith, sum_by-append due (offline_jobs set cycle 2) (cycle_jobs set cycle 2), sum_by-append due (offline_jobs set cycle 1) (cycle_jobs set cycle 1), later_work set 0 s x sound feasible low, later_work set 1 s x sound feasible low)

-- each job is due in the first cycle, or starts after it
apart : (set : TaskSet) → is_sound set ≡ true → IsFeasible set (cycle_of set) → AllByRecursion (λ (j : Job). (j.dl ≤ cycle_of set) ⊎ (cycle_of set ≤ j.est)) (offline_jobs set (cycle_of set) 3)
apart set sound feasible =
    let cycle = cycle_of set in
    let P : Job → Type 0 = λ (j : Job). (j.dl ≤ cycle) ⊎ (cycle ≤ j.est) in
    let first = cycle_jobs set cycle 0 in
    let second = cycle_jobs set cycle 1 in
    let third = cycle_jobs set cycle 2 in
    let early = AllByRecursion-from_Has P first (λ j h. inl (FitsInCycle-from_first set j sound feasible (Contains-from_Has first j h)).within) in
    let next = AllByRecursion-from_Has P second (λ j h. inr (later_windows set 0 j sound feasible h).0) in
    let last = AllByRecursion-from_Has P third (λ j h. inr (later_windows set 1 j sound feasible h).0) in
    AllByRecursion-append P (first ++ second) third (AllByRecursion-append P first second early next) last

starts_later : (left est dl cycle x : ℕ) → (dl ≤ cycle) ⊎ (cycle ≤ est) → cond (ltb cycle dl && leb dl x) left 0 ≤ cond (leb cycle est && leb dl x) left 0
starts_later left est dl cycle x h = grind (arith, nat_tests)

-- so past the first cycle the slack is not below 0
slack_beyond : (set : TaskSet) (x : ℕ) → is_sound set ≡ true → IsFeasible set (cycle_of set) → cycle_of set ≤ x → pos 0 ≤ℤ slack (offline_jobs set (cycle_of set) 3) (cycle_of set) x
slack_beyond set x sound feasible low =
    let cycle = cycle_of set in
    let all = offline_jobs set cycle 3 in
    let due : work_between all cycle x ≤ work_from all cycle x = sum_by-le-where (λ (j : Job). cond (nat_lt cycle j.dl && nat_le j.dl x) j.left 0) (λ (j : Job). cond (nat_le cycle j.est && nat_le j.dl x) j.left 0) (λ (j : Job). (j.dl ≤ cycle) ⊎ (cycle ≤ j.est)) all (apart set sound feasible) (λ j h. starts_later j.left j.est j.dl cycle x h) in
    omega (arith, ints, due, offline_jobs-fit set 3 [] cycle x sound feasible low)

-- the least slack up to the end of the cycle is the least up to the end of the third
IsLeast-three : (set : TaskSet) (s e : ℕ) (z : ℤ) → is_sound set ≡ true → IsFeasible set (cycle_of set) → s ≤ e → e ≤ cycle_of set → IsLeast (slack (cycle_jobs set (cycle_of set) 0) s) e (cycle_of set) z → IsLeast (slack (offline_jobs set (cycle_of set) 3) s) e (3 * cycle_of set) z
IsLeast-three set s e z sound feasible rising within least = record { bound = bound; reached = reached }
  where
    same : (x : ℕ) → x ≤ cycle_of set → slack (cycle_jobs set (cycle_of set) 0) s x ≡ slack (offline_jobs set (cycle_of set) 3) s x
    same x low = ap (λ w. pos (x - s) -ℤ pos w) (sym (first_work set s x sound feasible low))

    bound : (x : ℕ) → e ≤ x → x ≤ 3 * cycle_of set → z ≤ℤ slack (offline_jobs set (cycle_of set) 3) s x
    bound x from to =
        ⊎_elim
        (λ past.
        let all = offline_jobs set (cycle_of set) 3 in
        let split : slack all s x ≡ slack all s (cycle_of set) +ℤ slack all (cycle_of set) x = slack_splits all s (cycle_of set) x (omega arith) (omega arith) in
        let rest : pos 0 ≤ℤ slack all (cycle_of set) x = slack_beyond set x sound feasible (omega arith) in
        let here : z ≤ℤ slack all s (cycle_of set) = subst (λ v. z ≤ℤ v) (same (cycle_of set) (omega arith)) (least.bound (cycle_of set) within (omega arith)) in
        omega (arith, ints))
        (λ low. subst (λ v. z ≤ℤ v) (same x low) (least.bound x from low))
        (cases_lt (cycle_of set) x)

    reached : (x : ℕ) × (e ≤ x) × (x ≤ 3 * cycle_of set) × (z ≡ slack (offline_jobs set (cycle_of set) 3) s x)
    reached =
        let x = least.reached.0 in
        (x, least.reached.1, omega (arith, least.reached.2), least.reached.3 ∙ same x least.reached.2)

capacity_of_one_cycle : (set : TaskSet) (s e : ℕ) → is_sound set ≡ true → IsFeasible set (cycle_of set) → s ≤ e → e ≤ cycle_of set → spare_capacity (cycle_jobs set (cycle_of set) 0) (cycle_of set) s e ≡ spare_capacity (offline_jobs set (cycle_of set) 3) (3 * cycle_of set) s e
capacity_of_one_cycle set s e sound feasible rising within =
    let first = cycle_jobs set (cycle_of set) 0 in
    let all = offline_jobs set (cycle_of set) 3 in
    IsLeast-unique (slack all s) e (3 * cycle_of set) _ _
    (IsLeast-three set s e _ sound feasible rising within (IsLeast-least (slack first s) e (cycle_of set) within))
    (IsLeast-least (slack all s) e (3 * cycle_of set) (omega arith))

-- and so are the spans of the first cycle
pub spans_of_one_cycle : (set : TaskSet) (s : ℕ) (points : List ℕ) → is_sound set ≡ true → IsFeasible set (cycle_of set) → AreRising s points → last_point s points ≤ cycle_of set → spans_between (cycle_jobs set (cycle_of set) 0) (cycle_of set) s points ≡ spans_between (offline_jobs set (cycle_of set) 3) (3 * cycle_of set) s points
spans_of_one_cycle set s [] sound feasible rising last = refl
spans_of_one_cycle set s (e ∷ points) sound feasible rising last =
    let within : e ≤ cycle_of set = omega (arith, last_point-above e points rising.1) in
    let low : s ≤ e = omega (arith, rising.0) in
    let work = sym (first_work set s e sound feasible within) in
    let spare = capacity_of_one_cycle set s e sound feasible low within in
    let rest = spans_of_one_cycle set e points sound feasible rising.1 last in
    λ i. record { start = s; end = e; work = work i; spare = spare i } ∷ rest i
