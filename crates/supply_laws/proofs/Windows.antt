-- Sums over the offline jobs of windows: of windows a number of cycles later, and of those that end in the first cycles.
use Rattle.std.proofs.Common.{◌≡◌, ℕ, zero, suc, ◌+◌, ◌-◌, ◌*◌, ◌<◌, ◌≤◌, true, cond, ◌&&◌, List, ap, ◌∙◌, subst, inl, inr, arith}
use Rattle.std.specs.Prelude.{sum_by, nat_le, nat_lt}
use Rattle.std.specs.List.{AllByRecursion}
use Rattle.std.proofs.Math.Nat.{mul-le-mul_right}
use Rattle.std.proofs.lemmas.Bool.{cases_lt}
use Rattle.std.proofs.lemmas.Bool.Decides.{nat_tests}
use Rattle.std.proofs.lemmas.List.Sums.{sum_by-append}
use Rattle.slot_core.specs.declared.jobs.Job.{Job}
use Rattle.slot_core.specs.declared.tasks.TaskSet.{TaskSet}
use Rattle.slot_core.specs.Sets.Cycles.{cycle_of}
use Rattle.slot_core.specs.Sets.Ranges.{is_sound}
use Rattle.slot_core.specs.Offline.OfflineJobs.{cycle_jobs, offline_jobs, later_job}
use Rattle.slot_core.specs.Feasibility.Feasible.{IsFeasible}
use Rattle.slot_core.specs.Runs.Demand.{work_from, work_between}
use Rattle.slot_facts.proofs.Lists.Members.{AllByRecursion-from_Has, Contains-from_Has}
use Rattle.slot_facts.proofs.Lists.Sums.{sum_by-map, sum_by-constant, sum_by-le-where}
use Rattle.slot_facts.proofs.Offline.LaterJobs.{cycle_jobs-are_later, FitsInCycle, FitsInCycle-from_first}

-- the jobs of the first cycle fit it
pub first_fit : (set : TaskSet) → is_sound set ≡ true → IsFeasible set (cycle_of set) → AllByRecursion (FitsInCycle (cycle_of set)) (cycle_jobs set (cycle_of set) 0)
first_fit set sound feasible =
    let jobs = cycle_jobs set (cycle_of set) 0 in
    AllByRecursion-from_Has (FitsInCycle (cycle_of set)) jobs (λ job at. FitsInCycle-from_first set job sound feasible (Contains-from_Has jobs job at))

-- a sum over the jobs of cycle n is one over those of the first
pub sum_by-cycle : (set : TaskSet) (n : ℕ) (f : Job → ℕ) → is_sound set ≡ true → IsFeasible set (cycle_of set) → sum_by f (cycle_jobs set (cycle_of set) n) ≡ sum_by (λ j. f (later_job set (cycle_of set) n j)) (cycle_jobs set (cycle_of set) 0)
sum_by-cycle set n f sound feasible =
    let cycle = cycle_of set in
    ap (λ (js : List Job). sum_by f js) (cycle_jobs-are_later set n sound feasible)
    ∙ sum_by-map f (later_job set cycle n) (cycle_jobs set cycle 0)

module _ (set : TaskSet) (sound : is_sound set ≡ true) (feasible : IsFeasible set (cycle_of set)) where
  abbrev cycle : ℕ
  cycle = cycle_of set

  abbrev first : List Job
  first = cycle_jobs set cycle 0

  -- a job of the first cycle, n cycles later
  abbrev later : ℕ → Job → Job
  later n job = later_job set cycle n job

  -- jobs of a cycle of which none counts
  cycle-none : (n : ℕ) (f : Job → ℕ) → ((job : Job) → FitsInCycle cycle job → f (later n job) ≤ 0) → sum_by f (cycle_jobs set cycle n) ≤ 0
  cycle-none n f none =
      omega (
        arith,
        sum_by-cycle set n f sound feasible,
        sum_by-le-where (λ j. f (later n j)) (λ (j : Job). 0) (FitsInCycle cycle) first (first_fit set sound feasible) none,
        sum_by-constant 0 first,
      )

  -- jobs of two cycles of which the ones count no more than the others
  cycle-le : (n m : ℕ) (f g : Job → ℕ) → ((job : Job) → FitsInCycle cycle job → f (later n job) ≤ g (later m job)) → sum_by f (cycle_jobs set cycle n) ≤ sum_by g (cycle_jobs set cycle m)
  cycle-le n m f g fewer =
      omega (
        arith,
        sum_by-cycle set n f sound feasible,
        sum_by-cycle set m g sound feasible,
        sum_by-le-where (λ j. f (later n j)) (λ j. g (later m j)) (FitsInCycle cycle) first (first_fit set sound feasible) fewer,
      )

  -- where no job of the first p cycles counts, and each later one no more than the job p cycles earlier
  pub sum_by-moved : (p n m : ℕ) (f g : Job → ℕ) → m ≡ n - p → ((k : ℕ) (job : Job) → k < p → FitsInCycle cycle job → f (later k job) ≤ 0) → ((k i : ℕ) (job : Job) → k ≡ p + i → FitsInCycle cycle job → f (later k job) ≤ g (later i job)) → sum_by f (offline_jobs set cycle n) ≤ sum_by g (offline_jobs set cycle m)
  sum_by-moved p zero m f g same none fewer = omega arith
  sum_by-moved p (suc n) zero f g same none fewer =
      omega (
        arith,
        sum_by-append f (offline_jobs set cycle n) (cycle_jobs set cycle n),
        sum_by-moved p n zero f g (omega arith) none fewer,
        cycle-none n f (λ job fits. none n job (omega arith) fits),
      )
  sum_by-moved p (suc n) (suc m) f g same none fewer =
      omega (
        arith,
        sum_by-append f (offline_jobs set cycle n) (cycle_jobs set cycle n),
        sum_by-append g (offline_jobs set cycle m) (cycle_jobs set cycle m),
        sum_by-moved p n m f g (omega arith) none fewer,
        cycle-le n m f g (λ job fits. fewer n m job (omega arith) fits),
      )

  -- more cycles count no less
  sum_by-more : (n m : ℕ) (f : Job → ℕ) → n ≤ m → sum_by f (offline_jobs set cycle n) ≤ sum_by f (offline_jobs set cycle m)
  sum_by-more n zero f few =
      let here : 0 ≡ n = omega (arith, few) in
      subst (λ k. sum_by f (offline_jobs set cycle k) ≤ sum_by f (offline_jobs set cycle 0)) here (omega arith)
  sum_by-more n (suc m) f few =
      let before = sum_by-more n m f in
      elim (cases_lt m n) [
        | inl last ↦ let here : suc m ≡ n = omega (arith, few, last) in
            subst (λ k. sum_by f (offline_jobs set cycle k) ≤ sum_by f (offline_jobs set cycle (suc m))) here (omega arith)
        | inr fewer ↦ omega (arith, before fewer, sum_by-append f (offline_jobs set cycle m) (cycle_jobs set cycle m))
      ]

  -- where no job of cycle m or a later one counts, no number of cycles counts more than the first m
  pub sum_by-few : (n m : ℕ) (f : Job → ℕ) → ((k : ℕ) (job : Job) → m ≤ k → FitsInCycle cycle job → f (later k job) ≤ 0) → sum_by f (offline_jobs set cycle n) ≤ sum_by f (offline_jobs set cycle m)
  sum_by-few zero m f none = sum_by-more 0 m f (omega arith)
  sum_by-few (suc n) m f none =
      let rest = sum_by-few n m f none in
      elim (cases_lt n m) [
        | inl within ↦ sum_by-more (suc n) m f within
        | inr past ↦ omega (arith, rest, sum_by-append f (offline_jobs set cycle n) (cycle_jobs set cycle n), cycle-none n f (λ job fits. none n job past fits))
      ]

  -- the work in windows
  from-early : (shift a x est dl declared left : ℕ) → est + declared ≤ dl → 1 ≤ declared → dl ≤ cycle → shift + cycle ≤ a → cond (nat_le a (est + shift) && nat_le (dl + shift) x) left 0 ≤ 0
  from-early shift a x est dl declared left room some within early = grind (arith, nat_tests)

  from-late : (shift a x est dl declared left : ℕ) → est + declared ≤ dl → 1 ≤ declared → x ≤ shift → cond (nat_le a (est + shift) && nat_le (dl + shift) x) left 0 ≤ 0
  from-late shift a x est dl declared left room some late = grind (arith, nat_tests)

  from-moved : (p u v n m est dl left : ℕ) → n ≡ p + m → cond (nat_le (p + u) (est + n) && nat_le (dl + n) (p + v)) left 0 ≤ cond (nat_le u (est + m) && nat_le (dl + m) v) left 0
  from-moved p u v n m est dl left same = grind (arith, nat_tests)

  times-cycle : (k p i : ℕ) → k ≡ p + i → k * cycle ≡ p * cycle + i * cycle
  times-cycle k p i same = ap (λ n. n * cycle) same ∙ omega arith

  -- a window p cycles later has no more work
  pub work_from-moved : (p n m u v : ℕ) → m ≡ n - p → work_from (offline_jobs set cycle n) (p * cycle + u) (p * cycle + v) ≤ work_from (offline_jobs set cycle m) u v
  work_from-moved p n m u v same =
      sum_by-moved
      p
      n
      m
      (λ (j : Job). cond (nat_le (p * cycle + u) j.est && nat_le j.dl (p * cycle + v)) j.left 0)
      (λ (j : Job). cond (nat_le u j.est && nat_le j.dl v) j.left 0)
      same
      (λ k job low fits. from-early (k * cycle) (p * cycle + u) (p * cycle + v) job.est job.dl job.declared job.left fits.room fits.some fits.within (omega (arith, mul-le-mul_right cycle low)))
      (λ k i job here fits. from-moved (p * cycle) u v (k * cycle) (i * cycle) job.est job.dl job.left (times-cycle k p i here))

  -- a window that ends in the first m cycles has no more work than those have
  pub work_from-few : (n m a x : ℕ) → x ≤ m * cycle → work_from (offline_jobs set cycle n) a x ≤ work_from (offline_jobs set cycle m) a x
  work_from-few n m a x early =
      sum_by-few
      n
      m
      (λ (j : Job). cond (nat_le a j.est && nat_le j.dl x) j.left 0)
      (λ k job past fits. from-late (k * cycle) a x job.est job.dl job.declared job.left fits.room fits.some (omega (arith, mul-le-mul_right cycle past)))

  -- the work that is due between two times
  between-early : (shift y x est dl declared left : ℕ) → dl ≤ cycle → shift + cycle ≤ y → cond (nat_lt y (dl + shift) && nat_le (dl + shift) x) left 0 ≤ 0
  between-early shift y x est dl declared left within early = grind (arith, nat_tests)

  between-late : (shift y x est dl declared left : ℕ) → est + declared ≤ dl → 1 ≤ declared → x ≤ shift → cond (nat_lt y (dl + shift) && nat_le (dl + shift) x) left 0 ≤ 0
  between-late shift y x est dl declared left room some late = grind (arith, nat_tests)

  between-moved : (p u v n m dl left : ℕ) → n ≡ p + m → cond (nat_lt (p + u) (dl + n) && nat_le (dl + n) (p + v)) left 0 ≤ cond (nat_lt u (dl + m) && nat_le (dl + m) v) left 0
  between-moved p u v n m dl left same = grind (arith, nat_tests)

  pub work_between-moved : (p n m u v : ℕ) → m ≡ n - p → work_between (offline_jobs set cycle n) (p * cycle + u) (p * cycle + v) ≤ work_between (offline_jobs set cycle m) u v
  work_between-moved p n m u v same =
      sum_by-moved
      p
      n
      m
      (λ (j : Job). cond (nat_lt (p * cycle + u) j.dl && nat_le j.dl (p * cycle + v)) j.left 0)
      (λ (j : Job). cond (nat_lt u j.dl && nat_le j.dl v) j.left 0)
      same
      (λ k job low fits. between-early (k * cycle) (p * cycle + u) (p * cycle + v) job.est job.dl job.declared job.left fits.within (omega (arith, mul-le-mul_right cycle low)))
      (λ k i job here fits. between-moved (p * cycle) u v (k * cycle) (i * cycle) job.dl job.left (times-cycle k p i here))

  pub work_between-few : (n m y x : ℕ) → x ≤ m * cycle → work_between (offline_jobs set cycle n) y x ≤ work_between (offline_jobs set cycle m) y x
  work_between-few n m y x early =
      sum_by-few
      n
      m
      (λ (j : Job). cond (nat_lt y j.dl && nat_le j.dl x) j.left 0)
      (λ k job past fits. between-late (k * cycle) y x job.est job.dl job.declared job.left fits.room fits.some (omega (arith, mul-le-mul_right cycle past)))

  -- what is due in the first cycle is due a cycle later in the second
  between-next : (y x dl left : ℕ) → cond (nat_lt y (dl + 0 * cycle) && nat_le (dl + 0 * cycle) x) left 0 ≤ cond (nat_lt (y + cycle) (dl + 1 * cycle) && nat_le (dl + 1 * cycle) (x + cycle)) left 0
  between-next y x dl left = grind (arith, nat_tests)

  pub work_between-next : (y x : ℕ) → work_between (offline_jobs set cycle 1) y x ≤ work_between (offline_jobs set cycle 2) (y + cycle) (x + cycle)
  work_between-next y x =
      let f = λ (j : Job). cond (nat_lt y j.dl && nat_le j.dl x) j.left 0 in
      let g = λ (j : Job). cond (nat_lt (y + cycle) j.dl && nat_le j.dl (x + cycle)) j.left 0 in
      omega (
        arith,
        sum_by-append f (offline_jobs set cycle 0) (cycle_jobs set cycle 0),
        sum_by-append g (offline_jobs set cycle 1) (cycle_jobs set cycle 1),
        cycle-le 0 1 f g (λ job fits. between-next y x job.dl job.left),
      )
