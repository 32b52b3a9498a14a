-- Sums over the offline jobs of any number of cycles, by those of the first cycle.
use Rattle.std.proofs.Common.{◌≡◌, ℕ, zero, suc, ◌+◌, ◌*◌, ◌<◌, ◌≤◌, true, cond, ◌&&◌, refl, ap, inl, inr, arith}
use Rattle.std.specs.Prelude.{sum_by, nat_le, nat_lt}
use Rattle.std.proofs.lemmas.Bool.{cases_lt, cases_eq}
use Rattle.std.proofs.lemmas.Bool.Decides.{nat_tests}
use Rattle.std.proofs.lemmas.List.Sums.{sum_by-append, sum_by-le-sum_by}
use Rattle.slot_core.specs.declared.jobs.Job.{Job}
use Rattle.slot_core.specs.declared.tasks.TaskSet.{TaskSet}
use Rattle.slot_core.specs.Sets.Cycles.{cycle_of}
use Rattle.slot_core.specs.Sets.Ranges.{is_sound}
use Rattle.slot_core.specs.Offline.OfflineJobs.{cycle_jobs, offline_jobs}
use Rattle.slot_core.specs.Runs.Demand.{work_between}
use Rattle.slot_core.specs.Feasibility.Feasible.{IsFeasible}
use Rattle.slot_facts.proofs.Lists.Sums.{sum_by-plus, cond-le}
use Rattle.slot_facts.proofs.Offline.LaterCycles.{IsLaterJob, cycle_jobs-later}

-- f 0 + .. + f (n - 1)
abbrev pub sum_until : (ℕ → ℕ) → ℕ → ℕ
sum_until f zero = 0
sum_until f (suc n) = sum_until f n + f n

-- nothing counts before p, or p alone, or p and the next
sum_until-none : (f : ℕ → ℕ) (p n : ℕ) → ((k : ℕ) → k < p → f k ≡ 0) → n ≤ p → sum_until f n ≡ 0
sum_until-none f p zero early low = refl
sum_until-none f p (suc n) early low =
    omega (arith, sum_until-none f p n early (omega arith), early n (omega arith))

sum_until-one : (f : ℕ → ℕ) (p n : ℕ) → ((k : ℕ) → k < p → f k ≡ 0) → n ≤ p + 1 → sum_until f n ≤ f p
sum_until-one f p zero early low = omega arith
sum_until-one f p (suc n) early low =
    elim (cases_lt n p) [
      | inl before ↦ omega (arith, sum_until-none f p (suc n) early (omega arith))
      | inr at ↦ let here : n ≡ p = omega arith in
          omega (arith, sum_until-none f p n early (omega arith), ap f here)
    ]

pub sum_until-two : (f : ℕ → ℕ) (p n : ℕ) → ((k : ℕ) → k < p → f k ≡ 0) → ((k : ℕ) → p + 1 < k → f k ≡ 0) → sum_until f n ≤ f p + f (p + 1)
sum_until-two f p zero early late = omega arith
sum_until-two f p (suc n) early late =
    let rest = sum_until-two f p n early late in
    elim (cases_lt n (p + 1)) [
      | inl before ↦ omega (arith, sum_until-one f p (suc n) early (omega arith))
      | inr past ↦ elim (cases_eq n (p + 1)) [
        | inl here ↦ omega (arith, sum_until-one f p n early (omega arith), ap f here)
        | inr later ↦ omega (arith, rest, late n (omega arith))
      ]
    ]

-- a sum over the offline jobs of n cycles is no more than one over those of the first cycle, where each of these
-- has room for what it counts in all the cycles
pub offline_jobs-le : (set : TaskSet) (n : ℕ) (f : Job → ℕ) (h : ℕ → Job → ℕ) (e : Job → ℕ) → is_sound set ≡ true → IsFeasible set (cycle_of set) → ((k : ℕ) (job other : Job) → IsLaterJob (cycle_of set) (k * cycle_of set) job other → f other ≤ h k job) → ((job : Job) → sum_until (λ k. h k job) n ≤ e job) → sum_by f (offline_jobs set (cycle_of set) n) ≤ sum_by e (cycle_jobs set (cycle_of set) 0)
offline_jobs-le set n f h e sound feasible each room =
    let jobs = cycle_jobs set (cycle_of set) 0 in
    omega (arith, up_to n, sum_by-le-sum_by (λ job. sum_until (λ k. h k job) n) e jobs room)
  where
    up_to : (m : ℕ) → sum_by f (offline_jobs set (cycle_of set) m) ≤ sum_by (λ job. sum_until (λ k. h k job) m) (cycle_jobs set (cycle_of set) 0)
    up_to zero = omega arith
    up_to (suc m) =
        omega (
          arith,
          sum_by-append f (offline_jobs set (cycle_of set) m) (cycle_jobs set (cycle_of set) m),
          up_to m,
          cycle_jobs-later set m f (h m) sound feasible (each m),
          sum_by-plus (λ job. sum_until (λ k. h k job) m) (h m) (λ job. sum_until (λ k. h k job) (suc m)) (cycle_jobs set (cycle_of set) 0) (λ job. refl),
        )

-- the slots of a job in cycle k, where it is due after x and at most a cycle later
abbrev due_at : ℕ → ℕ → ℕ → ℕ → ℕ → ℕ
due_at x cycle dl w k = cond (nat_lt x (dl + k * cycle) && nat_le (dl + k * cycle) (x + cycle)) w 0

due_at-early : (x due end w : ℕ) → due ≤ x → cond (nat_lt x due && nat_le due end) w 0 ≡ 0
due_at-early x due end w early = grind (arith, nat_tests)

due_at-late : (x due end w : ℕ) → end < due → cond (nat_lt x due && nat_le due end) w 0 ≡ 0
due_at-late x due end w late = grind (arith, nat_tests)

-- it is due so in at most one cycle
none_due_before : (x cycle dl w n : ℕ) → dl + n * cycle ≤ x + cycle → sum_until (due_at x cycle dl w) n ≡ 0
none_due_before x cycle dl w zero low = refl
none_due_before x cycle dl w (suc n) low =
    omega (arith, none_due_before x cycle dl w n (omega arith), due_at-early x (dl + n * cycle) (x + cycle) w (omega arith))

due_once : (x cycle dl w n : ℕ) → sum_until (due_at x cycle dl w) n ≤ w
due_once x cycle dl w zero = omega arith
due_once x cycle dl w (suc n) =
    let rest = due_once x cycle dl w n in
    elim (cases_lt (x + cycle) (dl + n * cycle)) [
      | inl late ↦ omega (arith, rest, due_at-late x (dl + n * cycle) (x + cycle) w late)
      | inr within ↦ omega (arith, none_due_before x cycle dl w n within, cond-le (nat_lt x (dl + n * cycle) && nat_le (dl + n * cycle) (x + cycle)) w)
    ]

due_as_shifted : (x cycle shift dl other_dl declared left : ℕ) → other_dl ≡ dl + shift → left ≡ declared → cond (nat_lt x other_dl && nat_le other_dl (x + cycle)) left 0 ≤ cond (nat_lt x (dl + shift) && nat_le (dl + shift) (x + cycle)) declared 0
due_as_shifted x cycle shift dl other_dl declared left at same = grind (arith, nat_tests)

-- in the time of one cycle no more than the slots of one cycle are due
pub due_in_one_cycle : (set : TaskSet) (n x : ℕ) → is_sound set ≡ true → IsFeasible set (cycle_of set) → work_between (offline_jobs set (cycle_of set) n) x (x + cycle_of set) ≤ sum_by (λ (j : Job). j.declared) (cycle_jobs set (cycle_of set) 0)
due_in_one_cycle set n x sound feasible =
    let cycle = cycle_of set in
    offline_jobs-le
    set
    n
    (λ (j : Job). cond (nat_lt x j.dl && nat_le j.dl (x + cycle)) j.left 0)
    (λ k (j : Job). due_at x cycle j.dl j.declared k)
    (λ (j : Job). j.declared)
    sound
    feasible
    (λ k job other m. due_as_shifted x cycle (k * cycle) job.dl other.dl job.declared other.left m.dl m.left)
    (λ job. due_once x cycle job.dl job.declared n)
