-- Before the first slot no deadline of any number of cycles is at risk, whatever arrivals follow.
use Rattle.std.proofs.Common.{◌≡◌, ℕ, zero, suc, ◌+◌, ◌-◌, ◌*◌, ◌/◌, ◌%◌, ◌<◌, ◌≤◌, max, Bool, true, false, cond, ◌&&◌, List, [], ◌∷◌, refl, subst, inl, inr, arith}
use Rattle.std.specs.Prelude.{sum_by, nat_le, nat_lt}
use Rattle.std.proofs.Math.Nat.{mul-le-mul_left, mul-le-mul_right}
use Rattle.std.proofs.lemmas.Bool.{cases_lt}
use Rattle.std.proofs.lemmas.Bool.Decides.{nat_tests}
use Rattle.slot_core.specs.declared.jobs.Job.{Job}
use Rattle.slot_core.specs.declared.tasks.Sporadic.{Sporadic}
use Rattle.slot_core.specs.declared.tasks.TaskSet.{TaskSet}
use Rattle.slot_core.specs.Sets.Cycles.{cycle_of}
use Rattle.slot_core.specs.Sets.Ranges.{is_sound}
use Rattle.slot_core.specs.Feasibility.Sporadics.{arrivals_due, sporadic_demand}
use Rattle.slot_core.specs.Offline.OfflineJobs.{cycle_jobs, offline_jobs}
use Rattle.slot_core.specs.Runs.Demand.{work_from, work_between}
use Rattle.slot_core.specs.Claims.Safety.{IsSafe}
use Rattle.slot_core.specs.Feasibility.Feasible.{IsFeasible}
use Rattle.slot_facts.proofs.Lists.Sums.{sum_by-constant, sum_by-plus, sum_by-le-two}
use Rattle.slot_facts.proofs.Offline.Jobs.{cycle-positive}
use Rattle.slot_facts.proofs.Demand.OneSlot.{arrivals_due-later}
use Rattle.slot_facts.proofs.Patterns.Counts.{arrivals_due-from}
use Rattle.slot_facts.proofs.Patterns.Work.{work_by-le_work_from_0}
use Rattle.slot_facts.proofs.Bounds.CycleSums.{sum_until, sum_until-two, offline_jobs-le, due_in_one_cycle}
use Rattle.slot_facts.proofs.Bounds.CycleDemand.{FitCycle-from_sound, cycle_slots, sporadic_demand-more, sporadic_demand-shifted, sporadic_demand-now, cycle-fits}

-- the slots of a job in cycle k, where its window, not empty and within a cycle, lies in [a, x)
abbrev inside_at : ℕ → ℕ → ℕ → Job → ℕ → ℕ
inside_at cycle a x job k =
    cond (nat_le a (job.est + k * cycle) && nat_le (job.dl + k * cycle) x && (nat_lt job.est job.dl && nat_le job.dl cycle)) job.declared 0

-- a job that counts in a window counts so
inside_as_shifted : (cycle a x shift est dl declared other_est other_dl left : ℕ) → other_est ≡ est + shift → other_dl ≡ dl + shift → left ≡ declared → est + declared ≤ dl → 1 ≤ declared → dl ≤ cycle → cond (nat_le a other_est && nat_le other_dl x) left 0 ≤ cond (nat_le a (est + shift) && nat_le (dl + shift) x && (nat_lt est dl && nat_le dl cycle)) declared 0
inside_as_shifted cycle a x shift est dl declared other_est other_dl left e f g h k l = grind (arith, nat_tests)

-- the slots of a job of the first cycle in the window [u, v), and shifted by a cycle where that goes past the first
abbrev inside_two : ℕ → ℕ → ℕ → Job → ℕ
inside_two cycle u v job =
    cond (nat_le u (job.est + 0) && nat_le (job.dl + 0) v) job.declared 0
    + cond (nat_lt cycle v) (cond (nat_le u (job.est + cycle) && nat_le (job.dl + cycle) v) job.declared 0) 0

inside-early : (cycle a x shift est dl w : ℕ) → shift + cycle ≤ a → cond (nat_le a (est + shift) && nat_le (dl + shift) x && (nat_lt est dl && nat_le dl cycle)) w 0 ≡ 0
inside-early cycle a x shift est dl w early = grind (arith, nat_tests)

inside-late : (cycle a x shift est dl w : ℕ) → x ≤ shift → cond (nat_le a (est + shift) && nat_le (dl + shift) x && (nat_lt est dl && nat_le dl cycle)) w 0 ≡ 0
inside-late cycle a x shift est dl w late = grind (arith, nat_tests)

inside-here : (cycle a x u v shift est dl w : ℕ) → a ≡ shift + u → x ≡ shift + v → cond (nat_le a (est + shift) && nat_le (dl + shift) x && (nat_lt est dl && nat_le dl cycle)) w 0 ≤ cond (nat_le u (est + 0) && nat_le (dl + 0) v) w 0
inside-here cycle a x u v shift est dl w at_a at_x = grind (arith, nat_tests)

inside-next : (cycle a x u v shift est dl w : ℕ) → a + cycle ≡ shift + u → x + cycle ≡ shift + v → cond (nat_le a (est + shift) && nat_le (dl + shift) x && (nat_lt est dl && nat_le dl cycle)) w 0 ≤ cond (nat_lt cycle v) (cond (nat_le u (est + cycle) && nat_le (dl + cycle) v) w 0) 0
inside-next cycle a x u v shift est dl w at_a at_x = grind (arith, nat_tests)

-- in a window from cycle p on and of at most two cycles the job counts in cycle p and in the next one alone
inside-two : (cycle p u v n : ℕ) (job : Job) → v ≤ 2 * cycle → sum_until (inside_at cycle (p * cycle + u) (p * cycle + v) job) n ≤ inside_two cycle u v job
inside-two cycle p u v n job short =
    let a = p * cycle + u in
    let x = p * cycle + v in
    omega (
      arith,
      sum_until-two
          (inside_at cycle a x job)
          p
          n
          (λ k low. inside-early cycle a x (k * cycle) job.est job.dl job.declared (omega (arith, mul-le-mul_right cycle low)))
          (λ k high. inside-late cycle a x (k * cycle) job.est job.dl job.declared (omega (arith, mul-le-mul_right cycle high))),
      inside-here cycle a x u v (p * cycle) job.est job.dl job.declared (omega arith) (omega arith),
      inside-next cycle a x u v ((p + 1) * cycle) job.est job.dl job.declared (omega arith) (omega arith),
    )

sum_by-cond_all : {X : Type 0} (b : Bool) (f : X → ℕ) (xs : List X) → sum_by (λ x. cond b (f x) 0) xs ≡ cond b (sum_by f xs) 0
sum_by-cond_all true f xs = refl
sum_by-cond_all false f xs = omega (arith, sum_by-constant 0 xs)

-- a window of at most two cycles has room for the offline jobs in it and the densest arrivals
short_window : (set : TaskSet) (n p u v : ℕ) → is_sound set ≡ true → IsFeasible set (cycle_of set) → u < cycle_of set → u < v → v ≤ 2 * cycle_of set → work_from (offline_jobs set (cycle_of set) n) (p * cycle_of set + u) (p * cycle_of set + v) + sporadic_demand set.sporadics [] (p * cycle_of set + u) (p * cycle_of set + v) ≤ v - u
short_window set n p u v sound feasible start some short =
    let cycle = cycle_of set in
    let a = p * cycle + u in
    let x = p * cycle + v in
    let jobs = cycle_jobs set cycle 0 in
    let first = λ (j : Job). cond (nat_le u (j.est + 0) && nat_le (j.dl + 0) v) j.declared 0 in
    let next = λ (j : Job). cond (nat_le u (j.est + cycle) && nat_le (j.dl + cycle) v) j.declared 0 in
    let work = offline_jobs-le
    set
    n
    (λ (j : Job). cond (nat_le a j.est && nat_le j.dl x) j.left 0)
    (λ k (j : Job). inside_at cycle a x j k)
    (inside_two cycle u v)
    sound
    feasible
    (λ k job other m. inside_as_shifted cycle a x (k * cycle) job.est job.dl job.declared other.est other.dl other.left m.est m.dl m.left m.room m.some m.within)
    (λ job. inside-two cycle p u v n job short) in
    let parts = sum_by-plus first (λ (j : Job). cond (nat_lt cycle v) (next j) 0) (inside_two cycle u v) jobs (λ job. refl) in
    let at_a : u + p * cycle ≡ a = omega arith in
    let at_x : v + p * cycle ≡ x = omega arith in
    let arrivals : sporadic_demand set.sporadics [] a x ≡ sporadic_demand set.sporadics [] u v = subst (λ b. sporadic_demand set.sporadics [] b x ≡ sporadic_demand set.sporadics [] u v) at_a (subst (λ y. sporadic_demand set.sporadics [] (u + p * cycle) y ≡ sporadic_demand set.sporadics [] u v) at_x (sporadic_demand-shifted cycle set.sporadics u v (p * cycle) (FitCycle-from_sound set sound) (omega arith))) in
    omega (arith, work, parts, sum_by-cond_all (nat_lt cycle v) next jobs, arrivals, feasible u v start some short)

-- in an empty window nothing counts
empty_as_shifted : (a shift est dl declared other_est other_dl left : ℕ) → other_est ≡ est + shift → other_dl ≡ dl + shift → est + declared ≤ dl → 1 ≤ declared → cond (nat_le a other_est && nat_le other_dl a) left 0 ≤ 0
empty_as_shifted a shift est dl declared other_est other_dl left e f g h = grind (arith, nat_tests)

sum_until-zero : (n : ℕ) → sum_until (λ k. 0) n ≤ 0
sum_until-zero zero = omega arith
sum_until-zero (suc n) = omega (arith, sum_until-zero n)

empty_window : (set : TaskSet) (n a : ℕ) → is_sound set ≡ true → IsFeasible set (cycle_of set) → work_from (offline_jobs set (cycle_of set) n) a a + sporadic_demand set.sporadics [] a a ≤ 0
empty_window set n a sound feasible =
    omega (
      arith,
      offline_jobs-le
          set
          n
          (λ (j : Job). cond (nat_le a j.est && nat_le j.dl a) j.left 0)
          (λ k (j : Job). 0)
          (λ (j : Job). 0)
          sound
          feasible
          (λ k job other m. empty_as_shifted a (k * cycle_of set) job.est job.dl job.declared other.est other.dl other.left m.est m.dl m.room m.some)
          (λ job. sum_until-zero n),
      sum_by-constant 0 (cycle_jobs set (cycle_of set) 0),
      sporadic_demand-now (cycle_of set) set.sporadics a (FitCycle-from_sound set sound),
    )

-- a cycle later no more is due than in one cycle
from_and_between : (a x cycle est dl left : ℕ) → cond (nat_le a est && nat_le dl (x + cycle)) left 0 ≤ cond (nat_le a est && nat_le dl x) left 0 + cond (nat_lt x dl && nat_le dl (x + cycle)) left 0
from_and_between a x cycle est dl left = grind (arith, nat_tests)

pub work_from-later : (jobs : List Job) (a x cycle : ℕ) → work_from jobs a (x + cycle) ≤ work_from jobs a x + work_between jobs x (x + cycle)
work_from-later jobs a x cycle =
    sum_by-le-two
    (λ (j : Job). cond (nat_le a j.est && nat_le j.dl (x + cycle)) j.left 0)
    (λ (j : Job). cond (nat_le a j.est && nat_le j.dl x) j.left 0)
    (λ (j : Job). cond (nat_lt x j.dl && nat_le j.dl (x + cycle)) j.left 0)
    jobs
    (λ j. from_and_between a x cycle j.est j.dl j.left)

-- every window has room: those of at most two cycles, and each a cycle longer
any_window : (set : TaskSet) (n a p u m x : ℕ) → is_sound set ≡ true → IsFeasible set (cycle_of set) → p * cycle_of set + u ≡ a → u < cycle_of set → a ≤ x → x ≤ (p + 2) * cycle_of set + m * cycle_of set → work_from (offline_jobs set (cycle_of set) n) a x + sporadic_demand set.sporadics [] a x ≤ x - a
any_window set n a p u zero x sound feasible at start low high =
    let cycle = cycle_of set in
    let v = x - p * cycle in
    let end : p * cycle + v ≡ x = omega arith in
    elim (cases_lt a x) [
      | inl some ↦ let here = short_window set n p u v sound feasible start (omega arith) (omega arith) in
          let goal : work_from (offline_jobs set cycle n) a x + sporadic_demand set.sporadics [] a x ≤ v - u = rw (at, end) at here in
          omega (arith, goal)
      | inr none ↦ let same : a ≡ x = omega arith in
          subst (λ y. work_from (offline_jobs set cycle n) a y + sporadic_demand set.sporadics [] a y ≤ y - a) same (omega (arith, empty_window set n a sound feasible))
    ]
any_window set n a p u (suc m) x sound feasible at start low high =
    let cycle = cycle_of set in
    let jobs = offline_jobs set cycle n in
    let before = any_window set n a p u m in
    elim (cases_lt ((p + 2) * cycle + m * cycle) x) [
      | inl past ↦ let y = x - cycle in
          let end : y + cycle ≡ x = omega arith in
          let rest : work_from jobs a y + sporadic_demand set.sporadics [] a y ≤ y - a = before y sound feasible at start (omega arith) (omega arith) in
          let work : work_from jobs a x ≤ work_from jobs a y + work_between jobs y (y + cycle) = subst (λ e. work_from jobs a e ≤ work_from jobs a y + work_between jobs y (y + cycle)) end (work_from-later jobs a y cycle) in
          let demand : sporadic_demand set.sporadics [] a x ≤ sporadic_demand set.sporadics [] a y + cycle_slots cycle set.sporadics = subst (λ e. sporadic_demand set.sporadics [] a e ≤ sporadic_demand set.sporadics [] a y + cycle_slots cycle set.sporadics) end (sporadic_demand-more cycle set.sporadics [] a y (FitCycle-from_sound set sound)) in
          omega (arith, rest, work, demand, due_in_one_cycle set n y sound feasible, cycle-fits set sound feasible)
      | inr within ↦ before x sound feasible at start low within
    ]

-- arrivals that may come later only are no more
task_demand-fewer : (s : Sporadic) (next r x : ℕ) → s.wcet * arrivals_due s next r x ≤ s.wcet * arrivals_due s 0 r x
task_demand-fewer s next r x =
    let fewer : arrivals_due s next r x ≤ arrivals_due s 0 r x = omega (arith, arrivals_due-from s next r x, arrivals_due-later s 0 r (max r next) x (omega arith)) in
    mul-le-mul_left s.wcet fewer

pub sporadic_demand-fewer : (ss : List Sporadic) (nexts : List ℕ) (r x : ℕ) → sporadic_demand ss nexts r x ≤ sporadic_demand ss [] r x
sporadic_demand-fewer [] nexts r x = omega arith
sporadic_demand-fewer (s ∷ ss) [] r x = omega arith
sporadic_demand-fewer (s ∷ ss) (n ∷ ns) r x =
    omega (arith, task_demand-fewer s n r x, sporadic_demand-fewer ss ns r x)

-- the offline jobs that start at a or later and the densest arrivals from a on fit the slots up to any later time
pub offline_jobs-fit : (set : TaskSet) (n : ℕ) (nexts : List ℕ) (a x : ℕ) → is_sound set ≡ true → IsFeasible set (cycle_of set) → a ≤ x → work_from (offline_jobs set (cycle_of set) n) a x + sporadic_demand set.sporadics nexts a x ≤ x - a
offline_jobs-fit set n nexts a x sound feasible low =
    let cycle = cycle_of set in
    let positive = cycle-positive set sound in
    let p = a / cycle in
    let u = a % cycle in
    let parts : p * cycle + u ≡ a = omega arith in
    let within : u < cycle = omega arith in
    let far : x ≤ (p + 2) * cycle + x * cycle = omega (arith, mul-le-mul_left x positive) in
    omega (arith, any_window set n a p u x x sound feasible parts within low far, sporadic_demand-fewer set.sporadics nexts a x)

-- before the first slot no deadline is at risk
pub offline_jobs-safe : (set : TaskSet) (n : ℕ) (nexts : List ℕ) → is_sound set ≡ true → IsFeasible set (cycle_of set) → IsSafe set.sporadics nexts (offline_jobs set (cycle_of set) n) 0 (n * cycle_of set)
offline_jobs-safe set n nexts sound feasible =
    let jobs = offline_jobs set (cycle_of set) n in
    record {
      due = λ x low high. omega (arith, offline_jobs-fit set n nexts 0 x sound feasible low, work_by-le_work_from_0 jobs x);
      to_come = λ a x after low high. offline_jobs-fit set n nexts a x sound feasible low;
    }
