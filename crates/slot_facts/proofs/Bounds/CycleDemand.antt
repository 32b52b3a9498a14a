-- What one cycle needs: its offline jobs and the densest arrivals in it fit.
use Rattle.std.proofs.Common.{◌≡◌, ℕ, ◌+◌, ◌-◌, ◌*◌, ◌/◌, ◌≤◌, max, true, cond, ◌&&◌, List, [], ◌∷◌, map, refl, sym, ap, ◌∙◌, inl, inr, arith}
use Rattle.std.specs.Prelude.{sum_by, nat_le}
use Rattle.std.specs.List.{AllByRecursion}
use Rattle.std.proofs.Math.Nat.{mul-le-mul_left, mul-le-mul_right}
use Rattle.std.proofs.lemmas.Bool.{cases_lt}
use Rattle.std.proofs.lemmas.Bool.Decides.{nat_tests}
use Rattle.slot_core.specs.declared.TheConstants.{SLOT_LIMIT}
use Rattle.slot_core.specs.declared.jobs.Job.{Job}
use Rattle.slot_core.specs.declared.tasks.Graph.{Graph}
use Rattle.slot_core.specs.declared.tasks.Sporadic.{Sporadic}
use Rattle.slot_core.specs.declared.tasks.TaskSet.{TaskSet}
use Rattle.slot_core.specs.Sets.Cycles.{cycle_lengths, cycle_of}
use Rattle.slot_core.specs.Sets.Ranges.{sporadic_in_range, is_sound}
use Rattle.slot_core.specs.Feasibility.Sporadics.{arrivals_due, sporadic_demand}
use Rattle.slot_core.specs.Offline.OfflineJobs.{cycle_jobs}
use Rattle.slot_core.specs.Feasibility.Feasible.{IsFeasible}
use Rattle.slot_facts.proofs.Lists.Members.{Has, Has-append_right, Has-map, AllByRecursion-from_Has, passes_from_list_all}
use Rattle.slot_facts.proofs.Sets.Ranges.{bounds, SporadicRanges-from_test, SetRanges-from_sound}
use Rattle.slot_facts.proofs.Offline.CycleMultiples.{div-mul-IsMultiple, IsMultiple-fold}
use Rattle.slot_facts.proofs.Offline.Jobs.{cycle_lengths-positive, cycle-positive}
use Rattle.slot_facts.proofs.Offline.LaterCycles.{cycle_jobs-later}
use Rattle.slot_facts.proofs.Demand.Arrivals.{arrivals_due-none, arrivals_due-shifted_to_zero}
use Rattle.slot_facts.proofs.Patterns.Counts.{arrivals_due-from, is_due, is_counted}

-- the separation divides the cycle, and an arrival is due before the next one
pub record FitsCycle (cycle : ℕ) (s : Sporadic) : Type 0 where
  pub some : 1 ≤ s.wcet
  pub apart : 1 ≤ s.separation
  pub whole : (cycle / s.separation) * s.separation ≡ cycle
  pub later : 1 ≤ s.deadline
  pub within : s.deadline ≤ s.separation

-- so it is for each sporadic task of a sound set
pub FitsCycle-from_Has : (set : TaskSet) (s : Sporadic) → is_sound set ≡ true → Has set.sporadics s → FitsCycle (cycle_of set) s
FitsCycle-from_Has set s sound at =
    let test = passes_from_list_all sporadic_in_range set.sporadics s (SetRanges-from_sound set sound).sporadics at in
    let ranges = SporadicRanges-from_test s test in
    let apart = (bounds 1 SLOT_LIMIT s.separation ranges.separation).0 in
    let listed = Has-append_right (map (λ (g : Graph). g.period) set.graphs) (map (λ (s : Sporadic). s.separation) set.sporadics) s.separation (Has-map (λ (s : Sporadic). s.separation) set.sporadics s at) in
    record {
      some = (bounds 1 SLOT_LIMIT s.wcet ranges.wcet).0;
      apart = apart;
      whole = div-mul-IsMultiple s.separation (cycle_of set) apart (IsMultiple-fold 1 s.separation (cycle_lengths set) (cycle_lengths-positive set sound) listed);
      later = ranges.deadline.0;
      within = ranges.deadline.1;
    }

pub FitCycle-from_sound : (set : TaskSet) → is_sound set ≡ true → AllByRecursion (FitsCycle (cycle_of set)) set.sporadics
FitCycle-from_sound set sound =
    AllByRecursion-from_Has (FitsCycle (cycle_of set)) set.sporadics (λ s at. FitsCycle-from_Has set s sound at)

-- the slots that the arrivals of one cycle need
abbrev pub cycle_slots : ℕ → List Sporadic → ℕ
cycle_slots cycle [] = 0
cycle_slots cycle (s ∷ ss) = s.wcet * (cycle / s.separation) + cycle_slots cycle ss

-- n separations later at most n more arrivals are due
arrivals_due-more : (s : Sporadic) (b x n : ℕ) → 1 ≤ s.separation → arrivals_due s 0 b (x + n * s.separation) ≤ arrivals_due s 0 b x + n
arrivals_due-more s b x n apart =
    let k = arrivals_due s 0 b x in
    elim (cases_lt (k + n) (arrivals_due s 0 b (x + n * s.separation))) [
      | inl more ↦ let due : b + k * s.separation + s.deadline ≤ x = omega (arith, is_due s b (x + n * s.separation) (k + n) apart more) in
          absurd (omega (arith, is_counted s b x k apart due))
      | inr few ↦ few
    ]

-- a cycle later no more are due than one cycle has
task_demand-more : (s : Sporadic) (cycle next r x : ℕ) → FitsCycle cycle s → s.wcet * arrivals_due s next r (x + cycle) ≤ s.wcet * arrivals_due s next r x + s.wcet * (cycle / s.separation)
task_demand-more s cycle next r x fits =
    let n = cycle / s.separation in
    let end : x + n * s.separation ≡ x + cycle = omega (arith, fits.whole) in
    let same = ap (λ y. arrivals_due s 0 (max r next) y) end in
    let more : arrivals_due s next r (x + cycle) ≤ arrivals_due s next r x + n = omega (arith, same, arrivals_due-from s next r (x + cycle), arrivals_due-from s next r x, arrivals_due-more s (max r next) x n fits.apart) in
    omega (arith, mul-le-mul_left s.wcet more)

pub sporadic_demand-more : (cycle : ℕ) (ss : List Sporadic) (nexts : List ℕ) (r x : ℕ) → AllByRecursion (FitsCycle cycle) ss → sporadic_demand ss nexts r (x + cycle) ≤ sporadic_demand ss nexts r x + cycle_slots cycle ss
sporadic_demand-more cycle [] nexts r x fit = omega arith
sporadic_demand-more cycle (s ∷ ss) [] r x fit =
    omega (arith, task_demand-more s cycle 0 r x fit.0, sporadic_demand-more cycle ss [] r x fit.1)
sporadic_demand-more cycle (s ∷ ss) (n ∷ ns) r x fit =
    omega (arith, task_demand-more s cycle n r x fit.0, sporadic_demand-more cycle ss ns r x fit.1)

-- the arrivals of one cycle are due by its end
task_demand-whole : (s : Sporadic) (cycle : ℕ) → FitsCycle cycle s → s.wcet * (cycle / s.separation) ≤ s.wcet * arrivals_due s 0 0 cycle
task_demand-whole s cycle fits =
    let n = cycle / s.separation in
    let k = arrivals_due s 0 0 cycle in
    elim (cases_lt k n) [
      | inl short ↦ absurd (omega (arith, is_counted s 0 cycle k fits.apart (omega (arith, fits.whole, fits.within, mul-le-mul_right s.separation short))))
      | inr all ↦ mul-le-mul_left s.wcet all
    ]

sporadic_demand-whole : (cycle : ℕ) (ss : List Sporadic) → AllByRecursion (FitsCycle cycle) ss → cycle_slots cycle ss ≤ sporadic_demand ss [] 0 cycle
sporadic_demand-whole cycle [] fit = omega arith
sporadic_demand-whole cycle (s ∷ ss) fit =
    omega (arith, task_demand-whole s cycle fit.0, sporadic_demand-whole cycle ss fit.1)

-- the arrivals between two times, and between two times shifted alike
pub sporadic_demand-shifted : (cycle : ℕ) (ss : List Sporadic) (a b c : ℕ) → AllByRecursion (FitsCycle cycle) ss → a ≤ b → sporadic_demand ss [] (a + c) (b + c) ≡ sporadic_demand ss [] a b
sporadic_demand-shifted cycle [] a b c fit low = refl
sporadic_demand-shifted cycle (s ∷ ss) a b c fit low =
    let length : (b + c) - (a + c) ≡ b - a = omega arith in
    let here : arrivals_due s 0 (a + c) (b + c) ≡ arrivals_due s 0 a b = arrivals_due-shifted_to_zero s (a + c) (b + c) fit.0.apart (omega arith) ∙ ap (arrivals_due s 0 0) length ∙ sym (arrivals_due-shifted_to_zero s a b fit.0.apart low) in
    omega (arith, ap (λ n. s.wcet * n) here, sporadic_demand-shifted cycle ss a b c fit.1 low)

-- no arrival is due at once
pub sporadic_demand-now : (cycle : ℕ) (ss : List Sporadic) (a : ℕ) → AllByRecursion (FitsCycle cycle) ss → sporadic_demand ss [] a a ≡ 0
sporadic_demand-now cycle [] a fit = refl
sporadic_demand-now cycle (s ∷ ss) a fit =
    omega (arith, ap (λ n. s.wcet * n) (arrivals_due-none s a a (omega (arith, fit.0.later))), sporadic_demand-now cycle ss a fit.1)

in_first_cycle : (est dl cycle declared own : ℕ) → own ≡ declared → dl ≤ cycle → own ≤ cond (nat_le 0 (est + 0) && nat_le (dl + 0) cycle) declared 0
in_first_cycle est dl cycle declared own same within = grind (arith, nat_tests)

-- the jobs of one cycle and its arrivals fit the cycle
pub cycle-fits : (set : TaskSet) → is_sound set ≡ true → IsFeasible set (cycle_of set) → sum_by (λ (j : Job). j.declared) (cycle_jobs set (cycle_of set) 0) + cycle_slots (cycle_of set) set.sporadics ≤ cycle_of set
cycle-fits set sound feasible =
    let cycle = cycle_of set in
    let counts = λ (j : Job). cond (nat_le 0 (j.est + 0) && nat_le (j.dl + 0) cycle) j.declared 0 in
    let positive = cycle-positive set sound in
    omega (
      arith,
      sporadic_demand-whole cycle set.sporadics (FitCycle-from_sound set sound),
      cycle_jobs-later set 0 (λ (j : Job). j.declared) counts sound feasible (λ job other m. in_first_cycle job.est job.dl cycle job.declared other.declared m.declared m.within),
      feasible 0 cycle (omega arith) (omega arith) (omega arith),
    )
