-- What is found time by time is spare, and no more is.
use Rattle.std.proofs.Common.{◌≡◌, ℕ, ◌+◌, ◌-◌, ◌*◌, ◌/◌, ◌<◌, ◌≤◌, true, cond, ◌&&◌, List, [], ◌∷◌, max, zero-add, refl, ap, ◌∙◌, inl, inr, arith}
use Rattle.std.specs.Prelude.{nat_le, nat_lt}
use Rattle.std.specs.List.{AllByRecursion}
use Rattle.std.proofs.Math.Nat.{mul-le-mul_left}
use Rattle.std.proofs.lemmas.Bool.{cases_lt}
use Rattle.std.proofs.lemmas.Bool.Decides.{nat_tests}
use Rattle.std.proofs.lemmas.List.Sums.{sum_by-cons, sum_by-le-sum_by}
use Rattle.std.proofs.lemmas.Nat.{div-add-mod', div_below, le-div}
use Rattle.slot_core.specs.declared.jobs.Job.{Job}
use Rattle.slot_core.specs.declared.tasks.Sporadic.{Sporadic}
use Rattle.slot_core.specs.declared.tasks.TaskSet.{TaskSet}
use Rattle.slot_core.specs.Sets.Cycles.{cycle_of}
use Rattle.slot_core.specs.Sets.Ranges.{is_sound}
use Rattle.slot_core.specs.Offline.OfflineJobs.{offline_jobs}
use Rattle.slot_core.specs.Runs.Demand.{work_between}
use Rattle.slot_facts.proofs.Bounds.CycleDemand.{FitsCycle, FitCycle-from_sound}
use Rattle.slot_facts.proofs.Offline.Jobs.{cycle-positive}
use Rattle.supply_laws.specs.Laws.{TheseTimesAreAll}
use Rattle.supply_laws.specs.Spare.{arrivals_within, due_need, AreSpare, AreSpareInCycle}
use Rattle.supply_find.specs.Spare.{spare_in, most_spare, spare_of, SpareIsFound, SpareRisesSlowly}
use Rattle.supply_find.proofs.Least.{least-start, least-at, least-reached, greatest-more, greatest-at, greatest-reached}

-- ---- what is due in a number of slots

-- no sporadic job is due in no slots
no_arrival : (s : Sporadic) → 1 ≤ s.separation → s.wcet * ((0 + (s.separation - 1)) / s.separation) ≡ 0
no_arrival s apart =
    let few = div_below (0 + (s.separation - 1)) s.separation 1 (omega (arith, apart)) (omega (arith, apart)) in
    let none : (0 + (s.separation - 1)) / s.separation ≡ 0 = omega (arith, few) in
    let nothing : s.wcet * 0 ≡ 0 = omega arith in
    ap (λ n. s.wcet * n) none ∙ nothing

no_arrivals : (cycle : ℕ) (ss : List Sporadic) → AllByRecursion (FitsCycle cycle) ss → arrivals_within ss 0 ≡ 0
no_arrivals cycle [] fit = refl
no_arrivals cycle (s ∷ ss) fit =
    omega (
      arith,
      sum_by-cons (λ (s : Sporadic). s.wcet * ((0 + (s.separation - 1)) / s.separation)) s ss,
      no_arrival s fit.0.apart,
      no_arrivals cycle ss fit.1,
    )

-- in one slot more no fewer are
more_arrival : (s : Sporadic) (n : ℕ) → 1 ≤ s.separation → s.wcet * ((n + (s.separation - 1)) / s.separation) ≤ s.wcet * ((n + 1 + (s.separation - 1)) / s.separation)
more_arrival s n apart =
    let whole = div-add-mod' (n + (s.separation - 1)) s.separation in
    let more = le-div ((n + (s.separation - 1)) / s.separation) (n + 1 + (s.separation - 1)) s.separation apart (omega (arith, whole)) in
    mul-le-mul_left s.wcet more

more_arrivals : (cycle n : ℕ) (ss : List Sporadic) → AllByRecursion (FitsCycle cycle) ss → arrivals_within ss n ≤ arrivals_within ss (n + 1)
more_arrivals cycle n [] fit = omega arith
more_arrivals cycle n (s ∷ ss) fit =
    omega (
      arith,
      sum_by-cons (λ (s : Sporadic). s.wcet * ((n + (s.separation - 1)) / s.separation)) s ss,
      sum_by-cons (λ (s : Sporadic). s.wcet * ((n + 1 + (s.separation - 1)) / s.separation)) s ss,
      more_arrival s n fit.0.apart,
      more_arrivals cycle n ss fit.1,
    )

-- no offline job is due between a time and itself, and between an earlier time and it no fewer
none-between : (x dl left : ℕ) → cond (nat_lt (x - 0) dl && nat_le dl x) left 0 ≤ 0
none-between x dl left = grind (arith, nat_tests)

more-between : (x n dl left : ℕ) → cond (nat_lt (x - n) dl && nat_le dl x) left 0 ≤ cond (nat_lt (x - (n + 1)) dl && nat_le dl x) left 0
more-between x n dl left = grind (arith, nat_tests)

none_sum : (jobs : List Job) (x : ℕ) → work_between jobs (x - 0) x ≤ 0
none_sum [] x = omega arith
none_sum (j ∷ jobs) x =
    omega (arith, sum_by-cons (λ (j : Job). cond (nat_lt (x - 0) j.dl && nat_le j.dl x) j.left 0) j jobs, none-between x j.dl j.left, none_sum jobs x)

module _ (set : TaskSet) (sound : is_sound set ≡ true) where
  abbrev cycle : ℕ
  cycle = cycle_of set

  positive : 1 ≤ cycle
  positive = cycle-positive set sound

  none_due : (x : ℕ) → due_need set 2 0 x ≡ 0
  none_due x =
      omega (arith, none_sum (offline_jobs set cycle 2) x, no_arrivals cycle set.sporadics (FitCycle-from_sound set sound))

  more_due : (n x : ℕ) → due_need set 2 n x ≤ due_need set 2 (n + 1) x
  more_due n x =
      omega (
        arith,
        sum_by-le-sum_by (λ (j : Job). cond (nat_lt (x - n) j.dl && nat_le j.dl x) j.left 0) (λ (j : Job). cond (nat_lt (x - (n + 1)) j.dl && nat_le j.dl x) j.left 0) (offline_jobs set cycle 2) (λ j. more-between x n j.dl j.left),
        more_arrivals cycle n set.sporadics (FitCycle-from_sound set sound),
      )

  -- ---- the most up to a time

  -- some of the last slots leave it free
  reached : (within x : ℕ) → (length : ℕ) × (length ≤ within) × (most_spare set within x + due_need set 2 length x ≤ length)
  reached within x =
      let (k, low, is) = greatest-reached (spare_in set x) within in
      elim (cases_lt k (due_need set 2 k x)) [
        | inl short ↦ (0, omega arith, omega (arith, is, none_due x))
        | inr room ↦ (k, low, omega (arith, is))
      ]

  most-at : (within x length : ℕ) → length ≤ within → spare_in set x length ≤ most_spare set within x
  most-at within x length short =
      greatest-at (spare_in set x) 0 0 (within + 1) length (omega arith) (omega (arith, short))

  most-rises : (within x : ℕ) → (most_spare set within x ≤ most_spare set (within + 1) x) × (most_spare set (within + 1) x ≤ most_spare set within x + 1)
  most-rises within x =
      let more : most_spare set (within + 1) x ≡ max (most_spare set within x) (spare_in set x (within + 1)) = greatest-more (spare_in set x) 0 0 (within + 1) ∙ ap (λ k. max (most_spare set within x) (spare_in set x k)) (zero-add (within + 1)) in
      (omega (arith, more), omega (arith, more, more_due within x, most-at within x within (omega arith)))

  -- ---- the least of that

  abbrev most : ℕ → ℕ → ℕ
  most within x = most_spare set within x

  spare-at : (within x : ℕ) → cycle ≤ x → x < cycle + cycle → spare_of set within ≤ most within x
  spare-at within x low high = least-at (most within) within cycle cycle x low high

  pub are_spare : (within : ℕ) → AreSpareInCycle set within (spare_of set within)
  are_spare within = λ x low high.
      let (length, short, free) = reached within x in
      (length, short, omega (arith, free, spare-at within x low (omega (arith, high))))

  pub most_are : (within more : ℕ) → within ≤ cycle → AreSpare set within more → more ≤ spare_of set within
  most_are within more near are =
      elim (least-reached (most within) within cycle cycle) [
        | inl start ↦
            let (length, short, free) = are 2 cycle near in
            omega (arith, start, short, free)
        | inr at ↦
            let (length, short, free) = are 2 at.0 (omega (arith, near, at.1)) in
            omega (arith, at.3, short, free, most-at within at.0 length short)
      ]

  pub rises_slowly : (within : ℕ) → (spare_of set within ≤ spare_of set (within + 1)) × (spare_of set (within + 1) ≤ spare_of set within + 1)
  rises_slowly within =
      let less : spare_of set within ≤ spare_of set (within + 1) =
      elim (least-reached (most (within + 1)) (within + 1) cycle cycle) [
        | inl start ↦ omega (arith, start, least-start (most within) within cycle cycle)
        | inr at ↦ omega (arith, at.3, most-rises within at.0, spare-at within at.0 at.1 at.2)
      ] in
      let more : spare_of set (within + 1) ≤ spare_of set within + 1 =
      elim (least-reached (most within) within cycle cycle) [
        | inl start ↦ omega (arith, start, least-start (most (within + 1)) (within + 1) cycle cycle)
        | inr at ↦ omega (arith, at.3, most-rises within at.0, spare-at (within + 1) at.0 at.1 at.2)
      ] in
      (less, more)

pub spare_is_found : TheseTimesAreAll → SpareIsFound
spare_is_found all set within sound feasible near = record {
  are = all set within (spare_of set within) sound feasible near (are_spare set sound within);
  most = λ more are. most_are set sound within more near are;
}

pub spare_rises_slowly : SpareRisesSlowly
spare_rises_slowly set within sound = rises_slowly set sound within
