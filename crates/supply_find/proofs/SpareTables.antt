-- The tables of what is due in two cycles are those of a set: what they tell is what is spare.
use Rattle.std.proofs.Common.{◌≡◌, ◌≢◌, ℕ, zero, suc, ◌+◌, ◌-◌, ◌*◌, ◌/◌, ◌^◌, ◌<◌, ◌≤◌, max, min, true, cond, ◌&&◌, List, [], ◌∷◌, ◌++◌, fold, length, map, slice_index, zero-add, refl, sym, ap, ◌∙◌, subst, inl, inr, arith}
use Rattle.std.specs.Prelude.{sum_by, nat_le, nat_lt, slice_set, if◌then◌else◌}
use Rattle.std.specs.List.{AllByRecursion, range_with_len}
use Rattle.std.proofs.lemmas.Bool.{cases_eq, le-ltb, lt-ltb}
use Rattle.std.proofs.lemmas.Bool.Decides.{nat_tests}
use Rattle.std.proofs.lemmas.List.{get_or-set_same, get_or-set_other}
use Rattle.std.proofs.lemmas.List.FromFn.{length-map-range_with_len}
use Rattle.std.proofs.lemmas.List.Sorted.{sum_by-IsPermutation}
use Rattle.std.proofs.lemmas.List.Sums.{sum_by-append, sum_by-cons}
use Rattle.std.proofs.lemmas.Nat.{div-add-mod'}
use Rattle.std.proofs.Math.Nat.{mul-le-mul, mul-le-mul_left}
use Rattle.slot_core.specs.declared.TheConstants.{SLOT_LIMIT}
use Rattle.slot_core.specs.declared.jobs.Job.{Job}
use Rattle.slot_core.specs.declared.tasks.Sporadic.{Sporadic}
use Rattle.slot_core.specs.declared.tasks.TaskSet.{TaskSet}
use Rattle.slot_core.specs.Sets.Cycles.{cycle_of}
use Rattle.slot_core.specs.Sets.Ranges.{sporadic_in_range}
use Rattle.slot_core.specs.Offline.OfflineJobs.{cycle_jobs, offline_jobs}
use Rattle.slot_core.specs.Runs.Demand.{work_between}
use Rattle.slot_facts.proofs.Offline.LaterJobs.{FitsInCycle, all_fit}
use Rattle.slot_facts.proofs.Sets.Ranges.{SporadicRanges-from_test, bounds}
use Rattle.supply_laws.specs.Spare.{arrivals_within}
use Rattle.supply_laws.proofs.Windows.{sum_by-cycle}
use Rattle.supply_find.specs.Due.{due_by}
use Rattle.supply_find.specs.Spare.{least_by, most_by, most_spare, spare_by, spare_in, spare_of, spares_of}
use Rattle.supply_find.proofs.OfPlan.{IsOfPlan, map-range_same}
use Rattle.supply_find.proofs.Tables.{mapped-at, small-all}

-- what a table of one cycle tells of two
abbrev pub two_of : List ℕ → ℕ → ℕ → ℕ
two_of first cycle b = slice_index first (min b cycle) + slice_index first (b - cycle)

pub two-small : (first due : List ℕ) (cycle n : ℕ) → due ≡ map (two_of first cycle) (range_with_len 0 n) → ((b : ℕ) → slice_index first b ≤ SLOT_LIMIT) → (b : ℕ) → slice_index due b ≤ 2 * SLOT_LIMIT
two-small first due cycle n is small =
    let long = ap length is ∙ length-map-range_with_len (two_of first cycle) 0 n in
    small-all due (2 * SLOT_LIMIT) (λ b low. omega (arith, mapped-at (two_of first cycle) due n b is (omega (arith, long, low)), small (min b cycle), small (b - cycle)))

-- a job that is due in one cycle counts once in each of two
first-counts : (y x est dl w declared cycle : ℕ) → dl ≤ cycle → w ≡ declared → y ≤ x → cond (nat_lt y (dl + 0 * cycle) && nat_le (dl + 0 * cycle) x) w 0 + (if nat_le dl (min y cycle) then declared else 0) ≡ (if nat_le dl (min x cycle) then declared else 0)
first-counts y x est dl w declared cycle within whole later = grind (arith, nat_tests)

next-counts : (y x est dl w declared cycle : ℕ) → 1 ≤ dl → w ≡ declared → y ≤ x → cond (nat_lt y (dl + 1 * cycle) && nat_le (dl + 1 * cycle) x) w 0 + (if nat_le dl (y - cycle) then declared else 0) ≡ (if nat_le dl (x - cycle) then declared else 0)
next-counts y x est dl w declared cycle some whole later = grind (arith, nat_tests)

module _ (set : TaskSet) (jobs : List Job) (of : IsOfPlan set jobs) where
  abbrev cycle : ℕ
  cycle = cycle_of set

  -- the work of a cycle that is due between two times, as a sum over the jobs
  abbrev part : ℕ → ℕ → ℕ → Job → ℕ
  part shift y x j = cond (nat_lt y (j.dl + shift) && nat_le (j.dl + shift) x) j.left 0

  part-sum : (k y x : ℕ) → work_between (cycle_jobs set cycle k) y x ≡ sum_by (part (k * cycle) y x) jobs
  part-sum k y x =
      sum_by-cycle set k (λ (j : Job). cond (nat_lt y j.dl && nat_le j.dl x) j.left 0) of.sound of.feasible
      ∙ sym (sum_by-IsPermutation (part (k * cycle) y x) (cycle_jobs set cycle 0) jobs of.listed)

  abbrev due : List Job → ℕ → ℕ
  due js b = due_by js (min b cycle) + due_by js (b - cycle)

  counts : (js : List Job) (y x : ℕ) → AllByRecursion (FitsInCycle cycle) js → y ≤ x → sum_by (part (0 * cycle) y x) js + sum_by (part (1 * cycle) y x) js + due js y ≡ due js x
  counts [] y x fit later = refl
  counts (j ∷ js) y x fit later =
      omega (
        arith,
        sum_by-cons (part (0 * cycle) y x) j js,
        sum_by-cons (part (1 * cycle) y x) j js,
        sum_by-cons (λ (j : Job). if nat_le j.dl (min y cycle) then j.declared else 0) j js,
        sum_by-cons (λ (j : Job). if nat_le j.dl (y - cycle) then j.declared else 0) j js,
        sum_by-cons (λ (j : Job). if nat_le j.dl (min x cycle) then j.declared else 0) j js,
        sum_by-cons (λ (j : Job). if nat_le j.dl (x - cycle) then j.declared else 0) j js,
        first-counts y x j.est j.dl j.left j.declared cycle fit.0.within fit.0.whole later,
        next-counts y x j.est j.dl j.left j.declared cycle (omega (arith, fit.0.room, fit.0.some)) fit.0.whole later,
        counts js y x fit.1 later,
      )

  -- what is due between two times of two cycles is the difference of what is due by each
  between-is : (y x : ℕ) → y ≤ x → work_between (offline_jobs set cycle 2) y x ≡ due jobs x - due jobs y
  between-is y x later =
      let f = λ (j : Job). cond (nat_lt y j.dl && nat_le j.dl x) j.left 0 in
      omega (
        arith,
        part-sum 0 y x,
        part-sum 1 y x,
        sum_by-append f (offline_jobs set cycle 1) (cycle_jobs set cycle 1),
        sum_by-append f (offline_jobs set cycle 0) (cycle_jobs set cycle 0),
        counts jobs y x (all_fit set jobs of.sound of.feasible of.listed) later,
      )

  module _ (first two arriving : List ℕ) (due_first : (b : ℕ) → b ≤ cycle → slice_index first b ≡ due_by jobs b) (due_two : two ≡ map (two_of first cycle) (range_with_len 0 (2 * cycle + 1))) (arrive : arriving ≡ map (arrivals_within set.sporadics) (range_with_len 0 (cycle + 1))) where
    two-is : (b : ℕ) → b ≤ 2 * cycle → slice_index two b ≡ due jobs b
    two-is b near =
        omega (arith, mapped-at (two_of first cycle) two (2 * cycle + 1) b due_two (omega (arith, near)), due_first (min b cycle) (omega arith), due_first (b - cycle) (omega (arith, near)))

    spare-is : (x length : ℕ) → x ≤ 2 * cycle → length ≤ cycle → spare_by two arriving x length ≡ spare_in set x length
    spare-is x length near short =
        omega (
          arith,
          two-is x near,
          two-is (x - length) (omega (arith, near)),
          mapped-at (arrivals_within set.sporadics) arriving (cycle + 1) length arrive (omega (arith, short)),
          between-is (x - length) x (omega arith),
        )

    most-is : (within x : ℕ) → within ≤ cycle → x ≤ 2 * cycle → most_by two arriving within x ≡ most_spare set within x
    most-is within x short near =
        ap (fold max 0) (map-range_same (spare_by two arriving x) (spare_in set x) 0 (within + 1) (λ k low high. spare-is x k near (omega (arith, high, short))))

    least-is : (within : ℕ) → within ≤ cycle → least_by two arriving cycle cycle within ≡ spare_of set within
    least-is within short =
        ap (fold min within) (map-range_same (most_by two arriving within) (most_spare set within) cycle cycle (λ x low high. most-is within x short (omega (arith, high))))

-- ---- the tables, step by step

-- numbers with one more are small
pub pushed-small : (xs ys : List ℕ) (x m : ℕ) → ys ≡ xs ++ x ∷ [] → ((b : ℕ) → slice_index xs b ≤ m) → x ≤ m → (b : ℕ) → slice_index ys b ≤ m
pushed-small xs ys x m is small low b = rw is (longer xs small b)
  where
    longer : (zs : List ℕ) → ((b : ℕ) → slice_index zs b ≤ m) → (b : ℕ) → slice_index (zs ++ x ∷ []) b ≤ m
    longer [] all zero = low
    longer [] all (suc b) = omega arith
    longer (z ∷ zs) all zero = all 0
    longer (z ∷ zs) all (suc b) = longer zs (λ k. all (suc k)) b

-- a table with these values is a map
table-from : (f : ℕ → ℕ) (xs : List ℕ) (a : ℕ) → ((k : ℕ) → k < length xs → slice_index xs k ≡ f (a + k)) → xs ≡ map f (range_with_len a (length xs))
table-from f [] a all = refl
table-from f (x ∷ xs) a all =
    let here : a + 0 ≡ a = omega arith in
    let one : x ≡ f a = all 0 (omega arith) ∙ ap f here in
    let rest = table-from f xs (a + 1) (λ k low.
    let next : a + suc k ≡ a + 1 + k = omega arith in
    all (suc k) (omega (arith, low)) ∙ ap f next) in
    ap (λ y. y ∷ xs) one ∙ ap (λ ys. f a ∷ ys) rest

pub table-is : (f : ℕ → ℕ) (xs : List ℕ) (n : ℕ) → length xs ≡ n → ((k : ℕ) → k < n → slice_index xs k ≡ f k) → xs ≡ map f (range_with_len 0 n)
table-is f xs n long all =
    table-from f xs 0 (λ k low. all k (omega (arith, low, long)) ∙ ap f (sym (zero-add k))) ∙ ap (λ m. map f (range_with_len 0 m)) long

-- one more number of slots has the lesser of two numbers
pub kept-step : (old before after : List ℕ) (g : ℕ → ℕ) (slots v : ℕ) → slots < length before → length before ≡ length old → ((k : ℕ) → k < length old → slice_index before k ≡ (if nat_lt k slots then min (slice_index old k) (g k) else slice_index old k)) → v ≡ min (slice_index before slots) (g slots) → after ≡ slice_set before slots v → (k : ℕ) → k < length old → slice_index after k ≡ (if nat_lt k (slots + 1) then min (slice_index old k) (g k) else slice_index old k)
kept-step old before after g slots v inside long so_far value set k low =
    elim (cases_eq k slots) [
      | inl here ↦
          let read : slice_index after k ≡ v = ap (λ xs. slice_index xs k) set ∙ ap (slice_index (slice_set before slots v)) here ∙ get_or-set_same before slots v 0 inside in
          let was : slice_index before slots ≡ slice_index old slots = so_far slots (omega (arith, inside, long)) ∙ ap (λ t. if t then min (slice_index old slots) (g slots) else slice_index old slots) (le-ltb slots slots (omega arith)) in
          let test : (if nat_lt k (slots + 1) then min (slice_index old k) (g k) else slice_index old k) ≡ min (slice_index old k) (g k) = ap (λ t. if t then min (slice_index old k) (g k) else slice_index old k) (lt-ltb k (slots + 1) (omega (arith, here))) in
          let old_here : min (slice_index old slots) (g slots) ≡ min (slice_index old k) (g k) = ap (λ i. min (slice_index old i) (g i)) (sym here) in
          read ∙ value ∙ ap (λ n. min n (g slots)) was ∙ old_here ∙ sym test
      | inr other ↦
          let read : slice_index after k ≡ slice_index before k = ap (λ xs. slice_index xs k) set ∙ get_or-set_other before slots k v 0 other in
          read ∙ so_far k low ∙ ap (λ t. if t then min (slice_index old k) (g k) else slice_index old k) (same_test k slots other)
    ]
  where
    same_test : (k slots : ℕ) → k ≢ slots → nat_lt k slots ≡ nat_lt k (slots + 1)
    same_test k slots other = grind (arith, nat_tests)

-- the numbers of a sporadic task, and the slots of its arrivals, are small
pub record IsApart (s : Sporadic) : Type 0 where
  pub wcet : s.wcet ≤ 2 ^ 13
  pub some : 1 ≤ s.separation
  pub apart : s.separation ≤ 2 ^ 13

pub apart-from : (s : Sporadic) → sporadic_in_range s ≡ true → IsApart s
apart-from s test =
    let ranges = SporadicRanges-from_test s test in
    let wcet = bounds 1 SLOT_LIMIT s.wcet ranges.wcet in
    let separation = bounds 1 SLOT_LIMIT s.separation ranges.separation in
    record { wcet = omega (arith, wcet.1); some = separation.0; apart = omega (arith, separation.1) }

pub arrivals-few : (s : Sporadic) (n : ℕ) → IsApart s → n ≤ SLOT_LIMIT → (n + (s.separation - 1)) / s.separation ≤ 2 ^ 14
arrivals-few s n apart short =
    let whole = div-add-mod' (n + (s.separation - 1)) s.separation in
    let less = le-div-times ((n + (s.separation - 1)) / s.separation) s.separation apart.some in
    omega (arith, whole, less, apart.apart, short)
  where
    le-div-times : (q k : ℕ) → 1 ≤ k → q ≤ q * k
    le-div-times q k some = omega (arith, mul-le-mul_left q some)

pub arrivals-small : (s : Sporadic) (n : ℕ) → IsApart s → n ≤ SLOT_LIMIT → s.wcet * ((n + (s.separation - 1)) / s.separation) ≤ 2 ^ 28
arrivals-small s n apart short =
    omega (arith, mul-le-mul apart.wcet (arrivals-few s n apart short))

-- ---- the table of a plan, with its cycle by another name

pub spares-are : (set : TaskSet) (jobs : List Job) (n : ℕ) (first two arriving table : List ℕ) → IsOfPlan set jobs → n ≡ cycle_of set → ((b : ℕ) → b ≤ n → slice_index first b ≡ due_by jobs b) → two ≡ map (two_of first n) (range_with_len 0 (2 * n + 1)) → arriving ≡ map (arrivals_within set.sporadics) (range_with_len 0 (n + 1)) → length table ≡ n + 1 → ((k : ℕ) → k ≤ n → slice_index table k ≡ least_by two arriving n n k) → table ≡ spares_of set
spares-are set jobs n first two arriving table of same due_first due_two arrive long least =
    let c : ℕ = cycle_of set in
    let first_is = subst (λ m. (b : ℕ) → b ≤ m → slice_index first b ≡ due_by jobs b) same due_first in
    let two_is = subst (λ m. two ≡ map (two_of first m) (range_with_len 0 (2 * m + 1))) same due_two in
    let arrive_is = subst (λ m. arriving ≡ map (arrivals_within set.sporadics) (range_with_len 0 (m + 1))) same arrive in
    let least_is = subst (λ m. (k : ℕ) → k ≤ m → slice_index table k ≡ least_by two arriving m m k) same least in
    table-is (spare_of set) table (c + 1) (omega (arith, long, same)) (λ k low. least_is k (omega (arith, low)) ∙ least-is set jobs of first two arriving first_is two_is arrive_is k (omega (arith, low)))
