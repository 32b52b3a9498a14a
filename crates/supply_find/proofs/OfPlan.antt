-- The tables of the jobs of a plan are those of its set: what they tell is the supply.
use Rattle.std.proofs.Common.{◌≡◌, ℕ, zero, suc, ◌+◌, ◌-◌, ◌*◌, ◌/◌, ◌%◌, ◌<◌, ◌≤◌, true, cond, ◌&&◌, List, [], ◌∷◌, length, map, slice_index, refl, sym, ap, ◌∙◌, subst, inl, inr, arith}
use Rattle.std.specs.Prelude.{sum_by, nat_le, IsPermutation}
use Rattle.std.specs.List.{AllByRecursion, range_with_len}
use Rattle.std.proofs.lemmas.Bool.Decides.{nat_tests}
use Rattle.std.proofs.lemmas.List.Elements.{All-from_recursion}
use Rattle.std.proofs.lemmas.List.Sorted.{sum_by-IsPermutation, IsPermutation-trans}
use Rattle.std.proofs.lemmas.List.Sums.{sum_by-append, sum_by-cons}
use Rattle.slot_core.specs.declared.TheConstants.{SLOT_LIMIT}
use Rattle.slot_core.specs.declared.jobs.Job.{Job}
use Rattle.slot_core.specs.declared.tasks.TaskSet.{TaskSet}
use Rattle.slot_core.specs.Sets.Cycles.{cycle_of}
use Rattle.slot_core.specs.Sets.Ranges.{is_sound}
use Rattle.slot_core.specs.Feasibility.Feasible.{IsFeasible}
use Rattle.slot_core.specs.Feasibility.Sporadics.{sporadic_demand}
use Rattle.slot_core.specs.Keeping.Plans.{PlanParts, IsPlan}
use Rattle.slot_core.specs.Offline.OfflineJobs.{cycle_jobs, offline_jobs}
use Rattle.slot_core.specs.Runs.Demand.{work_from}
use Rattle.slot_facts.proofs.Bounds.CycleDemand.{FitCycle-from_sound, cycle-fits, sporadic_demand-shifted}
use Rattle.slot_facts.proofs.Lists.Members.{AllByRecursion-weaker}
use Rattle.slot_facts.proofs.Offline.Jobs.{cycle-positive, cycle-at_most}
use Rattle.slot_facts.proofs.Offline.LaterJobs.{FitsInCycle, all_fit}
use Rattle.supply_laws.specs.Windows.{window_need}
use Rattle.supply_laws.proofs.Windows.{sum_by-cycle}
use Rattle.supply_find.specs.Due.{inside}
use Rattle.supply_find.specs.Found.{least_free, supply_slots, shortest, first_start, supply_of, supplies_of}
use Rattle.supply_find.specs.Keys.{window_key, IsGreatest, IsShortest, entry_of}
use Rattle.supply_find.specs.declared.supply.Supply.{Supply}
use Rattle.supply_find.specs.declared.supply.TheConstants.{WEIGHT}
use Rattle.supply_find.proofs.Found.{least_free-is, first_start-is, supply-is}
use Rattle.supply_find.proofs.Tables.{AreWithin, mapped-length, mapped-at}

-- sums that agree where something holds
sum_by-same : (f g : Job → ℕ) (P : Job → Type 0) (jobs : List Job) → AllByRecursion P jobs → ((j : Job) → P j → f j ≡ g j) → sum_by f jobs ≡ sum_by g jobs
sum_by-same f g P [] all same = refl
sum_by-same f g P (j ∷ jobs) all same =
    omega (arith, sum_by-cons f j jobs, sum_by-cons g j jobs, same j all.0, sum_by-same f g P jobs all.1 same)

-- maps that agree on a range
pub map-range_same : {X : Type 0} (f g : ℕ → X) (a n : ℕ) → ((k : ℕ) → a ≤ k → k < a + n → f k ≡ g k) → map f (range_with_len a n) ≡ map g (range_with_len a n)
map-range_same f g a zero same = refl
map-range_same f g a (suc n) same =
    ap (λ x. x ∷ map f (range_with_len (a + 1) n)) (same a (omega arith) (omega arith))
    ∙ ap (λ xs. g a ∷ xs) (map-range_same f g (a + 1) n (λ k low high. same k (omega (arith, low)) (omega (arith, high))))

-- an entry, part by part
abbrev the_entry : ℕ → ℕ → ℕ → Supply
the_entry slots from until = record { slots = slots; from = from; until = until }

entry-same : (s t a b n m : ℕ) → s ≡ t → a ≡ b → n ≡ m → the_entry s a (a + n) ≡ the_entry t b (b + m)
entry-same s t a b n m slots from long =
    let until : a + n ≡ b + m = omega (arith, from, long) in
    λ x. the_entry (slots x) (from x) (until x)

-- the facts of a plan that the search stands on, with its jobs in any order
pub record IsOfPlan (set : TaskSet) (jobs : List Job) : Type 0 where
  pub sound : is_sound set ≡ true
  pub feasible : IsFeasible set (cycle_of set)
  pub listed : IsPermutation (cycle_jobs set (cycle_of set) 0) jobs

module _ (set : TaskSet) (jobs : List Job) (of : IsOfPlan set jobs) where
  abbrev cycle : ℕ
  cycle = cycle_of set

  abbrev first : List Job
  first = cycle_jobs set cycle 0

  fit : AllByRecursion (FitsInCycle cycle) jobs
  fit = all_fit set jobs of.sound of.feasible of.listed

  abbrev declared : Job → ℕ
  declared j = j.declared

  pub jobs-few : sum_by (λ (j : Job). j.declared) jobs ≤ cycle
  jobs-few = omega (arith, cycle-fits set of.sound of.feasible, sum_by-IsPermutation declared first jobs of.listed)

  pub jobs-within : AreWithin cycle jobs
  jobs-within =
      All-from_recursion (λ (j : Job). (1 ≤ j.dl) × (j.dl ≤ cycle) × (j.est < cycle)) jobs (AllByRecursion-weaker (FitsInCycle cycle) (λ (j : Job). (1 ≤ j.dl) × (j.dl ≤ cycle) × (j.est < cycle)) jobs (λ j fits. (omega (arith, fits.room, fits.some), fits.within, omega (arith, fits.room, fits.some, fits.within))) fit)

  -- the work of a cycle in a window, as a sum over the jobs
  abbrev part : ℕ → ℕ → ℕ → Job → ℕ
  part shift a b j = cond (nat_le a (j.est + shift) && nat_le (j.dl + shift) b) j.left 0

  part-sum : (k a b : ℕ) → work_from (cycle_jobs set cycle k) a b ≡ sum_by (part (k * cycle) a b) jobs
  part-sum k a b =
      sum_by-cycle set k (λ (j : Job). cond (nat_le a j.est && nat_le j.dl b) j.left 0) of.sound of.feasible
      ∙ sym (sum_by-IsPermutation (part (k * cycle) a b) first jobs of.listed)

  now-agrees : (a est dl b left declared : ℕ) → left ≡ declared → cond (nat_le a (est + 0 * cycle) && nat_le (dl + 0 * cycle) b) left 0 ≡ cond (nat_le a est && nat_le dl b) declared 0
  now-agrees a est dl b left declared whole = grind (arith, nat_tests)

  later-agrees : (a est dl b left declared shift : ℕ) → left ≡ declared → a ≤ shift → cond (nat_le a (est + shift) && nat_le (dl + shift) b) left 0 ≡ cond (nat_le (dl + shift) b) declared 0
  later-agrees a est dl b left declared shift whole low = grind (arith, nat_tests)

  -- the tables count the offline work of windows
  pub inside-is : (a b : ℕ) → a < cycle → inside jobs cycle a b ≡ work_from (offline_jobs set cycle 3) a b
  inside-is a b start =
      let f = λ (j : Job). cond (nat_le a j.est && nat_le j.dl b) j.left 0 in
      let once : 1 * cycle ≡ cycle = omega arith in
      let now = sum_by-same (part (0 * cycle) a b) (λ (j : Job). cond (nat_le a j.est && nat_le j.dl b) j.declared 0) (FitsInCycle cycle) jobs fit (λ j fits. now-agrees a j.est j.dl b j.left j.declared fits.whole) in
      let second = sum_by-same (part cycle a b) (λ (j : Job). cond (nat_le (j.dl + cycle) b) j.declared 0) (FitsInCycle cycle) jobs fit (λ j fits. later-agrees a j.est j.dl b j.left j.declared cycle fits.whole (omega (arith, start))) in
      let third = sum_by-same (part (2 * cycle) a b) (λ (j : Job). cond (nat_le (j.dl + 2 * cycle) b) j.declared 0) (FitsInCycle cycle) jobs fit (λ j fits. later-agrees a j.est j.dl b j.left j.declared (2 * cycle) fits.whole (omega (arith, start))) in
      let one = ap (λ shift. sum_by (part shift a b) jobs) once in
      omega (
        arith,
        now,
        second,
        third,
        one,
        part-sum 0 a b,
        part-sum 1 a b,
        part-sum 2 a b,
        sum_by-append f (offline_jobs set cycle 2) (cycle_jobs set cycle 2),
        sum_by-append f (offline_jobs set cycle 1) (cycle_jobs set cycle 1),
        sum_by-append f (offline_jobs set cycle 0) (cycle_jobs set cycle 0),
      )

  -- what a window needs: the work in the tables, and the arrivals of as many slots
  pub need-is : (n a : ℕ) → a < cycle → window_need set 3 a (a + n) ≡ inside jobs cycle a (a + n) + sporadic_demand set.sporadics [] 0 n
  need-is n a start =
      let shifted = sporadic_demand-shifted cycle set.sporadics 0 n a (FitCycle-from_sound set of.sound) (omega arith) in
      let at_a : 0 + a ≡ a = omega arith in
      let at_b : n + a ≡ a + n = omega arith in
      let same : sporadic_demand set.sporadics [] a (a + n) ≡ sporadic_demand set.sporadics [] 0 n = subst (λ b. sporadic_demand set.sporadics [] a b ≡ sporadic_demand set.sporadics [] 0 n) at_b (subst (λ b. sporadic_demand set.sporadics [] b (n + a) ≡ sporadic_demand set.sporadics [] 0 n) at_a shifted) in
      omega (arith, inside-is a (a + n) start, same)

  -- the greatest key tells the most work and the first start with it
  pub record IsDecoded (n key : ℕ) : Type 0 where
    pub start : cycle - key % WEIGHT < cycle
    pub small : key % WEIGHT ≤ cycle
    pub least : least_free set n ≡ n - (key / WEIGHT + sporadic_demand set.sporadics [] 0 n)
    pub first : first_start set n ≡ cycle - key % WEIGHT

  decoded-at : (n key a : ℕ) → IsGreatest (window_key jobs cycle n) 0 cycle key → a < cycle → window_key jobs cycle n a ≡ key → IsDecoded n key
  decoded-at n key a h start at =
      let short = cycle-at_most set of.sound in
      let work = inside jobs cycle a (a + n) in
      let whole : key / WEIGHT ≡ work = omega (arith, at, start, short) in
      let rest : key % WEIGHT ≡ cycle - a = omega (arith, at, start, short) in
      let here : cycle - key % WEIGHT ≡ a = omega (arith, rest, start) in
      let most = λ (b : ℕ) (low : b < cycle).
      let le : window_need set 3 b (b + n) ≤ window_need set 3 a (a + n) = omega (arith, need-is n b low, need-is n a start, h.bound b (omega arith) low, at, start, short) in
      le in
      let earlier = λ (b : ℕ) (low : b < a).
      let lt : window_need set 3 b (b + n) < window_need set 3 a (a + n) = omega (arith, need-is n b (omega (arith, low, start)), need-is n a start, h.bound b (omega arith) (omega (arith, low, start)), at, start, short, low) in
      lt in
      record {
        start = omega (arith, here, start);
        small = omega (arith, rest);
        least = least_free-is set of.sound of.feasible n a start most ∙ omega (arith, need-is n a start, whole);
        first = first_start-is set of.sound of.feasible n a start most earlier ∙ sym here;
      }

  pub decoded : (n key : ℕ) → IsGreatest (window_key jobs cycle n) 0 cycle key → IsDecoded n key
  decoded n key h =
      elim h.reached [
        | inl none ↦ absurd (omega (arith, none, h.bound 0 (omega arith) (cycle-positive set of.sound), cycle-positive set of.sound))
        | inr at ↦ decoded-at n key at.0 h at.2 at.3
      ]

  -- so the table of entries is that of the supply
  module _ (most free short : List ℕ) (greatest : (n : ℕ) → n ≤ 2 * cycle → IsGreatest (window_key jobs cycle n) 0 cycle (slice_index most n)) (left : (n : ℕ) → n ≤ 2 * cycle → slice_index free n ≡ n - (slice_index most n / WEIGHT + sporadic_demand set.sporadics [] 0 n)) (len : length free ≡ 2 * cycle + 1) (shorter : (n : ℕ) → n < length free → IsShortest free n (slice_index short n)) where
    least-read : (n : ℕ) → n ≤ 2 * cycle → slice_index free n ≡ least_free set n
    least-read n near = left n near ∙ sym (decoded n (slice_index most n) (greatest n near)).least

    pub short-within : (n : ℕ) → n ≤ cycle → slice_index short n ≤ 2 * cycle
    short-within n near = omega (arith, len, (shorter n (omega (arith, len, near))).within)

    entry-is : (within : ℕ) → within ≤ cycle → entry_of most free short cycle within ≡ supply_of set within
    entry-is within near =
        let n : ℕ = slice_index short within in
        let one = shorter within (omega (arith, len, near)) in
        let low : n ≤ 2 * cycle = short-within within near in
        let key = decoded n (slice_index most n) (greatest n low) in
        let found = supply-is set of.sound of.feasible within n (2 * cycle) one.from low (omega (arith, near)) (λ k from upto. omega (arith, least-read k upto, least-read n low, one.least k from (omega (arith, len, upto)))) (λ k from upto. omega (arith, least-read k (omega (arith, upto, low)), least-read n low, one.first k from upto)) in
        let slots : slice_index free n ≡ supply_slots set within = least-read n low ∙ sym found.0 in
        let long : n ≡ shortest set within = sym found.1 in
        let from : cycle - slice_index most n % WEIGHT ≡ first_start set (shortest set within) = sym key.first ∙ ap (first_start set) long in
        entry-same (slice_index free n) (supply_slots set within) (cycle - slice_index most n % WEIGHT) (first_start set (shortest set within)) n (shortest set within) slots from long

    pub entries-are : map (entry_of most free short cycle) (range_with_len 0 (cycle + 1)) ≡ supplies_of set
    entries-are = map-range_same (entry_of most free short cycle) (supply_of set) 0 (cycle + 1) (λ k low high. entry-is k (omega (arith, high)))

-- a plan and its jobs in another order
pub of-plan : (plan : PlanParts) (jobs : List Job) → IsPlan plan → IsPermutation plan.jobs jobs → IsOfPlan plan.tasks jobs
of-plan plan jobs is moved = record {
  sound = is.sound;
  feasible = subst (IsFeasible plan.tasks) is.cycle is.feasible;
  listed = subst (λ n. IsPermutation (cycle_jobs plan.tasks n 0) jobs) is.cycle (IsPermutation-trans (cycle_jobs plan.tasks plan.cycle 0) plan.jobs jobs is.jobs moved);
}

-- what the calls ask, with the cycle by another name
module _ (set : TaskSet) (jobs : List Job) (n : ℕ) (of : IsOfPlan set jobs) (same : n ≡ cycle_of set) where
  pub some-cycle : 1 ≤ n
  some-cycle = omega (arith, same, cycle-positive set of.sound)

  pub short-cycle : n ≤ SLOT_LIMIT
  short-cycle = omega (arith, same, cycle-at_most set of.sound)

  pub few-jobs : sum_by (λ (j : Job). j.declared) jobs ≤ n
  few-jobs = omega (arith, same, jobs-few set jobs of)

  pub within-jobs : AreWithin n jobs
  within-jobs = subst (λ m. AreWithin m jobs) (sym same) (jobs-within set jobs of)

  pub read-entries : (most free short arriving : List ℕ) → ((k : ℕ) → k ≤ 2 * n → IsGreatest (window_key jobs n k) 0 n (slice_index most k)) → length most ≡ 2 * n + 1 → free ≡ map (λ k. k - (slice_index most k / WEIGHT + slice_index arriving k)) (range_with_len 0 (length most)) → ((x : ℕ) → x ≤ 2 * n → slice_index arriving x ≡ sporadic_demand set.sporadics [] 0 x) → ((k : ℕ) → k < length free → IsShortest free k (slice_index short k)) → ((k : ℕ) → k ≤ n → slice_index short k ≤ 2 * n) × (map (entry_of most free short n) (range_with_len 0 (n + 1)) ≡ supplies_of set)
  read-entries most free short arriving greatest long is needs shorter =
      let c : ℕ = cycle_of set in
      let len : length free ≡ 2 * c + 1 = mapped-length (λ k. k - (slice_index most k / WEIGHT + slice_index arriving k)) free (length most) is ∙ omega (arith, long, same) in
      let all = subst (λ m. (k : ℕ) → k ≤ 2 * m → IsGreatest (window_key jobs m k) 0 m (slice_index most k)) same greatest in
      let left : (k : ℕ) → k ≤ 2 * c → slice_index free k ≡ k - (slice_index most k / WEIGHT + sporadic_demand set.sporadics [] 0 k) = λ k near.
      mapped-at (λ k. k - (slice_index most k / WEIGHT + slice_index arriving k)) free (length most) k is (omega (arith, long, same, near))
      ∙ ap (λ v. k - (slice_index most k / WEIGHT + v)) (needs k (omega (arith, same, near))) in
      let within = short-within set jobs of most free short all left len shorter in
      let entries = entries-are set jobs of most free short all left len shorter in (
        λ k near. omega (arith, same, within k (omega (arith, same, near))),
        subst (λ m. map (entry_of most free short m) (range_with_len 0 (m + 1)) ≡ supplies_of set) (sym same) entries,
      )

-- lists by other names
pub entries-same : (m m' f f' s s' : List ℕ) (n : ℕ) → m ≡ m' → f ≡ f' → s ≡ s' → map (entry_of m f s n) (range_with_len 0 (n + 1)) ≡ map (entry_of m' f' s' n) (range_with_len 0 (n + 1))
entries-same m m' f f' s s' n p q r = λ x. map (entry_of (p x) (q x) (r x) n) (range_with_len 0 (n + 1))
