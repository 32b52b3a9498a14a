-- A sporadic arrival that is taken keeps the bounds: it was in the demand.
use Rattle.std.proofs.Common.{◌≡◌, ℕ, zero, suc, ◌+◌, ◌*◌, ◌/◌, ◌<◌, ◌≤◌, false, cond, ◌&&◌, List, [], ◌∷◌, length, Some, refl, sym, ap, ◌∙◌, subst, ◌⊎◌, inl, inr, arith}
use Rattle.std.specs.Prelude.{Contains, nat_le, slice_get, slice_set, slice_index_or}
use Rattle.std.specs.List.{AllByRecursion}
use Rattle.std.proofs.Math.Nat.{mul-le-mul_right}
use Rattle.std.proofs.lemmas.Bool.{cases_Bool, cases_lt, false≢true}
use Rattle.std.proofs.lemmas.Bool.Decides.{nat_tests}
use Rattle.std.proofs.lemmas.List.{length-set}
use Rattle.std.proofs.lemmas.List.Elements.{recursion_from_All, All-from_recursion}
use Rattle.std.proofs.lemmas.List.Sums.{sum_by-cons}
use Rattle.slot_core.specs.declared.jobs.Key.{Key}
use Rattle.slot_core.specs.declared.jobs.Key.TheVariants.{Sporadic as SporadicKey}
use Rattle.slot_core.specs.declared.jobs.Job.{Job}
use Rattle.slot_core.specs.declared.tasks.Sporadic.{Sporadic}
use Rattle.slot_core.specs.declared.tasks.TaskSet.{TaskSet}
use Rattle.slot_core.specs.Offline.Keys.{same_key, is_offline, is_soft, row_of}
use Rattle.slot_core.specs.Sets.Cycles.{cycle_of}
use Rattle.slot_core.specs.Offline.Windows.{precedes}
use Rattle.slot_core.specs.Runs.Histories.{sporadic_job}
use Rattle.slot_core.specs.Feasibility.Sporadics.{arrivals_due, sporadic_demand}
use Rattle.slot_core.specs.Runs.Scenes.{Scene}
use Rattle.slot_core.specs.Keeping.Kept.{KeepsBounds}
use Rattle.slot_facts.specs.Bounds.{ATakenArrivalKeepsTheBounds}
use Rattle.slot_facts.proofs.Lists.Apart.{count-none}
use Rattle.slot_facts.proofs.Choice.Earliest.{same_from_key}
use Rattle.slot_facts.proofs.Lists.Members.{Has-from_Contains, Contains-from_Has, Has-from_slice_get, AllByRecursion-at_Has}
use Rattle.slot_facts.proofs.Offline.Jobs.{cycle-positive}
use Rattle.slot_facts.proofs.Patterns.Counts.{arrivals_due-from, arrival-le}
use Rattle.slot_facts.proofs.Bounds.CycleDemand.{FitsCycle, FitsCycle-from_Has}

-- of one task, the job that has come and the arrivals after it need no more than the arrivals from now on
task_taken : (s : Sporadic) (next t x : ℕ) → 1 ≤ s.separation → next ≤ t → cond (nat_le (t + s.deadline) x) s.wcet 0 + s.wcet * arrivals_due s (t + s.separation) t x ≤ s.wcet * arrivals_due s next t x
task_taken s next t x apart came =
    let now : cond (nat_le (t + s.deadline) x) s.wcet 0 ≤ cond (nat_le t t && nat_le (t + s.deadline) x) s.wcet 0 = grind (arith, nat_tests) in
    omega (
      arith,
      now,
      arrival-le s next t x t apart came,
      ap (λ n. s.wcet * n) (arrivals_due-from s (t + s.separation) t x),
      ap (λ n. s.wcet * n) (arrivals_due-from s next t x),
    )

-- so it is for all tasks, where the next arrival of one is later
pub sporadic_demand-taken : (ss : List Sporadic) (nexts : List ℕ) (index : ℕ) (s : Sporadic) (t x : ℕ) → slice_get ss index ≡ Some s → length nexts ≡ length ss → 1 ≤ s.separation → slice_index_or nexts index 0 ≤ t → cond (nat_le (t + s.deadline) x) s.wcet 0 + sporadic_demand ss (slice_set nexts index (t + s.separation)) t x ≤ sporadic_demand ss nexts t x
sporadic_demand-taken [] nexts index s t x at same apart came = absurd (cc at)
sporadic_demand-taken (r ∷ ss) [] index s t x at same apart came = absurd (omega arith)
sporadic_demand-taken (r ∷ ss) (n ∷ ns) zero s t x at same apart came =
    let task : s ≡ r = sym (cc at) in
    subst
    (λ (q : Sporadic). cond (nat_le (t + s.deadline) x) s.wcet 0 + sporadic_demand (q ∷ ss) ((t + s.separation) ∷ ns) t x ≤ sporadic_demand (q ∷ ss) (n ∷ ns) t x)
    task
    (omega (arith, task_taken s n t x apart came))
sporadic_demand-taken (r ∷ ss) (n ∷ ns) (suc index) s t x at same apart came =
    omega (arith, sporadic_demand-taken ss ns index s t x at (omega arith) apart came)

-- an item at one place is replaced
all-set : (P : ℕ → Type 0) (xs : List ℕ) (i y : ℕ) → AllByRecursion P xs → P y → AllByRecursion P (slice_set xs i y)
all-set P [] i y all here = tt
all-set P (x ∷ xs) zero y all here = (here, all.1)
all-set P (x ∷ xs) (suc i) y all here = (all.0, all-set P xs i y all.1 here)

-- a member of a list with one more job
cases_member : (j : Job) (jobs : List Job) (job : Job) → Contains (j ∷ jobs) job → (j ≡ job) ⊎ Contains jobs job
cases_member j jobs job at =
    elim (Has-from_Contains (j ∷ jobs) job at) [ inl e ↦ inl e | inr more ↦ inr (Contains-from_Has jobs job more) ]

still_member : (j : Job) (jobs : List Job) (job : Job) → Contains jobs job → Contains (j ∷ jobs) job
still_member j jobs job at = Contains-from_Has (j ∷ jobs) job (inr (Has-from_Contains jobs job at))

-- a key of a higher row is not listed
other_key : (row : ℕ) (own key : Key) (j : Job) → row_of j.key < row → row_of own ≡ row → own ≡ key → same_key j.key key ≡ false
other_key row own key j low at same =
    elim (cases_Bool (same_key j.key key)) [
      | inl one ↦ absurd (omega (arith, ap row_of (same_from_key j.key key one), ap row_of same))
      | inr other ↦ other
    ]

-- the job that has come
abbrev arrived : Sporadic → ℕ → ℕ → ℕ → Job
arrived s index row t =
    record { key = SporadicKey index row; est = t; dl = t + s.deadline; left = s.wcet; declared = s.wcet }

sporadic_job-is : (sporadics : List Sporadic) (index row t : ℕ) (s : Sporadic) → slice_get sporadics index ≡ Some s → arrived s index row t ≡ sporadic_job sporadics index row t
sporadic_job-is sporadics index row t s at = rw at refl

-- the separation is no longer than the cycle
separation-le : (cycle : ℕ) (s : Sporadic) → FitsCycle cycle s → 1 ≤ cycle → s.separation ≤ cycle
separation-le cycle s fits positive =
    elim (cases_lt 0 (cycle / s.separation)) [
      | inl some ↦ omega (arith, fits.whole, mul-le-mul_right s.separation some)
      | inr none ↦ let zero_times : (cycle / s.separation) * s.separation ≡ 0 = mul-zero_left (cycle / s.separation) s.separation (omega arith) in
          absurd (omega (arith, fits.whole))
    ]
  where
    mul-zero_left : (n m : ℕ) → n ≡ 0 → n * m ≡ 0
    mul-zero_left n m none = rw none (omega arith)

-- a taken arrival keeps the bounds
arrival_keeps : (set : TaskSet) (cycles : ℕ) (scene : Scene) (row index : ℕ) (s : Sporadic) → 1 ≤ cycle_of set → FitsCycle (cycle_of set) s → KeepsBounds set (cycle_of set) cycles scene → AllByRecursion (λ (j : Job). row_of j.key < row) scene.jobs → slice_get set.sporadics index ≡ Some s → slice_index_or scene.nexts index 0 ≤ scene.time → KeepsBounds set (cycle_of set) cycles (record scene { jobs = arrived s index row scene.time ∷ scene.jobs; nexts = slice_set scene.nexts index (scene.time + s.separation) })
arrival_keeps set cycles scene row index s positive fits bounds rows at came =
    let t = scene.time in
    let new = arrived s index row t in
    let short = separation-le (cycle_of set) s fits positive in
    record {
      fits = λ x low high. omega (arith, bounds.fits x low high, sporadic_demand-taken set.sporadics scene.nexts index s t x at bounds.one_each fits.apart came, sum_by-cons (λ (j : Job). cond (nat_le j.dl x) j.left 0) new scene.jobs);
      left = λ job listed. elim (cases_member new scene.jobs job listed) [
        | inl e ↦ subst (λ (j : Job). (t < j.dl) × (1 ≤ j.left) × (j.left ≤ j.declared)) e (omega (arith, fits.later), fits.some, omega arith)
        | inr old ↦ bounds.left job old
      ];
      planned = λ job listed offline. elim (cases_member new scene.jobs job listed) [
        | inl e ↦ absurd (false≢true (ap (λ (j : Job). is_offline j.key) e ∙ offline))
        | inr old ↦ bounds.planned job old offline
      ];
      come = λ job listed online. elim (cases_member new scene.jobs job listed) [
        | inl e ↦ subst (λ (j : Job). (is_soft j.key ≡ false) × (j.est ≤ t) × (j.dl ≤ t + cycle_of set)) e (refl, omega arith, omega (arith, fits.within, short))
        | inr old ↦ bounds.come job old online
      ];
      untouched = λ job listed later. still_member new scene.jobs job (bounds.untouched job listed later);
      waiting = λ before after listed offline first. elim (cases_member new scene.jobs before listed) [
        | inl e ↦ absurd (false≢true (ap (λ (j : Job). precedes set j.key after.key) e ∙ first))
        | inr old ↦ still_member new scene.jobs after (bounds.waiting before after old offline first)
      ];
      apart = λ key. elim (cases_Bool (same_key new.key key)) [
        | inl one ↦ omega (
          arith,
          sum_by-cons (λ (j : Job). cond (same_key j.key key) 1 0) new scene.jobs,
          ap {B = ℕ} (λ b. cond b 1 0) one,
          count-none (λ (j : Job). same_key j.key key) scene.jobs (λ j listed. other_key row new.key key j (AllByRecursion-at_Has (λ (j : Job). row_of j.key < row) scene.jobs j rows listed) refl (same_from_key new.key key one)),
        )
        | inr other ↦ omega (arith, sum_by-cons (λ (j : Job). cond (same_key j.key key) 1 0) new scene.jobs, ap {B = ℕ} (λ b. cond b 1 0) other, bounds.apart key)
      ];
      one_each = length-set scene.nexts index (t + s.separation) ∙ bounds.one_each;
      reach = All-from_recursion (λ next. next ≤ t + cycle_of set) _ (all-set (λ next. next ≤ t + cycle_of set) scene.nexts index (t + s.separation) (recursion_from_All _ scene.nexts bounds.reach) (omega (arith, short)));
    }

pub a_taken_arrival_keeps_the_bounds : ATakenArrivalKeepsTheBounds
a_taken_arrival_keeps_the_bounds set cycles scene row index s sound feasible bounds time rows at came =
    let fits = FitsCycle-from_Has set s sound (Has-from_slice_get set.sporadics index s at) in
    subst
    (λ (j : Job). KeepsBounds set (cycle_of set) cycles (record scene { jobs = j ∷ scene.jobs; nexts = slice_set scene.nexts index (scene.time + s.separation) }))
    (sporadic_job-is set.sporadics index row scene.time s at)
    (arrival_keeps set cycles scene row index s (cycle-positive set sound) fits bounds (recursion_from_All _ scene.jobs rows) at came)
