-- Sporadic jobs that are due in a stretch: those that were taken and those that may come are no more than one for each
-- separation that begins in it.
use Rattle.std.proofs.Common.{◌≡◌, ℕ, zero, suc, ◌+◌, ◌-◌, ◌*◌, ◌/◌, ◌%◌, ◌<◌, ◌≤◌, max, true, cond, ◌&&◌, List, [], ◌∷◌, length, map, Some, refl, sym, ap, ◌∙◌, subst, inl, inr, arith}
use Rattle.std.specs.Prelude.{⊤, sum_by, nat_le, nat_lt, slice_get, slice_set, slice_index}
use Rattle.std.specs.List.{AllByRecursion}
use Rattle.std.proofs.Math.Nat.{mul-le-mul_left}
use Rattle.std.proofs.lemmas.Bool.{cases_lt}
use Rattle.std.proofs.lemmas.Bool.Decides.{nat_tests}
use Rattle.std.proofs.lemmas.List.Sums.{sum_by-cons}
use Rattle.slot_core.specs.declared.jobs.Key.TheVariants.{Sporadic as SporadicKey}
use Rattle.slot_core.specs.declared.jobs.Job.{Job}
use Rattle.slot_core.specs.declared.tasks.Sporadic.{Sporadic}
use Rattle.slot_core.specs.declared.tasks.TaskSet.{TaskSet}
use Rattle.slot_core.specs.declared.events.What.TheVariants.{Sporadic as SporadicEntry}
use Rattle.slot_core.specs.declared.events.Spo.TheVariants.{Taken as SporadicTaken}
use Rattle.slot_core.specs.Sets.Cycles.{cycle_of}
use Rattle.slot_core.specs.Sets.Ranges.{is_sound}
use Rattle.slot_core.specs.Feasibility.Sporadics.{arrivals_due, sporadic_demand}
use Rattle.slot_core.specs.Runs.Histories.{History, time_of, sporadic_jobs}
use Rattle.slot_core.specs.Runs.Scenes.{next_arrivals}
use Rattle.slot_facts.proofs.Bounds.CycleDemand.{FitsCycle, FitsCycle-from_Has, FitCycle-from_sound}
use Rattle.slot_facts.proofs.Demand.Arrivals.{arrivals_due-none}
use Rattle.slot_facts.proofs.Demand.OneSlot.{arrivals_due-later}
use Rattle.slot_facts.proofs.Legal.Data.{TakesSporadic, LegalEntries, empty, at_start, at_end, slot_runs, idles, soft_taken, soft_full, accepted, late, far, no_room, sporadic_taken, soon, job_freed, soft_freed, not_running, withdrawn, no_job}
use Rattle.slot_facts.proofs.Legal.NextArrivals.{next_arrivals-set, length-next_arrivals}
use Rattle.slot_facts.proofs.Legal.Rows.{sporadic_job-at}
use Rattle.slot_facts.proofs.Lists.Members.{Has-from_slice_get}
use Rattle.slot_facts.proofs.Patterns.Counts.{arrivals_due-from, arrival-le, is_due, is_counted}
use Rattle.slot_facts.proofs.Sets.Tasks.{slice_get-within}
use Rattle.supply_laws.specs.Spare.{arrivals_within}

-- the declared slots of the jobs that are due after y and by x
abbrev pub declared_between : List Job → ℕ → ℕ → ℕ
declared_between jobs y x = sum_by (λ (j : Job). cond (nat_lt y j.dl && nat_le j.dl x) j.declared 0) jobs

-- each of the second times is no earlier
abbrev pub AreLater : List ℕ → List ℕ → Type 0
AreLater [] later = ⊤
AreLater (n ∷ ns) [] = ⊥
AreLater (n ∷ ns) (m ∷ ms) = (n ≤ m) × AreLater ns ms

-- the arrivals from 0 on
due-at : (s : Sporadic) (b x : ℕ) → arrivals_due s b 0 x ≡ arrivals_due s 0 b x
due-at s b x =
    let same : max 0 b ≡ b = omega arith in
    arrivals_due-from s b 0 x ∙ ap (λ m. arrivals_due s 0 m x) same

-- so many slots later at most one more is due for each separation that begins
arrivals-sparse : (s : Sporadic) (b y x : ℕ) → 1 ≤ s.separation → y ≤ x → arrivals_due s b 0 x ≤ arrivals_due s b 0 y + (x - y + (s.separation - 1)) / s.separation
arrivals-sparse s b y x apart low =
    let d = s.separation in
    let z = x - y + (d - 1) in
    let n = z / d in
    let k = arrivals_due s b 0 y in
    let whole : d * n + z % d ≡ z = omega arith in
    let rest : z % d < d = omega arith in
    let long : x ≤ y + n * d = omega arith in
    elim (cases_lt (k + n) (arrivals_due s b 0 x)) [
      | inl more ↦
          let due : b + (k + n) * d + s.deadline ≤ x = is_due s b x (k + n) apart (omega (arith, due-at s b x)) in
          let counted = is_counted s b y k apart (omega (arith, due, long)) in
          absurd (omega (arith, counted, due-at s b y))
      | inr few ↦ few
    ]

task-sparse : (s : Sporadic) (b y x : ℕ) → 1 ≤ s.separation → y ≤ x → s.wcet * arrivals_due s b 0 x ≤ s.wcet * arrivals_due s b 0 y + s.wcet * ((x - y + (s.separation - 1)) / s.separation)
task-sparse s b y x apart low = omega (arith, mul-le-mul_left s.wcet (arrivals-sparse s b y x apart low))

demand-sparse : (cycle : ℕ) (ss : List Sporadic) (bs : List ℕ) (y x : ℕ) → AllByRecursion (FitsCycle cycle) ss → y ≤ x → sporadic_demand ss bs 0 x ≤ sporadic_demand ss bs 0 y + arrivals_within ss (x - y)
demand-sparse cycle [] bs y x fit low = omega arith
demand-sparse cycle (s ∷ ss) [] y x fit low =
    omega (
      arith,
      task-sparse s 0 y x fit.0.apart low,
      demand-sparse cycle ss [] y x fit.1 low,
      sum_by-cons (λ (s : Sporadic). s.wcet * ((x - y + (s.separation - 1)) / s.separation)) s ss,
    )
demand-sparse cycle (s ∷ ss) (b ∷ bs) y x fit low =
    omega (
      arith,
      task-sparse s b y x fit.0.apart low,
      demand-sparse cycle ss bs y x fit.1 low,
      sum_by-cons (λ (s : Sporadic). s.wcet * ((x - y + (s.separation - 1)) / s.separation)) s ss,
    )

-- one arrival at t and those of its task a separation later or more are no more than those from t on
task-sooner : (s : Sporadic) (b t x : ℕ) → 1 ≤ s.separation → t + s.separation ≤ b → cond (nat_le (t + s.deadline) x) s.wcet 0 + s.wcet * arrivals_due s b 0 x ≤ s.wcet * arrivals_due s t 0 x
task-sooner s b t x apart later =
    let zeros : max 0 (t + s.separation) ≡ t + s.separation = omega arith in
    let one : max 0 t ≡ t = omega arith in
    let now : cond (nat_le (t + s.deadline) x) s.wcet 0 ≤ cond (nat_le 0 t && nat_le (t + s.deadline) x) s.wcet 0 = grind (arith, nat_tests) in
    omega (
      arith,
      now,
      arrival-le s t 0 x t apart (omega arith),
      ap (λ m. s.wcet * arrivals_due s 0 m x) zeros,
      ap (λ m. s.wcet * arrivals_due s 0 m x) one,
      ap (λ m. s.wcet * m) (due-at s b x),
      ap (λ m. s.wcet * m) (due-at s t x),
      mul-le-mul_left s.wcet (arrivals_due-later s 0 (t + s.separation) b x later),
    )

demand-sooner : (ss : List Sporadic) (bs : List ℕ) (index : ℕ) (s : Sporadic) (t x : ℕ) → slice_get ss index ≡ Some s → index < length bs → 1 ≤ s.separation → t + s.separation ≤ slice_index bs index → cond (nat_le (t + s.deadline) x) s.wcet 0 + sporadic_demand ss bs 0 x ≤ sporadic_demand ss (slice_set bs index t) 0 x
demand-sooner [] bs index s t x at low apart later = absurd (cc at)
demand-sooner (r ∷ ss) [] index s t x at low apart later = absurd (omega (arith, low))
demand-sooner (r ∷ ss) (b ∷ bs) zero s t x at low apart later =
    let task : s ≡ r = sym (cc at) in
    subst
    (λ (q : Sporadic). cond (nat_le (t + s.deadline) x) s.wcet 0 + sporadic_demand (q ∷ ss) (b ∷ bs) 0 x ≤ sporadic_demand (q ∷ ss) (t ∷ bs) 0 x)
    task
    (omega (arith, task-sooner s b t x apart later))
demand-sooner (r ∷ ss) (b ∷ bs) (suc index) s t x at low apart later =
    omega (arith, demand-sooner ss bs index s t x at (omega arith) apart later)

-- before the first of them is due none is
demand-not_yet : (ss : List Sporadic) (bs : List ℕ) (index : ℕ) (s : Sporadic) (t y : ℕ) → slice_get ss index ≡ Some s → y < t + s.deadline → sporadic_demand ss (slice_set bs index t) 0 y ≤ sporadic_demand ss bs 0 y
demand-not_yet [] bs index s t y at early = absurd (cc at)
demand-not_yet (r ∷ ss) [] index s t y at early = omega arith
demand-not_yet (r ∷ ss) (b ∷ bs) zero s t y at early =
    let task : s ≡ r = sym (cc at) in
    let none : arrivals_due s t 0 y ≡ 0 = due-at s t y ∙ arrivals_due-none s t y early in
    subst
    (λ (q : Sporadic). sporadic_demand (q ∷ ss) (t ∷ bs) 0 y ≤ sporadic_demand (q ∷ ss) (b ∷ bs) 0 y)
    task
    (omega (arith, ap (λ n. s.wcet * n) none))
demand-not_yet (r ∷ ss) (b ∷ bs) (suc index) s t y at early =
    omega (arith, demand-not_yet ss bs index s t y at early)

-- later times after one of them was moved
later-at : (ns bs : List ℕ) (index t : ℕ) → index < length ns → AreLater (slice_set ns index t) bs → (t ≤ slice_index bs index) × (index < length bs)
later-at [] bs index t low later = absurd (omega (arith, low))
later-at (n ∷ ns) [] zero t low later = absurd later
later-at (n ∷ ns) [] (suc index) t low later = absurd later
later-at (n ∷ ns) (b ∷ bs) zero t low later = (later.0, omega arith)
later-at (n ∷ ns) (b ∷ bs) (suc index) t low later =
    let rest = later-at ns bs index t (omega arith) later.1 in
    (rest.0, omega (arith, rest.1))

later-set : (ns bs : List ℕ) (index t u : ℕ) → slice_index ns index ≤ u → AreLater (slice_set ns index t) bs → AreLater ns (slice_set bs index u)
later-set [] bs index t u low later = tt
later-set (n ∷ ns) [] zero t u low later = absurd later
later-set (n ∷ ns) [] (suc index) t u low later = absurd later
later-set (n ∷ ns) (b ∷ bs) zero t u low later = (low, later.1)
later-set (n ∷ ns) (b ∷ bs) (suc index) t u low later = (later.0, later-set ns bs index t u low later.1)

later-before : (ns bs : List ℕ) (index t : ℕ) → slice_index ns index ≤ t → AreLater (slice_set ns index t) bs → AreLater ns bs
later-before [] bs index t low later = tt
later-before (n ∷ ns) [] zero t low later = absurd later
later-before (n ∷ ns) [] (suc index) t low later = absurd later
later-before (n ∷ ns) (b ∷ bs) zero t low later = (omega (arith, later.0, low), later.1)
later-before (n ∷ ns) (b ∷ bs) (suc index) t low later = (later.0, later-before ns bs index t low later.1)

pub later-max : (ns : List ℕ) (t : ℕ) → AreLater ns (map (max t) ns)
later-max [] t = tt
later-max (n ∷ ns) t = (omega arith, later-max ns t)

-- arrivals from t on, from 0 on
pub demand-at : (ss : List Sporadic) (ns : List ℕ) (t x : ℕ) → length ns ≡ length ss → sporadic_demand ss (map (max t) ns) 0 x ≡ sporadic_demand ss ns t x
demand-at [] ns t x same = refl
demand-at (s ∷ ss) [] t x same = absurd (omega (arith, same))
demand-at (s ∷ ss) (n ∷ ns) t x same =
    omega (
      arith,
      ap (λ m. s.wcet * m) (due-at s (max t n) x),
      ap (λ m. s.wcet * m) (arrivals_due-from s n t x),
      demand-at ss ns t x (omega (arith, same)),
    )

module _ (set : TaskSet) (y x : ℕ) (sound : is_sound set ≡ true) (low : y ≤ x) where
  -- the jobs that were taken and are due in the stretch, and the arrivals from any later times on, are no more
  abbrev pub IsSparse : History → Type 0
  IsSparse h =
      (bs : List ℕ) → AreLater (next_arrivals set.sporadics h) bs
      → declared_between (sporadic_jobs set.sporadics h) y x + sporadic_demand set.sporadics bs 0 x ≤ sporadic_demand set.sporadics bs 0 y + arrivals_within set.sporadics (x - y)

  not_in : (dl w : ℕ) → dl ≤ y → cond (nat_lt y dl && nat_le dl x) w 0 ≤ 0
  not_in dl w early = grind (arith, nat_tests)

  in_by : (dl w : ℕ) → cond (nat_lt y dl && nat_le dl x) w 0 ≤ cond (nat_le dl x) w 0
  in_by dl w = grind (arith, nat_tests)

  sparse-taken : (h : History) (row index due : ℕ) → TakesSporadic set h row index due → IsSparse h → IsSparse (SporadicEntry row index (SporadicTaken due) ∷ h)
  sparse-taken h row index due r before = λ bs later.
      let ss = set.sporadics in
      let t = time_of h in
      let nexts = next_arrivals ss h in
      let (s, at) = slice_get-within ss index r.named in
      let fits = FitsCycle-from_Has set s sound (Has-from_slice_get ss index s at) in
      let count : length nexts ≡ length ss = length-next_arrivals ss h 0 in
      let moved = subst (λ ns. AreLater ns bs) (next_arrivals-set ss h row index due 0 index index s at (omega arith) refl) later in
      let ahead = later-at nexts bs index (t + s.separation) (omega (arith, r.named, count)) moved in
      let taken : Job = record { key = SporadicKey index row; est = t; dl = t + s.deadline; left = s.wcet; declared = s.wcet } in
      let part = sum_by-cons (λ (j : Job). cond (nat_lt y j.dl && nat_le j.dl x) j.declared 0) taken (sporadic_jobs ss h) in
      let goal : declared_between (taken ∷ sporadic_jobs ss h) y x + sporadic_demand ss bs 0 x ≤ sporadic_demand ss bs 0 y + arrivals_within ss (x - y) =
      elim (cases_lt y (t + s.deadline)) [
        | inl inside ↦
            omega (
              arith,
              part,
              in_by (t + s.deadline) s.wcet,
              before (slice_set bs index t) (later-set nexts bs index (t + s.separation) t r.not_soon moved),
              demand-sooner ss bs index s t x at ahead.1 fits.apart ahead.0,
              demand-not_yet ss bs index s t y at inside,
            )
        | inr past ↦
            omega (
              arith,
              part,
              not_in (t + s.deadline) s.wcet past,
              before bs (later-before nexts bs index (t + s.separation) (omega (arith, r.not_soon)) moved),
            )
      ] in
      subst (λ (j : Job). declared_between (j ∷ sporadic_jobs ss h) y x + sporadic_demand ss bs 0 x ≤ sporadic_demand ss bs 0 y + arrivals_within ss (x - y)) (sym (sporadic_job-at ss index row t s at)) goal

  pub sparse-legal : {h : History} → LegalEntries set (cycle_of set) h → IsSparse h
  sparse-legal empty = λ bs later. omega (arith, demand-sparse (cycle_of set) set.sporadics bs y x (FitCycle-from_sound set sound) low)
  sparse-legal (at_start l) = sparse-legal l
  sparse-legal (at_end l) = sparse-legal l
  sparse-legal (slot_runs known r l) = sparse-legal l
  sparse-legal (idles none l) = sparse-legal l
  sparse-legal (soft_taken r l) = sparse-legal l
  sparse-legal (soft_full above l) = sparse-legal l
  sparse-legal (accepted r l) = sparse-legal l
  sparse-legal (late above l) = sparse-legal l
  sparse-legal (far above l) = sparse-legal l
  sparse-legal (no_room above l) = sparse-legal l
  sparse-legal {h = what ∷ h} (sporadic_taken {row = row} {index = index} {due = due} r l) = sparse-taken h row index due r (sparse-legal l)
  sparse-legal (soon above l) = sparse-legal l
  sparse-legal (job_freed above j started l) = sparse-legal l
  sparse-legal (soft_freed above r l) = sparse-legal l
  sparse-legal (not_running above l) = sparse-legal l
  sparse-legal (withdrawn above j l) = sparse-legal l
  sparse-legal (no_job above l) = sparse-legal l
