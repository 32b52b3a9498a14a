-- Jobs in deadline order: some cycles later, and one list after another.
use Rattle.std.proofs.Common.{◌≡◌, ℕ, ◌+◌, ◌*◌, ◌<◌, ◌≤◌, true, List, [], ◌∷◌, ◌++◌, map, Equal, refl, sym, ap, ◌∙◌, inl, inr, arith, Ordering}
use Rattle.std.specs.Ordering.{nat_cmp, ordering_then, is_lt}
use Rattle.std.specs.Cmp.Lexicographic.{slice_cmp}
use Rattle.std.specs.List.{AllByRecursion}
use Rattle.std.proofs.lemmas.Bool.{cases_eq}
use Rattle.std.proofs.lemmas.Bool.Decides.{nat_tests}
use Rattle.slot_core.specs.declared.jobs.Key.{Key}
use Rattle.slot_core.specs.declared.jobs.Key.TheVariants.{Offline, Sporadic, Firm, Soft}
use Rattle.slot_core.specs.declared.jobs.Job.{Job}
use Rattle.slot_core.specs.declared.tasks.TaskSet.{TaskSet}
use Rattle.slot_core.specs.Offline.OfflineJobs.{later_key, later_job, instances_of}
use Rattle.slot_core.specs.Offline.Keys.{key_order, is_earlier}
use Rattle.slot_core.specs.Keeping.Plans.{AreInDeadlineOrder}
use Rattle.slot_facts.proofs.Lists.Members.{AllByRecursion-append}

-- numbers that grow by the same compare as before
nat_cmp-shifted : (a b d : ℕ) → nat_cmp (a + d) (b + d) ≡ nat_cmp a b
nat_cmp-shifted a b d = grind (arith, nat_tests)

-- what follows a number that differs does not count
past_different : (a b : ℕ) (o p : Ordering) → (a ≡ b → ⊥) → ordering_then (nat_cmp a b) o ≡ ordering_then (nat_cmp a b) p
past_different a b o p other = grind (arith, nat_tests)

-- keys of offline jobs, as many instances later as their graphs have in so many cycles
offline_order-later : (instances : ℕ → ℕ) (n g t k h u l : ℕ) → slice_cmp nat_cmp (key_order (Offline g t (k + n * instances g))) (key_order (Offline h u (l + n * instances h))) ≡ slice_cmp nat_cmp (key_order (Offline g t k)) (key_order (Offline h u l))
offline_order-later instances n g t k h u l =
    elim (cases_eq g h) [
      | inl same ↦
          let instance = ap (λ d. nat_cmp (k + n * instances g) (l + n * instances d)) (sym same) ∙ nat_cmp-shifted k l (n * instances g) in
          λ i. ordering_then (nat_cmp g h) (ordering_then (nat_cmp t u) (ordering_then (instance i) Equal))
      | inr other ↦ past_different g h _ _ other
    ]

-- keys, some cycles later
key_order-later : (set : TaskSet) (cycle n : ℕ) (a b : Key) → slice_cmp nat_cmp (key_order (later_key set cycle n a)) (key_order (later_key set cycle n b)) ≡ slice_cmp nat_cmp (key_order a) (key_order b)
key_order-later set cycle n (Offline g t k) (Offline h u l) =
    offline_order-later (instances_of set cycle) n g t k h u l
key_order-later set cycle n (Offline g t k) b = refl
key_order-later set cycle n (Sporadic i row) (Offline h u l) = refl
key_order-later set cycle n (Sporadic i row) b = refl
key_order-later set cycle n (Firm row) (Offline h u l) = refl
key_order-later set cycle n (Firm row) b = refl
key_order-later set cycle n (Soft row) (Offline h u l) = refl
key_order-later set cycle n (Soft row) b = refl

-- jobs that are later by the same keep their order
pub is_earlier-later : (set : TaskSet) (cycle n : ℕ) (a b : Job) → is_earlier (later_job set cycle n a) (later_job set cycle n b) ≡ is_earlier a b
is_earlier-later set cycle n a b =
    λ i. is_lt (ordering_then (nat_cmp-shifted a.dl b.dl (n * cycle) i) (key_order-later set cycle n a.key b.key i))

AllByRecursion-later : (set : TaskSet) (cycle n : ℕ) (job : Job) (jobs : List Job) → AllByRecursion (λ other. is_earlier job other ≡ true) jobs → AllByRecursion (λ other. is_earlier (later_job set cycle n job) other ≡ true) (map (later_job set cycle n) jobs)
AllByRecursion-later set cycle n job [] h = tt
AllByRecursion-later set cycle n job (other ∷ jobs) h =
    (is_earlier-later set cycle n job other ∙ h.0, AllByRecursion-later set cycle n job jobs h.1)

pub AreInDeadlineOrder-later : (set : TaskSet) (cycle n : ℕ) (jobs : List Job) → AreInDeadlineOrder jobs → AreInDeadlineOrder (map (later_job set cycle n) jobs)
AreInDeadlineOrder-later set cycle n [] h = tt
AreInDeadlineOrder-later set cycle n (job ∷ jobs) h =
    (AllByRecursion-later set cycle n job jobs h.0, AreInDeadlineOrder-later set cycle n jobs h.1)

-- of two jobs the one with the smaller deadline goes first
lt_first : (x y : ℕ) (o : Ordering) → x < y → is_lt (ordering_then (nat_cmp x y) o) ≡ true
lt_first x y o h = grind (arith, nat_tests)

pub is_earlier-lt : (a b : Job) → a.dl < b.dl → is_earlier a b ≡ true
is_earlier-lt a b h = lt_first a.dl b.dl _ h

-- a list due by x and one due later, one after the other
before_later : (job : Job) (x : ℕ) (ys : List Job) → job.dl ≤ x → AllByRecursion (λ (j : Job). x < j.dl) ys → AllByRecursion (λ other. is_earlier job other ≡ true) ys
before_later job x [] le h = tt
before_later job x (y ∷ ys) le h = (is_earlier-lt job y (omega (arith, h.0)), before_later job x ys le h.1)

pub AreInDeadlineOrder-append : (x : ℕ) (xs ys : List Job) → AllByRecursion (λ (j : Job). j.dl ≤ x) xs → AllByRecursion (λ (j : Job). x < j.dl) ys → AreInDeadlineOrder xs → AreInDeadlineOrder ys → AreInDeadlineOrder (xs ++ ys)
AreInDeadlineOrder-append x [] ys due later ox oy = oy
AreInDeadlineOrder-append x (job ∷ xs) ys due later ox oy =
    (AllByRecursion-append (λ other. is_earlier job other ≡ true) xs ys ox.0 (before_later job x ys due.0 later), AreInDeadlineOrder-append x xs ys due.1 later ox.1 oy)

-- jobs in deadline order that are due by m
pub record IsUpTo (m : ℕ) (jobs : List Job) : Type 0 where
  pub ordered : AreInDeadlineOrder jobs
  pub due : AllByRecursion (λ (j : Job). j.dl ≤ m) jobs

-- a job that goes before another is due no later
first_le : (a b : ℕ) (o : Ordering) → is_lt (ordering_then (nat_cmp a b) o) ≡ true → a ≤ b
first_le a b o h = grind (arith, nat_tests)

pub is_earlier-le : (a b : Job) → is_earlier a b ≡ true → a.dl ≤ b.dl
is_earlier-le a b h = first_le _ _ _ h
