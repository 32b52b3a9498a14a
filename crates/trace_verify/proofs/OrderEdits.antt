-- Jobs in deadline order stay in order where some of them go, one runs, or one with a key of its own comes in.
use Rattle.std.proofs.Common.{◌≡◌, ℕ, zero, suc, ◌-◌, ◌<◌, Bool, true, false, cond, List, [], ◌∷◌, ◌++◌, map, filter, take, refl, ap, sym, ◌∙◌, subst, arith}
use Rattle.std.specs.Prelude.{nat_lt, All}
use Rattle.std.specs.List.{AllByRecursion}
use Rattle.std.proofs.lemmas.List.Elements.{recursion_from_All}
use Rattle.std.proofs.lemmas.List.Sums.{sum_by-append, sum_by-cons}
use Rattle.slot_core.specs.declared.jobs.Key.{Key}
use Rattle.slot_core.specs.declared.jobs.Job.{Job}
use Rattle.slot_core.specs.declared.events.Ran.{Ran}
use Rattle.slot_core.specs.declared.events.Ran.TheVariants.{Idle as RanIdle, Key as RanKey}
use Rattle.slot_core.specs.Claims.Safety.{after_run, after_slot}
use Rattle.slot_core.specs.Keeping.Plans.{with_job, AreInDeadlineOrder}
use Rattle.slot_core.specs.Offline.Keys.{is_earlier, row_of, same_key}
use Rattle.slot_core.specs.Runs.Matches.{HaveSameItems, IsSameScene}
use Rattle.slot_core.specs.Runs.Scenes.{Scene}
use Rattle.scene_steps.specs.Steps.{with_point, with_job as scene_with_job}
use Rattle.slot_facts.proofs.Lists.Members.{AllByRecursion-weaker}
use Rattle.slot_facts.proofs.Lists.SameItems.{same-from_permutation}
use Rattle.slot_facts.proofs.Plans.InOrder.{HaveOtherKeys, AreInDeadlineOrder-with_job, IsPermutation-with_job}
use Rattle.trace_verify.proofs.JobEdits.{first-some}

-- some of jobs in order are in order
pub AreInDeadlineOrder-filter : (test : Job → Bool) (jobs : List Job) → AreInDeadlineOrder jobs → AreInDeadlineOrder (filter test jobs)
AreInDeadlineOrder-filter test [] ordered = tt
AreInDeadlineOrder-filter test (j ∷ jobs) ordered =
    by_test (test j) (first-some j test jobs ordered.0) (AreInDeadlineOrder-filter test jobs ordered.1)
  where
    by_test : (b : Bool) → AllByRecursion (λ (other : Job). is_earlier j other ≡ true) (filter test jobs) → AreInDeadlineOrder (filter test jobs) → AreInDeadlineOrder (cond b (j ∷ filter test jobs) (filter test jobs))
    by_test true first rest = (first, rest)
    by_test false first rest = rest

-- what holds of all items holds of the first ones
pub all_take : {X : Type 0} (P : X → Type 0) (n : ℕ) (xs : List X) → AllByRecursion P xs → AllByRecursion P (take n xs)
all_take P zero xs all = tt
all_take P (suc n) [] all = tt
all_take P (suc n) (x ∷ xs) all = (all.0, all_take P n xs all.1)

-- the first of jobs in order are in order
pub AreInDeadlineOrder-take : (n : ℕ) (jobs : List Job) → AreInDeadlineOrder jobs → AreInDeadlineOrder (take n jobs)
AreInDeadlineOrder-take zero jobs ordered = tt
AreInDeadlineOrder-take (suc n) [] ordered = tt
AreInDeadlineOrder-take (suc n) (j ∷ jobs) ordered =
    (all_take (λ (other : Job). is_earlier j other ≡ true) n jobs ordered.0, AreInDeadlineOrder-take n jobs ordered.1)

-- the job with a slot less, where it has this key
abbrev less_left : Key → Job → Job
less_left key j = cond (same_key j.key key) (record j { left = j.left - 1 }) j

-- a slot less changes no order
is_earlier-less_left : (key : Key) (a b : Job) → is_earlier (less_left key a) (less_left key b) ≡ is_earlier a b
is_earlier-less_left key a b = by_tests (same_key a.key key) (same_key b.key key)
  where
    by_tests : (p q : Bool) → is_earlier (cond p (record a { left = a.left - 1 }) a) (cond q (record b { left = b.left - 1 }) b) ≡ is_earlier a b
    by_tests true true = refl
    by_tests true false = refl
    by_tests false true = refl
    by_tests false false = refl

all_later-less_left : (key : Key) (j : Job) (jobs : List Job) → AllByRecursion (λ (other : Job). is_earlier j other ≡ true) jobs → AllByRecursion (λ (other : Job). is_earlier (less_left key j) other ≡ true) (map (less_left key) jobs)
all_later-less_left key j [] later = tt
all_later-less_left key j (other ∷ jobs) later =
    (is_earlier-less_left key j other ∙ later.0, all_later-less_left key j jobs later.1)

AreInDeadlineOrder-less_left : (key : Key) (jobs : List Job) → AreInDeadlineOrder jobs → AreInDeadlineOrder (map (less_left key) jobs)
AreInDeadlineOrder-less_left key [] ordered = tt
AreInDeadlineOrder-less_left key (j ∷ jobs) ordered =
    (all_later-less_left key j jobs ordered.0, AreInDeadlineOrder-less_left key jobs ordered.1)

-- what a run leaves is in order
pub AreInDeadlineOrder-after_run : (key : Key) (jobs : List Job) → AreInDeadlineOrder jobs → AreInDeadlineOrder (after_run key jobs)
AreInDeadlineOrder-after_run key jobs ordered =
    AreInDeadlineOrder-filter (λ (j : Job). nat_lt 0 j.left) (map (less_left key) jobs) (AreInDeadlineOrder-less_left key jobs ordered)

-- and so is what a slot leaves
pub AreInDeadlineOrder-after_slot : (ran : Ran) (jobs : List Job) → AreInDeadlineOrder jobs → AreInDeadlineOrder (after_slot ran jobs)
AreInDeadlineOrder-after_slot RanIdle jobs ordered = ordered
AreInDeadlineOrder-after_slot (RanKey key) jobs ordered = AreInDeadlineOrder-after_run key jobs ordered

-- a job of a later row has another key than all of them, so that it comes in in order
pub AreInDeadlineOrder-inserted : (job : Job) (jobs : List Job) → AreInDeadlineOrder jobs → All (λ (j : Job). row_of j.key < row_of job.key) jobs → AreInDeadlineOrder (with_job job jobs)
AreInDeadlineOrder-inserted job jobs ordered fresh =
    let before = recursion_from_All (λ (j : Job). row_of j.key < row_of job.key) jobs fresh in
    AreInDeadlineOrder-with_job job jobs ordered (AllByRecursion-weaker (λ (j : Job). row_of j.key < row_of job.key) (HaveOtherKeys job) jobs (λ j low same. absurd (omega (arith, low, ap row_of same))) before)

-- the jobs with one that has come in are those before and that one
same-inserted : (job : Job) (jobs : List Job) → HaveSameItems (with_job job jobs) (jobs ++ job ∷ [])
same-inserted job jobs = λ f. omega (
  arith,
  same-from_permutation (job ∷ jobs) (with_job job jobs) (IsPermutation-with_job job jobs) f,
  sum_by-append f jobs (job ∷ []),
  sum_by-cons f job jobs,
  sum_by-cons f job [],
)

-- a scene of which the jobs have the job at its place, and the points its deadline, is that with the job
pub with_job-inserted : (job : Job) (scene own : Scene) (jobs : List Job) (points : List ℕ) → scene ≡ own → jobs ≡ with_job job own.jobs → points ≡ with_point job.dl own.points → IsSameScene (record own { jobs = jobs; points = points }) (scene_with_job job scene)
with_job-inserted job scene own jobs points is inserted with_deadline =
    subst
    (λ (s : Scene). IsSameScene (record own { jobs = jobs; points = points }) (scene_with_job job s))
    (sym is)
    (record {
      time = refl;
      jobs = subst (λ (js : List Job). HaveSameItems js (own.jobs ++ job ∷ [])) (sym inserted) (same-inserted job own.jobs);
      nexts = refl;
      soft = refl;
      points = with_deadline;
    })
