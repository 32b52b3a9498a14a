-- The plan's jobs of the first cycles are the offline jobs of those cycles; each has a key of its own, and there is room.
use Rattle.std.proofs.Common.{◌≡◌, ℕ, zero, suc, ◌+◌, ◌*◌, ◌<◌, ◌≤◌, false, List, [], ◌++◌, add-one, length, map, sym, subst, arith}
use Rattle.std.specs.Prelude.{All}
use Rattle.std.proofs.Math.Nat.{mul-le-mul_right}
use Rattle.std.proofs.lemmas.List.{length-append, length-map}
use Rattle.std.proofs.lemmas.List.Sorted.{All-permutation}
use Rattle.slot_core.specs.declared.jobs.Job.{Job}
use Rattle.slot_core.specs.Offline.Keys.{is_soft}
use Rattle.slot_core.specs.Keeping.Kept.{AreApart}
use Rattle.slot_core.specs.Runs.Matches.{HaveSameItems}
use Rattle.slot_core.specs.Offline.OfflineJobs.{cycle_jobs, later_job, offline_jobs}
use Rattle.slot_core.specs.Keeping.Plans.{PlanParts, IsPlan}
use Rattle.slot_facts.proofs.Lists.ApartKeys.{AreApart-from_members}
use Rattle.slot_facts.proofs.Lists.SameItems.{jobs-same_items, same-append, same-from_permutation, same-sym}
use Rattle.slot_facts.proofs.Offline.DistinctKeys.{offline_jobs-apart}
use Rattle.scene_steps.proofs.Facts.ProperScenes.{length-same_items}
use Rattle.scene_steps.proofs.Facts.Turns.{cycle_jobs-few, next_cycle-wait}
use Rattle.interval_build.proofs.FirstJobFacts.{AreFirstJobs-from_plan}
use Rattle.scene_steps.proofs.Same.SameScenes.{same-refl, same-trans}
use Rattle.scene_steps.proofs.Slots.NewParts.{cycle_jobs-same}
use Rattle.scene_steps.proofs.Slots.Places.{AreApart-same}

-- the plan's jobs of the first n cycles
abbrev pub first_cycles : PlanParts → ℕ → List Job
first_cycles plan zero = []
first_cycles plan (suc n) = first_cycles plan n ++ map (later_job plan.tasks plan.cycle n) plan.jobs

-- they are the offline jobs of those cycles
pub first_cycles-same : (plan : PlanParts) (n : ℕ) → IsPlan plan → HaveSameItems (first_cycles plan n) (offline_jobs plan.tasks plan.cycle n)
first_cycles-same plan zero is_plan = same-refl {X = Job} []
first_cycles-same plan (suc n) is_plan =
    same-append
    (first_cycles plan n)
    (offline_jobs plan.tasks plan.cycle n)
    (map (later_job plan.tasks plan.cycle n) plan.jobs)
    (cycle_jobs plan.tasks plan.cycle n)
    (first_cycles-same plan n is_plan)
    (cycle_jobs-same plan n is_plan)

-- with the jobs of the next cycle there are those of one cycle more
pub first_cycles-more : (plan : PlanParts) (n : ℕ) (jobs after : List Job) → HaveSameItems jobs (first_cycles plan n) → HaveSameItems after (jobs ++ map (later_job plan.tasks plan.cycle n) plan.jobs) → HaveSameItems after (first_cycles plan (n + 1))
first_cycles-more plan n jobs after same come =
    let more = map (later_job plan.tasks plan.cycle n) plan.jobs in
    let all = same-append jobs (first_cycles plan n) more more same (same-refl more) in
    subst (λ m. HaveSameItems after (first_cycles plan m)) (sym (add-one n)) (same-trans after (jobs ++ more) (first_cycles plan (suc n)) come all)

-- the jobs of the next cycle have keys of their own beside jobs with the same items as those before it
pub first_cycles-apart : (plan : PlanParts) (n : ℕ) (jobs : List Job) → IsPlan plan → HaveSameItems jobs (first_cycles plan n) → AreApart (jobs ++ map (later_job plan.tasks plan.cycle n) plan.jobs)
first_cycles-apart plan n jobs is_plan same =
    let set = plan.tasks in
    let cycle = plan.cycle in
    let more = map (later_job set cycle n) plan.jobs in
    let all = same-append jobs (first_cycles plan n) more more same (same-refl more) in
    let planned = same-trans (jobs ++ more) (first_cycles plan (suc n)) (offline_jobs set cycle (suc n)) all (first_cycles-same plan (suc n) is_plan) in
    AreApart-same (jobs ++ more) (offline_jobs set cycle (suc n)) planned (AreApart-from_members (offline_jobs set cycle (suc n)) (offline_jobs-apart set cycle (suc n)))

-- a plan has no more jobs than its cycle has slots
pub plan_jobs-few : (plan : PlanParts) → IsPlan plan → length plan.jobs ≤ plan.cycle
plan_jobs-few plan is_plan =
    let first = AreFirstJobs-from_plan plan is_plan in
    let few = subst (λ c. length (cycle_jobs plan.tasks c 0) ≤ c) (sym is_plan.cycle) (cycle_jobs-few plan.tasks 0 first.sound first.feasible) in
    omega (arith, length-same_items (cycle_jobs plan.tasks plan.cycle 0) plan.jobs (same-from_permutation (cycle_jobs plan.tasks plan.cycle 0) plan.jobs is_plan.jobs), few)

-- so those of the first n cycles are no more than their slots
length-first_cycles : (plan : PlanParts) (n : ℕ) → length (first_cycles plan n) ≡ n * length plan.jobs
length-first_cycles plan zero = omega arith
length-first_cycles plan (suc n) =
    let more = map (later_job plan.tasks plan.cycle n) plan.jobs in
    omega (arith, length-append (first_cycles plan n) more, length-map plan.jobs (later_job plan.tasks plan.cycle n), length-first_cycles plan n)

-- and among three cycles there is room for the next
pub first_cycles-room : (plan : PlanParts) (n : ℕ) (jobs : List Job) → IsPlan plan → n < 3 → HaveSameItems jobs (first_cycles plan n) → length jobs + length plan.jobs ≤ 3 * plan.cycle
first_cycles-room plan n jobs is_plan below same =
    let few = plan_jobs-few plan is_plan in
    let most : suc n * length plan.jobs ≤ 3 * length plan.jobs = mul-le-mul_right (length plan.jobs) below in
    omega (arith, length-same_items jobs (first_cycles plan n) same, length-first_cycles plan n)

-- none of the plan's jobs of a cycle is soft, and each has a slot left
pub plan_jobs-wait : (plan : PlanParts) (n : ℕ) → IsPlan plan → All (λ (j : Job). (is_soft j.key ≡ false) × (1 ≤ j.left)) (map (later_job plan.tasks plan.cycle n) plan.jobs)
plan_jobs-wait plan n is_plan =
    let jobs = cycle_jobs plan.tasks plan.cycle n in
    let later = map (later_job plan.tasks plan.cycle n) plan.jobs in
    let listed = (jobs-same_items jobs later).0 (same-sym later jobs (cycle_jobs-same plan n is_plan)) in
    All-permutation (λ (j : Job). (is_soft j.key ≡ false) × (1 ≤ j.left)) jobs later listed (next_cycle-wait plan n is_plan)
