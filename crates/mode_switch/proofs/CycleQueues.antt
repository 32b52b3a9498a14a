-- A queue without jobs takes those of a cycle.
use Rattle.std.proofs.Common.{◌≡◌, ℕ, suc, cond, List, [], ◌∷◌, ◌++◌, length, arith}
use Rattle.std.proofs.lemmas.List.Sums.{sum_by-append, count_by-le-length}
use Rattle.slot_core.specs.declared.jobs.Job.{Job}
use Rattle.slot_core.specs.Keeping.Kept.{AreApart}
use Rattle.slot_core.specs.Keeping.Plans.{PlanParts, IsPlan}
use Rattle.slot_core.specs.Offline.Keys.{same_key}
use Rattle.slot_core.specs.Offline.OfflineJobs.{cycle_jobs, offline_jobs}
use Rattle.slot_core.specs.Runs.Matches.{HaveSameItems}
use Rattle.slot_facts.proofs.Lists.ApartKeys.{AreApart-from_members}
use Rattle.slot_facts.proofs.Offline.DistinctKeys.{offline_jobs-apart}
use Rattle.scene_steps.proofs.Slots.NewParts.{cycle_jobs-same}
use Rattle.slot_exec.specs.Changes.{jobs_in_cycle}

-- their keys are apart
pub cycle-apart : (plan : PlanParts) (n : ℕ) (jobs : List Job) → IsPlan plan → length jobs ≡ 0 → AreApart (jobs ++ jobs_in_cycle plan n)
cycle-apart plan n jobs is_plan none = λ key.
    let test = λ (j : Job). same_key j.key key in
    let counted : Job → ℕ = λ (j : Job). cond (test j) 1 0 in
    let before = offline_jobs plan.tasks plan.cycle n in
    let own = cycle_jobs plan.tasks plan.cycle n in
    let all = AreApart-from_members (offline_jobs plan.tasks plan.cycle (suc n)) (offline_jobs-apart plan.tasks plan.cycle (suc n)) key in
    omega (
      arith,
      all,
      sum_by-append counted before own,
      sum_by-append counted jobs (jobs_in_cycle plan n),
      cycle_jobs-same plan n is_plan counted,
      count_by-le-length test jobs,
    )

-- and no others are there then
pub same-empty : (jobs more : List Job) → length jobs ≡ 0 → HaveSameItems (jobs ++ more) more
same-empty [] more none f = omega arith
same-empty (job ∷ jobs) more none f = absurd (omega arith)
