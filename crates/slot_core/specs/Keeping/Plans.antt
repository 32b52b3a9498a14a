-- The plan of a feasible set.
use Rattle.std.specs.Prelude.{◌≡◌, ℕ, true, List, [], ◌∷◌, filter, nat_le, if◌then◌else◌, IsPermutation, ⊤}
use Rattle.std.specs.List.{AllByRecursion}
use Rattle.slot_core.specs.declared.jobs.Job.{Job}
use Rattle.slot_core.specs.declared.jobs.Span.{Span}
use Rattle.slot_core.specs.declared.tasks.TaskSet.{TaskSet}
use Rattle.slot_core.specs.Offline.Keys.{is_earlier}
use Rattle.slot_core.specs.Sets.Cycles.{cycle_of}
use Rattle.slot_core.specs.Sets.Ranges.{is_sound}
use Rattle.slot_core.specs.Offline.OfflineJobs.{cycle_jobs}
use Rattle.slot_core.specs.Runs.Scenes.{scene_of}
use Rattle.slot_core.specs.Runs.Spans.{spans_of}
use Rattle.slot_core.specs.Feasibility.Feasible.{IsFeasible}

-- each job goes before all that stand after it, by deadline and then by key
abbrev pub AreInDeadlineOrder : List Job → Type 0
AreInDeadlineOrder [] = ⊤
AreInDeadlineOrder (job ∷ jobs) =
    AllByRecursion (λ other. is_earlier job other ≡ true) jobs × AreInDeadlineOrder jobs

-- what contracts see of a plan
pub record PlanParts : Type 0 where
  pub tasks : TaskSet
  pub cycle : ℕ
  pub jobs : List Job
  pub spans : List Span

-- the spans of the first cycle before the first slot
abbrev pub plan_spans : TaskSet → ℕ → List Span
plan_spans set cycle =
    filter (λ (s : Span). nat_le s.end cycle) (spans_of cycle (scene_of set cycle []))

-- the job at its place among jobs in deadline order
abbrev pub with_job : Job → List Job → List Job
with_job job [] = job ∷ []
with_job job (other ∷ jobs) =
    if is_earlier other job then other ∷ with_job job jobs else job ∷ other ∷ jobs

-- the jobs in deadline order
abbrev pub in_deadline_order : List Job → List Job
in_deadline_order [] = []
in_deadline_order (job ∷ jobs) = with_job job (in_deadline_order jobs)

-- the plan of a feasible set
abbrev pub planned : TaskSet → PlanParts
planned set = record {
  tasks = set;
  cycle = cycle_of set;
  jobs = in_deadline_order (cycle_jobs set (cycle_of set) 0);
  spans = plan_spans set (cycle_of set);
}

-- a plan is a sound and feasible set with its cycle, the offline jobs of the first cycle in
-- deadline order, and the spans of the first cycle
pub record IsPlan (plan : PlanParts) : Type 0 where
  pub sound : is_sound plan.tasks ≡ true
  pub cycle : plan.cycle ≡ cycle_of plan.tasks
  pub feasible : IsFeasible plan.tasks plan.cycle
  pub jobs : IsPermutation (cycle_jobs plan.tasks plan.cycle 0) plan.jobs
  pub ordered : AreInDeadlineOrder plan.jobs
  pub spans : plan.spans ≡ plan_spans plan.tasks plan.cycle
