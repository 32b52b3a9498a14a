-- The numbers of a plan.
use Rattle.std.proofs.Common.{◌≡◌, ℕ, List, length, ap, ◌∙◌}
use Rattle.std.proofs.lemmas.List.Sorted.{length_permutation}
use Rattle.slot_core.specs.Output.Reports.{check_line, counts_line}
use Rattle.slot_core.specs.declared.jobs.Job.{Job}
use Rattle.slot_core.specs.declared.jobs.Span.{Span}
use Rattle.slot_core.specs.Sets.Cycles.{cycle_of}
use Rattle.slot_core.specs.Offline.OfflineJobs.{cycle_jobs}
use Rattle.slot_core.specs.Keeping.Plans.{PlanParts, IsPlan, plan_spans}

-- the numbers of a plan are those that a check tells of its set
pub check_line-from_plan : (plan : PlanParts) (cycle : ℕ) (jobs : List Job) (spans : List Span) → IsPlan plan → cycle ≡ plan.cycle → jobs ≡ plan.jobs → spans ≡ plan.spans → counts_line cycle (length jobs) (length spans) ≡ check_line plan.tasks
check_line-from_plan plan cycle jobs spans is same_cycle same_jobs same_spans =
    let tasks = plan.tasks in
    let lasts : cycle ≡ cycle_of tasks = same_cycle ∙ is.cycle in
    let jobs_told : length jobs ≡ length (cycle_jobs tasks (cycle_of tasks) 0) = ap length same_jobs ∙ length_permutation (cycle_jobs tasks plan.cycle 0) plan.jobs is.jobs ∙ ap (λ n. length (cycle_jobs tasks n 0)) is.cycle in
    let spans_told : length spans ≡ length (plan_spans tasks (cycle_of tasks)) = ap length (same_spans ∙ is.spans) ∙ ap (λ n. length (plan_spans tasks n)) is.cycle in
    ap (λ n. counts_line n (length jobs) (length spans)) lasts ∙ ap (λ n. counts_line (cycle_of tasks) n (length spans)) jobs_told ∙ ap (λ n. counts_line (cycle_of tasks) (length (cycle_jobs tasks (cycle_of tasks) 0)) n) spans_told
