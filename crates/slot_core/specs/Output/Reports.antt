-- What the commands other than a replay print.
use Rattle.std.specs.Prelude.{ℕ, List, [], ◌∷◌, ◌++◌, codes, length, flat_map}
use Rattle.std.specs.Fmt.{signed_decimal}
use Rattle.slot_core.specs.declared.jobs.Job.{Job}
use Rattle.slot_core.specs.declared.jobs.Span.{Span}
use Rattle.slot_core.specs.declared.tasks.TaskSet.{TaskSet}
use Rattle.slot_core.specs.Sets.Cycles.{cycle_of}
use Rattle.slot_core.specs.Offline.OfflineJobs.{cycle_jobs}
use Rattle.slot_core.specs.Keeping.Plans.{PlanParts, plan_spans}
use Rattle.slot_core.specs.Output.Texts.{worded, key_text}

-- the line of a check, by its numbers: the cycle, the jobs and the spans of one cycle
abbrev pub counts_line : ℕ → ℕ → ℕ → List ℕ
counts_line cycle jobs spans =
    worded (codes "feasible cycle") cycle
    ++ worded (codes " jobs") jobs
    ++ worded (codes " spans") spans
    ++ 10 ∷ []

-- the line of the check of a set, with the numbers of its plan
abbrev pub check_line : TaskSet → List ℕ
check_line set =
    let cycle = cycle_of set in
    counts_line cycle (length (cycle_jobs set cycle 0)) (length (plan_spans set cycle))

-- the first line of a shown plan: its cycle, its soft limit, and how many graphs, sporadic tasks,
-- jobs and spans it has
abbrev pub plan_line : PlanParts → List ℕ
plan_line plan =
    worded (codes "plan cycle") plan.cycle
    ++ worded (codes " soft") plan.tasks.soft_limit
    ++ worded (codes " graphs") (length plan.tasks.graphs)
    ++ worded (codes " sporadics") (length plan.tasks.sporadics)
    ++ worded (codes " jobs") (length plan.jobs)
    ++ worded (codes " spans") (length plan.spans)
    ++ 10 ∷ []

-- job, its key, derived start and deadline, declared slots
abbrev pub job_line : TaskSet → Job → List ℕ
job_line set job =
    worded (worded (worded (codes "job " ++ key_text set job.key) job.est) job.dl) job.declared
    ++ 10 ∷ []

-- span, its start, end, work and capacity
abbrev pub span_line : Span → List ℕ
span_line span =
    worded (worded (worded (codes "span") span.start) span.end) span.work
    ++ 32 ∷ signed_decimal span.spare
    ++ 10 ∷ []

-- a shown plan: its numbers, its jobs in deadline order, and its spans
abbrev pub show_text : PlanParts → List ℕ
show_text plan =
    plan_line plan ++ flat_map (job_line plan.tasks) plan.jobs ++ flat_map span_line plan.spans
