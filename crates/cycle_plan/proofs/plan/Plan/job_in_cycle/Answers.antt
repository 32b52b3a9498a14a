-- The job at the place is one of the first cycle.
use Rattle.std.proofs.Common.{◌≡◌, ℕ, ◌<◌, length, get_or, Some, refl, ap, sym, subst, arith}
use Rattle.std.specs.Prelude.{slice_get, IfSome}
use Rattle.std.proofs.lemmas.List.Elements.{All-get_or}
use Rattle.std.proofs.lemmas.Option.{slice_get_read}
use Rattle.slot_core.specs.declared.jobs.Job.{Job}
use Rattle.slot_core.specs.Offline.OfflineJobs.{later_job}
use Rattle.slot_core.specs.Keeping.Plans.{PlanParts, IsPlan}
use Rattle.slot_facts.proofs.Offline.Jobs.{cycle-at_most}
use Rattle.cycle_plan.specs.NearJobs.{IsNear}
use Rattle.cycle_plan.proofs.NearJobFacts.{all_near}
use Rattle.interval_build.proofs.FirstJobFacts.{AreFirstJobs-from_plan}
use Rattle.cycle_plan.proofs.plan.Plan.job_in_cycle.Goals as goal

-- a job of a plan is near
near_at : (plan : PlanParts) (i : ℕ) (job : Job) → IsPlan plan → i < length plan.jobs → job ≡ get_or plan.jobs i job → IsNear job
near_at plan i job is_plan within at =
    subst IsNear (sym at) (All-get_or IsNear plan.jobs i job within (all_near plan.tasks plan.jobs (AreFirstJobs-from_plan plan is_plan)))

-- what holds of the job read at a place holds of what stands there
later_at : (plan : PlanParts) (i cycles : ℕ) (job result : Job) → i < length plan.jobs → job ≡ get_or plan.jobs i job → result ≡ later_job plan.tasks plan.cycle cycles job → IfSome (slice_get plan.jobs i) (λ j. result ≡ later_job plan.tasks plan.cycle cycles j)
later_at plan i cycles job result within at later =
    let read : slice_get plan.jobs i ≡ Some job = slice_get_read plan.jobs (length plan.jobs) i job refl within at in
    rw read later

pub later_job-requires-clause-cycle : goal.later_job-requires-clause-cycle
later_job-requires-clause-cycle c =
    omega (arith, c.self.invariant.is_plan.cycle, cycle-at_most c.self.inside.tasks c.self.invariant.is_plan.sound)

pub later_job-requires-clause-near : goal.later_job-requires-clause-near
later_job-requires-clause-near c =
    let plan : PlanParts = record { tasks = c.self.inside.tasks; cycle = c.self.inside.cycle; jobs = c.self.inside.jobs.items; spans = c.self.inside.spans.items } in
    let same = ap (λ (p : PlanParts). length p.jobs) c.self.view_is in
    near_at plan c.args.i c.index.result.now c.self.invariant.is_plan (omega (arith, same, c.requires.place)) c.index.ensures

pub returns : goal.returns
returns c =
    let plan : PlanParts = record { tasks = c.self.inside.tasks; cycle = c.self.inside.cycle; jobs = c.self.inside.jobs.items; spans = c.self.inside.spans.items } in
    let same = ap (λ (p : PlanParts). length p.jobs) c.self.view_is in
    let here = later_at plan c.args.i c.args.cycles c.index.result.now c.later_job.result (omega (arith, same, c.requires.place)) c.index.ensures c.later_job.ensures in
    subst (λ (p : PlanParts). IfSome (slice_get p.jobs c.args.i) (λ job. c.later_job.result ≡ later_job p.tasks p.cycle c.args.cycles job)) c.self.view_is here
