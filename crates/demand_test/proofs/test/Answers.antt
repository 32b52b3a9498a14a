use Rattle.std.proofs.Common.{◌≡◌, ℕ, List, Result, arith}
use Rattle.std.specs.Prelude.{IfOk}
use Rattle.std.proofs.lemmas.Result.{IfOk-weaker}
use Rattle.slot_core.specs.declared.jobs.Job.{Job}
use Rattle.slot_core.specs.declared.tasks.Sporadic.{Sporadic}
use Rattle.slot_core.specs.declared.tasks.TaskSet.{TaskSet}
use Rattle.slot_core.specs.Feasibility.Feasible.{counterexample_in}
use Rattle.slot_facts.proofs.Offline.Jobs.{cycle-positive}
use Rattle.demand_test.specs.declared.Verdict.{Verdict}
use Rattle.demand_test.specs.Verdicts.{verdict_of, AreOfSet, MeansSchedules}
use Rattle.demand_test.proofs.Schedules.{MeansSchedules-from_verdict}
use Rattle.demand_test.proofs.test.Goals as goal

-- the verdict that the windows give means schedules
schedules : {E : Type 0} (r : Result Verdict E) (jobs : List Job) (ss : List Sporadic) (cycle : ℕ) → IfOk r (λ v. v ≡ verdict_of (counterexample_in jobs ss cycle)) → IfOk r (λ v. (set : TaskSet) → AreOfSet set jobs ss cycle → MeansSchedules set v)
schedules r jobs ss cycle h =
    IfOk-weaker r (λ v. v ≡ verdict_of (counterexample_in jobs ss cycle)) (λ v. (set : TaskSet) → AreOfSet set jobs ss cycle → MeansSchedules set v) (λ v is set these. MeansSchedules-from_verdict set jobs ss cycle v these is) h

-- the cycle of a set is not empty
pub returns-then-cycle-eq0-clause-schedules : goal.returns-then-cycle-eq0-clause-schedules
returns-then-cycle-eq0-clause-schedules c =
    λ set these. absurd (omega (arith, c.if-cycle-eq0.true, these.whole, cycle-positive set these.sound))

pub returns-then-are_in_order-clause-schedules : goal.returns-then-are_in_order-clause-schedules
returns-then-are_in_order-clause-schedules c =
    schedules c.test_ordered.result c.args.jobs.now c.args.sporadics.now c.args.cycle c.test_ordered.ensures

pub returns-clause-schedules : goal.returns-clause-schedules
returns-clause-schedules c =
    schedules c.test_sorted.result c.args.jobs.now c.args.sporadics.now c.args.cycle c.test_sorted.ensures
