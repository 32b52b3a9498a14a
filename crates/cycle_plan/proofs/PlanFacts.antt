-- What the parts of a plan keep, and what shows that they make one.
use Rattle.std.proofs.Common.{◌≡◌, ℕ, true, List, Option, Some, None, subst, refl, sym, ◌∙◌}
use Rattle.std.specs.List.Sorted.{IsPermutation}
use Rattle.std.proofs.lemmas.List.Sorted.{IsPermutation-trans}
use Rattle.slot_core.specs.declared.jobs.Job.{Job}
use Rattle.slot_core.specs.declared.jobs.Window.{Window}
use Rattle.slot_core.specs.declared.tasks.TaskSet.{TaskSet}
use Rattle.slot_core.specs.Sets.Cycles.{cycle_of}
use Rattle.slot_core.specs.Sets.Ranges.{is_sound}
use Rattle.slot_core.specs.Offline.OfflineJobs.{cycle_jobs}
use Rattle.slot_core.specs.Keeping.Plans.{AreInDeadlineOrder, PlanParts, plan_spans, IsPlan}
use Rattle.slot_core.specs.Feasibility.Feasible.{IsFeasible, counterexample}
use Rattle.demand_test.specs.declared.Verdict.{Verdict}
use Rattle.demand_test.specs.declared.Verdict.TheVariants.{Fits}
use Rattle.demand_test.specs.Verdicts.{verdict_of}
use Rattle.slot_facts.proofs.Demand.Feasible.{IsFeasible-from_none}
use Rattle.interval_build.specs.FirstJobs.{AreFirstJobs}

-- a verdict that fits says that there is no counterexample
pub none-from_fits : (o : Option Window) → Fits ≡ verdict_of o → o ≡ None
none-from_fits None e = refl
none-from_fits (Some w) e = cc

pub AreFirstJobs-from_fits : (set : TaskSet) (jobs : List Job) (cycle : ℕ) (verdict : Verdict) → is_sound set ≡ true → cycle ≡ cycle_of set → verdict ≡ verdict_of (counterexample set cycle) → verdict ≡ Fits → IsPermutation (cycle_jobs set (cycle_of set) 0) jobs → AreInDeadlineOrder jobs → AreFirstJobs set jobs
AreFirstJobs-from_fits set jobs cycle verdict sound whole tested fits listed ordered =
    let none = none-from_fits (counterexample set cycle) (sym fits ∙ tested) in
    record {
      sound = sound;
      feasible = subst (IsFeasible set) whole (IsFeasible-from_none set cycle none);
      listed = listed;
      ordered = ordered;
    }

-- the jobs in another order are those of the first cycle too
pub listed-in_order : (set : TaskSet) (cycle : ℕ) (jobs slice sorted given : List Job) → cycle ≡ cycle_of set → IsPermutation (cycle_jobs set (cycle_of set) 0) jobs → slice ≡ jobs → IsPermutation slice sorted → given ≡ sorted → IsPermutation (cycle_jobs set cycle 0) given
listed-in_order set cycle jobs slice sorted given whole listed read order same =
    let first = cycle_jobs set (cycle_of set) 0 in
    let both = IsPermutation-trans first jobs sorted listed (subst (λ xs. IsPermutation xs sorted) read order) in
    subst (λ n. IsPermutation (cycle_jobs set n 0) given) (sym whole) (subst (IsPermutation first) (sym same) both)

-- the parts make a plan
pub IsPlan-from_parts : (plan : PlanParts) → AreFirstJobs plan.tasks plan.jobs → plan.cycle ≡ cycle_of plan.tasks → plan.spans ≡ plan_spans plan.tasks plan.cycle → IsPlan plan
IsPlan-from_parts plan these whole spans =
    record {
      sound = these.sound;
      cycle = whole;
      feasible = subst (IsFeasible plan.tasks) (sym whole) these.feasible;
      jobs = subst (λ n. IsPermutation (cycle_jobs plan.tasks n 0) plan.jobs) (sym whole) these.listed;
      ordered = these.ordered;
      spans = spans;
    }
