-- The parts of the plan agree.
use Rattle.std.proofs.Common.{◌≡◌, rules, subst, sym}
use Rattle.std.proofs.lemmas.Bool.{and_parts}
use Rattle.slot_core.specs.Sets.Cycles.{cycle_of}
use Rattle.slot_core.specs.Feasibility.Feasible.{IsFeasible}
use Rattle.slot_core.specs.Keeping.Plans.{PlanParts}
use Rattle.slot_facts.proofs.Offers.Verdicts.{feasible_sets_can_be_served_for_ever}
use Rattle.demand_test.proofs.Schedules.{unserved-from_some}
use Rattle.graph_unroll.proofs.RangeLemmas.{lengths_in_range}
use Rattle.interval_build.specs.FirstJobs.{AreFirstJobs}
use Rattle.cycle_plan.proofs.PlanFacts.{IsPlan-from_parts}
use Rattle.cycle_plan.proofs.plan.make_plan.Goals as goal

pub cycle_of-requires : goal.cycle_of-requires
cycle_of-requires c = lengths_in_range c.args.tasks (and_parts _ _ c.requires).0

pub build-requires : goal.build-requires
build-requires c =
    let whole : c.unwrap-cycle.result ≡ cycle_of c.args.tasks = search rules in
    record {
      tasks = c.args.tasks;
      whole = whole;
      listed = subst (AreFirstJobs c.args.tasks) (sym c.deref.ensures.value) c.in_ok-jobs.ensures.listed;
    }

pub invariant_of-result : goal.invariant_of-result
invariant_of-result c =
    let whole : c.unwrap-cycle.result ≡ cycle_of c.args.tasks = search rules in
    let these = c.in_ok-jobs.ensures.listed in
    let plan : PlanParts = record { tasks = c.args.tasks; cycle = c.unwrap-cycle.result; jobs = c.in_ok-jobs.jobs.items; spans = c.in_ok-spans.spans.items } in
    let built = subst (AreFirstJobs c.args.tasks) (sym c.deref.ensures.value) these in
    record {
      is_plan = IsPlan-from_parts plan these whole (c.in_ok-spans.ensures.spans c.args.tasks whole built);
      listed = c.in_ok-jobs.ensures.by_start;
      ordered = c.in_ok-jobs.ensures.ordered;
    }

pub returns-clause-plan : goal.returns-clause-plan
returns-clause-plan c = (invariant_of-result c).is_plan

pub returns-clause-schedules : goal.returns-clause-schedules
returns-clause-schedules c = λ cycles.
    let plan = (invariant_of-result c).is_plan in
    feasible_sets_can_be_served_for_ever c.args.tasks cycles plan.sound (subst (IsFeasible c.args.tasks) plan.cycle plan.feasible)

-- the window is the counterexample
pub returns-in_err-jobs-clause-infeasible : goal.returns-in_err-jobs-clause-infeasible
returns-in_err-jobs-clause-infeasible c = search rules

pub returns-in_err-jobs-clause-none : goal.returns-in_err-jobs-clause-none
returns-in_err-jobs-clause-none c =
    λ w is. unserved-from_some c.args.tasks w c.requires (returns-in_err-jobs-clause-infeasible c w is)
