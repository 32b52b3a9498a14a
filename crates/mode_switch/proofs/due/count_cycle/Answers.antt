-- One more job of the cycle is counted.
use Rattle.std.proofs.Common.{length, map, ap, arith}
use Rattle.std.proofs.lemmas.List.{take_all}
use Rattle.slot_core.specs.Offline.OfflineJobs.{later_job}
use Rattle.slot_core.specs.Runs.Demand.{work_by}
use Rattle.slot_facts.proofs.Plans.Items.{plan_cycle-bounds}
use Rattle.scene_steps.proofs.Starts.FirstJobs.{plan_jobs-few}
use Rattle.mode_switch.proofs.DueSums.{work_by-one_more, work_by-cycle}
use Rattle.mode_switch.proofs.due.count_cycle.Goals as goal

pub count-requires : goal.count-requires
count-requires c =
    let plan = c.args.plan.now in
    let own = c.jobs-place-end.ensures in
    omega (arith, c.loop-place.invariant.small, c.requires.small, plan_jobs-few plan own.plan, plan_cycle-bounds plan own.plan, ap length own.jobs)

pub loop-place-preserved : goal.loop-place-preserved
loop-place-preserved c =
    let plan = c.args.plan.now in
    let own = c.jobs-place-end.ensures in
    let inv = c.loop-place.invariant in
    let counted = c.count.ensures in
    record {
      len = omega (arith, counted.len, inv.len);
      sums = λ x short.
          omega (arith, counted.sums x (omega (arith, inv.len)), inv.sums x short, work_by-one_more (later_job plan.tasks plan.cycle c.args.n) plan.jobs c.loop-place.place x c.job_in_cycle-job.result (omega (arith, ap length own.jobs)) c.job_in_cycle-job.ensures);
      small = omega (arith, counted.small, inv.small);
    }

pub returns : goal.returns
returns c =
    let plan = c.args.plan.now in
    let own = c.jobs-place-end.ensures in
    let inv = c.loop-place.invariant in
    let all = take_all c.loop-place.place plan.jobs (omega (arith, ap length own.jobs)) in
    let few = plan_jobs-few plan own.plan in
    let bounds = plan_cycle-bounds plan own.plan in
    record {
      len = inv.len;
      sums = λ x short.
          omega (
            arith,
            inv.sums x short,
            ap (λ js. work_by (map (later_job plan.tasks plan.cycle c.args.n) js) x) all,
            work_by-cycle plan c.args.n x own.plan,
          );
      small = omega (arith, inv.small, few, bounds, ap length own.jobs);
    }
