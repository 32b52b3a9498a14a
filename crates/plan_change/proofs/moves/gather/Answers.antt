-- One more job is listed or not.
use Rattle.std.proofs.Common.{◌++◌, ◌∷◌, [], filter, length, List, sym, take, ap, ◌∙◌, arith}
use Rattle.slot_core.specs.declared.jobs.Job.{Job}
use Rattle.slot_core.specs.declared.tasks.TaskSet.{TaskSet}
use Rattle.plan_change.specs.Carrying.{goes_on}
use Rattle.plan_change.proofs.OneMore.{filter-all, filter-more, filter-room}
use Rattle.plan_change.proofs.moves.gather.Goals as goal

pub list_one-requires : goal.list_one-requires
list_one-requires g c = λ goes.
    let jobs = c.args.from.now.scene.jobs in
    let test = goes_on c.args.keep c.args.from.now.plan.tasks c.args.at in
    let passes = ap (λ (s : TaskSet). goes_on c.args.keep s c.args.at c.job-job.result) (sym c.tasks.ensures.tasks) ∙ goes in
    omega (
      arith,
      ap (λ (js : List Job). length js) c.loop-i.invariant.listed,
      filter-room test jobs c.loop-i.i c.job-job.result c.job-job.ensures.job passes,
      c.loop-i.invariant.places,
      c.requires,
    )

pub loop-i-preserved : goal.loop-i-preserved
loop-i-preserved g c =
    let set = c.args.from.now.plan.tasks in
    let jobs = c.args.from.now.scene.jobs in
    let test = goes_on c.args.keep set c.args.at in
    let one = c.job-job.result ∷ [] in
    record {
      listed = c.list_one.ensures.items
          ∙ ap (λ (js : List Job). js ++ filter (goes_on c.args.keep c.tasks.result.now c.args.at) one) c.loop-i.invariant.listed
          ∙ ap (λ (s : TaskSet). filter test (take c.loop-i.i jobs) ++ filter (goes_on c.args.keep s c.args.at) one) c.tasks.ensures.tasks
          ∙ sym (filter-more test jobs c.loop-i.i c.job-job.result c.job-job.ensures.job);
      places = c.list_one.ensures.places ∙ c.loop-i.invariant.places;
    }

pub returns-clause-listed : goal.returns-clause-listed
returns-clause-listed g c =
    let jobs = c.args.from.now.scene.jobs in
    c.loop-i.invariant.listed
    ∙ filter-all (goes_on c.args.keep c.args.from.now.plan.tasks c.args.at) jobs c.loop-i.i (omega (arith, c.job_count-i-end.ensures.count))
