use Rattle.std.proofs.Common.{◌∷◌, ◌++◌, fold, length, sym, ap, ◌∙◌, subst, arith}
use Rattle.std.specs.List.Sorted.{IsNonDecreasingBy}
use Rattle.std.specs.Option.{option_copied}
use Rattle.std.proofs.lemmas.List.Sorted.{IsNonDecreasingBy-drop}
use Rattle.slot_core.specs.declared.jobs.Job.{Job}
use Rattle.slot_core.specs.Runs.Choice.{earlier_of, ready}
use Rattle.job_queue.proofs.ReadyJobs.{ready-first_now, ready-ordered_later}
use Rattle.job_queue.proofs.queue.earliest_listed.Goals as goal

pub loop-job-preserved : goal.loop-job-preserved
loop-job-preserved g c =
    let start = λ (j : Job). j.est in
    let now = c.args.now in
    let job = c.in-Some.job.now in
    let rest = c.next.new.self.head.now ++ c.next.new.self.wrapped.now in
    let parts = c.in-Some.ensures.steps in
    let first = ap (ready now) parts ∙ ready-first_now now job rest c.if-now-job.false in
    record {
      chosen = ap (λ best. fold earlier_of best (ready now rest)) c.earlier_of-best.ensures ∙ sym (ap (fold earlier_of (option_copied c.loop-job.best)) first) ∙ c.loop-job.invariant.chosen;
      ordered = IsNonDecreasingBy-drop start 1 (job ∷ rest) (subst (IsNonDecreasingBy start) parts c.loop-job.invariant.ordered);
      ready = omega (arith, ap length first);
      counted = omega (arith, ap length parts);
    }

pub returns-then-now-job : goal.returns-then-now-job
returns-then-now-job g c =
    let start = λ (j : Job). j.est in
    let now = c.args.now in
    let job = c.in-Some.job.now in
    let rest = c.next.new.self.head.now ++ c.next.new.self.wrapped.now in
    let parts = c.in-Some.ensures.steps in
    let ordered = subst (IsNonDecreasingBy start) parts c.loop-job.invariant.ordered in
    let none = ap (ready now) parts ∙ ready-ordered_later now job rest ordered c.if-now-job.true in
    record {
      job = sym (ap (fold earlier_of (option_copied c.loop-job.best)) none) ∙ c.loop-job.invariant.chosen;
      steps = omega (arith, ap length none);
      few_steps = omega (arith, ap length parts);
    }
