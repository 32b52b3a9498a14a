use Rattle.std.proofs.Common.{◌∷◌, ◌++◌, fold, length, sym, ap, ◌∙◌, subst, arith}
use Rattle.std.specs.Prelude.{count_by, filter, nat_lt}
use Rattle.std.specs.List.Sorted.{IsNonDecreasingBy}
use Rattle.std.specs.Option.{option_copied}
use Rattle.std.proofs.lemmas.Bool.{cond-false}
use Rattle.std.proofs.lemmas.List.Sorted.{IsNonDecreasingBy-drop}
use Rattle.slot_core.specs.declared.jobs.Job.{Job}
use Rattle.job_queue.specs.Starts.{sooner, starts_within}
use Rattle.job_queue.proofs.Starts.{soon-more, sooner-ordered, within-ordered}
use Rattle.job_queue.proofs.queue.first_listed.Goals as goal

pub loop-job-preserved : goal.loop-job-preserved
loop-job-preserved g c =
    let start = λ (j : Job). j.est in
    let soons = λ (j : Job). nat_lt j.est c.args.until in
    let passes = starts_within c.args.now c.args.until (option_copied c.args.other) in
    let job = c.in-Some.job.now in
    let rest = c.next.new.self.head.now ++ c.next.new.self.wrapped.now in
    let parts = c.in-Some.ensures.steps in
    let skipped = cond-false (passes job) (job ∷ filter passes rest) (filter passes rest) (sym c.starts_within.ensures ∙ c.if-starts_within.false) in
    record {
      passed = ap (fold sooner c.args.start) (sym (ap (filter passes) parts ∙ skipped)) ∙ c.loop-job.invariant.passed;
      ordered = IsNonDecreasingBy-drop start 1 (job ∷ rest) (subst (IsNonDecreasingBy start) parts c.loop-job.invariant.ordered);
      risen = omega arith;
      soon = omega (arith, soon-more c.args.until job rest c.if-until-job.false, ap (count_by soons) parts, c.loop-job.invariant.soon);
      counted = omega (arith, ap length parts);
    }

pub returns-then-until-job : goal.returns-then-until-job
returns-then-until-job g c =
    let soons = λ (j : Job). nat_lt j.est c.args.until in
    let passes = starts_within c.args.now c.args.until (option_copied c.args.other) in
    let job = c.in-Some.job.now in
    let rest = c.next.new.self.head.now ++ c.next.new.self.wrapped.now in
    let parts = c.in-Some.ensures.steps in
    let ordered = subst (IsNonDecreasingBy (λ (j : Job). j.est)) parts c.loop-job.invariant.ordered in
    let none = within-ordered c.args.now c.args.until (option_copied c.args.other) job rest ordered c.if-until-job.true in
    record {
      start = sym (ap (fold sooner c.args.start) (ap (filter passes) parts ∙ none)) ∙ c.loop-job.invariant.passed;
      steps = omega arith;
      few_steps = omega (arith, ap length parts);
      soon = omega (arith, c.loop-job.invariant.soon);
    }

pub returns-then-starts_within : goal.returns-then-starts_within
returns-then-starts_within g c =
    let soons = λ (j : Job). nat_lt j.est c.args.until in
    let passes = starts_within c.args.now c.args.until (option_copied c.args.other) in
    let job = c.in-Some.job.now in
    let rest = c.next.new.self.head.now ++ c.next.new.self.wrapped.now in
    let parts = c.in-Some.ensures.steps in
    let ordered = subst (IsNonDecreasingBy (λ (j : Job). j.est)) parts c.loop-job.invariant.ordered in
    let first = sooner-ordered passes c.args.start job rest ordered (sym c.starts_within.ensures ∙ c.if-starts_within.true) in
    record {
      start = c.sooner.ensures ∙ sym (ap (λ js. fold sooner c.args.start (filter passes js)) parts ∙ first) ∙ c.loop-job.invariant.passed;
      steps = omega (arith, ap length parts);
      few_steps = omega (arith, ap length parts);
      soon = omega (arith, c.loop-job.invariant.soon);
    }
