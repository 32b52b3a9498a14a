use Rattle.trace_verify.proofs.Verified.{lawful-answer, named-answer, unlawful-answer}
use Rattle.trace_verify.proofs.walk.verify.Goals as goal

pub returns : goal.returns
returns c =
    record {
      told = c.checked.ensures;
      lawful = lawful-answer c.args.plan.now c.args.arrivals.now c.args.slots c.args.text.now c.checked.result c.tasks-tasks.ensures.plan c.checked.ensures;
      unlawful = unlawful-answer c.args.plan.now c.args.arrivals.now c.args.slots c.args.text.now c.checked.result c.tasks-tasks.ensures.plan c.requires.few c.requires.fitting c.checked.ensures;
      named = named-answer c.args.plan.now c.args.arrivals.now c.args.slots c.args.text.now c.checked.result c.tasks-tasks.ensures.plan c.requires.fitting c.checked.ensures;
    }
