use Rattle.std.proofs.Common.{sym, refl, arith}
use Rattle.slot_facts.proofs.Plans.Items.{plan_cycle-bounds}
use Rattle.trace_verify.proofs.CheckerAnswers.{firm-stays, offer-told}
use Rattle.trace_verify.proofs.checker.Checker.take_firm.Goals as goal

pub offer_answer-answer-requires-clause-cycle : goal.offer_answer-answer-requires-clause-cycle
offer_answer-answer-requires-clause-cycle c =
    omega (arith, c.cycle.ensures.cycle, plan_cycle-bounds c.args.plan.now c.cycle.ensures.plan)

pub returns-in_ok-accept-clause-told : goal.returns-in_ok-accept-clause-told
returns-in_ok-accept-clause-told c =
    offer-told c.args.plan.now.tasks.sporadics c.args.self.now _ c.self.inside.jobs c.cycle.result c.args.plan.now.cycle c.args.slots c.args.within c.offer_answer-answer.result (sym c.self.view_is) refl c.cycle.ensures.cycle c.requires.tasks c.offer_answer-answer.ensures

pub returns-in_default : goal.returns-in_default
returns-in_default c =
    let plan = c.args.plan.now in
    record {
      told = offer-told plan.tasks.sporadics c.args.self.now _ c.self.inside.jobs c.cycle.result plan.cycle c.args.slots c.args.within c.offer_answer-answer.result (sym c.self.view_is) refl c.cycle.ensures.cycle c.requires.tasks c.offer_answer-answer.ensures;
      scene = firm-stays plan.tasks plan.cycle c.args.row c.args.slots c.args.within c.offer_answer-answer.result c.args.self.now.scene c.in_default.not-Accepted;
      tasks = refl;
    }
