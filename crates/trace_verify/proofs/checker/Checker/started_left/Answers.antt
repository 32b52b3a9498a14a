use Rattle.std.proofs.Common.{sym}
use Rattle.trace_verify.proofs.CheckerAnswers.{started-found, started-other}
use Rattle.trace_verify.proofs.checker.Checker.started_left.Goals as goal

pub returns-in-Some : goal.returns-in-Some
returns-in-Some c =
    started-found c.args.key c.args.self.now _ c.items.result.now c.started_left.result c.in-Some.left (sym c.self.view_is) c.items.ensures c.started_left.ensures c.in-Some.is

pub returns-in-None : goal.returns-in-None
returns-in-None c =
    started-other c.args.key c.args.self.now _ c.items.result.now c.deref.result.now c.started_left.result _ (sym c.self.view_is) c.items.ensures c.deref.ensures.value c.started_left.ensures c.in-None.is c.started_soft_left.ensures
