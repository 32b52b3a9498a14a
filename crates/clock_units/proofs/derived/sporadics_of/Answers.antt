use Rattle.std.proofs.Common.{sym, arith, rules}
use Rattle.std.proofs.lemmas.Grind.{common_steps}
use Rattle.clock_units.specs.Derived.{sporadic_of}
use Rattle.clock_units.proofs.EachLoop.{each-more}
use Rattle.clock_units.proofs.derived.sporadics_of.Goals as goal

pub loop-s-preserved : goal.loop-s-preserved
loop-s-preserved c =
    rw c.in_ok-push.ensures.ok (each-more (sporadic_of c.args.slot c.args.worth) c.args.physical.now c.loop-s.s c.index-physical-s.result _ _ _ c.loop-s-test.true c.index-physical-s.is (sym c.in_ok-sporadic.ensures) c.loop-s.invariant)

pub returns-in_err-push : goal.returns-in_err-push
returns-in_err-push c = search rules

pub returns-in_err-sporadic : goal.returns-in_err-sporadic
returns-in_err-sporadic c = grind (arith, common_steps)

pub returns : goal.returns
returns c = grind (arith, common_steps)
