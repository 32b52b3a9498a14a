use Rattle.std.proofs.Common.{◌∙◌, arith}
use Rattle.spare_capacity.proofs.Steps.{CanRefill-before, refilled_before}
use Rattle.spare_capacity.proofs.fill_front.Goals as goal

pub refill-requires-clause-short : goal.refill-requires-clause-short
refill-requires-clause-short c =
    CanRefill-before c.args.rows.now c.loop-at.rows c.loop-at.at c.loop-at-test.true (omega arith) c.requires.few c.requires.consecutive c.loop-at.invariant

pub loop-at-preserved : goal.loop-at-preserved
loop-at-preserved c =
    c.refill.ensures ∙ refilled_before c.args.rows.now c.loop-at.rows c.loop-at.at c.loop-at-test.true (omega arith) c.loop-at.invariant
