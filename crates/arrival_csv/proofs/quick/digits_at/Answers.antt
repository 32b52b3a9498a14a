use Rattle.std.proofs.Common.{sym, arith}
use Rattle.arrival_csv.proofs.QuickLemmas.{AreDigitsAt-more, digits_small}
use Rattle.arrival_csv.proofs.quick.digits_at.Goals as goal

pub overflow_mul-value : goal.overflow_mul-value
overflow_mul-value c =
    omega (arith, digits_small c.args.text.now c.args.start c.loop-end.value c.loop-end.end c.loop-end.invariant (omega (arith, c.loop-end.invariant.onward, c.loop-end-test.true)))

pub overflow_add-value : goal.overflow_add-value
overflow_add-value c =
    omega (arith, c.from.ensures, digits_small c.args.text.now c.args.start c.loop-end.value c.loop-end.end c.loop-end.invariant (omega (arith, c.loop-end.invariant.onward, c.loop-end-test.true)))

pub loop-end-preserved : goal.loop-end-preserved
loop-end-preserved c =
    AreDigitsAt-more c.args.text.now c.args.start c.loop-end.value c.loop-end.end c.from.result c.loop-end.invariant (omega (arith, c.loop-end-test.true)) (omega (arith, c.loop-end.invariant.onward, c.loop-end-test.true)) (sym c.if-is_ascii_digit.ensures.value) c.from.ensures
