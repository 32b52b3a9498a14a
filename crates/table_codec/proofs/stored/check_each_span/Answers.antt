use Rattle.std.proofs.lemmas.Result.{err_from_is_err_and}
use Rattle.faults.specs.declared.table_fault.TableFault.TheVariants.{WrongSpan}
use Rattle.table_codec.specs.Grammar.{is_same_span, span_form}
use Rattle.table_codec.specs.Readers.{same_at}
use Rattle.table_codec.proofs.SameSteps.{ends}
use Rattle.std.proofs.Common.{arith}
use Rattle.std.proofs.lemmas.Grind.{common_steps}
use Rattle.table_codec.proofs.stored.check_each_span.Goals as goal

pub returns-in_err-stored : goal.returns-in_err-stored
returns-in_err-stored c =
    let all = same_at (span_form c.args.layout).read is_same_span WrongSpan 0 c.args.spans.now c.args.input.now in
    let p = err_from_is_err_and c.from_residual.result c.from_residual.ensures.1 in
    rw (p.1, p.2) (ends (span_form c.args.layout).read is_same_span WrongSpan c.args.spans.now c.loop-place.place c.in_err-stored.field-0.0 c.loop-place.input all c.loop-place-test.true c.in_err-stored.ensures c.loop-place.invariant)

pub returns-then-not-is_same_span : goal.returns-then-not-is_same_span
returns-then-not-is_same_span c = grind (arith, common_steps)

pub loop-place-preserved : goal.loop-place-preserved
loop-place-preserved c = grind (arith, common_steps)

pub returns : goal.returns
returns c = grind (arith, common_steps)
