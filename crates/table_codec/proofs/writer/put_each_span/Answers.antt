use Rattle.table_codec.specs.Grammar.{span_form}
use Rattle.table_codec.proofs.WrittenSteps.{writes_at}
use Rattle.table_codec.proofs.writer.put_each_span.Goals as goal

pub loop-span-preserved : goal.loop-span-preserved
loop-span-preserved c =
    writes_at (span_form c.args.layout).written c.args.spans.now c.loop-span.span-index _ c.args.out.now.items c.loop-span.out.items c.put_span.new.out.items c.loop-span-test.true c.loop-span.invariant c.in_ok-put_span.ensures
