use Rattle.table_codec.specs.Grammar.{sporadic_form}
use Rattle.table_codec.proofs.WrittenSteps.{writes_on}
use Rattle.std.proofs.Common.{arith, rules}
use Rattle.std.proofs.lemmas.Grind.{common_steps}
use Rattle.table_codec.proofs.writer.put_sporadics.Goals as goal

pub loop-sporadic-preserved : goal.loop-sporadic-preserved
loop-sporadic-preserved c =
    writes_on (sporadic_form c.args.layout 0).written c.args.sporadics.now c.loop-sporadic.sporadic-index c.sporadic-item.result c.args.out.now.items c.loop-sporadic.out.items c.put_sporadic.new.out.items c.loop-sporadic-test.true c.sporadic-item.is c.loop-sporadic.invariant c.in_ok-put_sporadic.ensures

pub returns-in_err-put_sporadic : goal.returns-in_err-put_sporadic
returns-in_err-put_sporadic c = search rules

pub put_sporadic-requires : goal.put_sporadic-requires
put_sporadic-requires c = grind (arith, common_steps)

pub returns : goal.returns
returns c = grind (arith, common_steps)
