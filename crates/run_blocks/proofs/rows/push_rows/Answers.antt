-- One line more has its row, until there are too many.
use Rattle.std.proofs.Common.{◌+◌, List, take, sym, subst, arith}
use Rattle.trace_lines.specs.declared.line.TraceLine.{TraceLine}
use Rattle.trace_lines.specs.Traces.{runs_of}
use Rattle.run_blocks.specs.declared.rows.Row.{Row}
use Rattle.run_blocks.specs.Rows.{AreRowsSoFar}
use Rattle.run_blocks.proofs.FirmCounts.{runs-more}
use Rattle.run_blocks.proofs.rows.push_rows.Goals as goal

pub returns-then-len-gt-ROW_LIMIT-clause-too_many : goal.returns-then-len-gt-ROW_LIMIT-clause-too_many
returns-then-len-gt-ROW_LIMIT-clause-too_many c = λ same.
    let lines : List TraceLine = c.args.lines.now in
    let i = c.loop-line.line-index in
    let rows : List Row = c.push_row_of.new.rows.items in
    let asked = c.in_ok-push_row_of.ensures (runs_of (take i lines)) c.loop-line.invariant.rows in
    record {
      count = i + 1;
      rows = rows;
      asked = subst (AreRowsSoFar c.args.apart rows) (sym (runs-more lines i c.line-item.result c.loop-line-test.true c.line-item.is)) asked;
      many = omega (arith, sym c.len.ensures, c.if-len-gt-ROW_LIMIT.true);
    }

pub loop-line-preserved : goal.loop-line-preserved
loop-line-preserved c =
    let lines : List TraceLine = c.args.lines.now in
    let i = c.loop-line.line-index in
    let rows : List Row = c.push_row_of.new.rows.items in
    let asked = c.in_ok-push_row_of.ensures (runs_of (take i lines)) c.loop-line.invariant.rows in
    record {
      rows = subst (AreRowsSoFar c.args.apart rows) (sym (runs-more lines i c.line-item.result c.loop-line-test.true c.line-item.is)) asked;
      few = omega (arith, sym c.len.ensures, c.if-len-gt-ROW_LIMIT.false);
    }
