-- One line more, until there are too many.
use Rattle.std.proofs.Common.{◌≡◌, ◌<◌, ◌+◌, List, ℕ, [], length, take, sym, arith}
use Rattle.trace_lines.specs.declared.line.TraceLine.{TraceLine}
use Rattle.trace_lines.specs.Traces.{runs_of}
use Rattle.run_blocks.specs.declared.TheConstants.{FIRM_ROW_LIMIT}
use Rattle.run_blocks.specs.Rows.{firms_from}
use Rattle.run_blocks.proofs.FirmCounts.{firms-more, many-firms}
use Rattle.run_blocks.proofs.rows.has_few_firm_jobs.Goals as goal

pub returns-then-len-gt-FIRM_ROW_LIMIT : goal.returns-then-len-gt-FIRM_ROW_LIMIT
returns-then-len-gt-FIRM_ROW_LIMIT c =
    let lines : List TraceLine = c.args.lines.now in
    let i = c.loop-line.line-index in
    let firms : List ℕ = c.push_firm_of.new.firms.items in
    let seen : firms ≡ firms_from [] (runs_of (take (i + 1) lines)) = firms-more lines i c.line-item.result c.loop-line.firms.items firms c.loop-line-test.true c.line-item.is c.loop-line.invariant.seen c.in_ok-push_firm_of.ensures in
    let many : FIRM_ROW_LIMIT < length firms = omega (arith, sym c.len.ensures, c.if-len-gt-FIRM_ROW_LIMIT.true) in
    sym (many-firms lines (i + 1) firms seen many)

pub loop-line-preserved : goal.loop-line-preserved
loop-line-preserved c =
    let lines : List TraceLine = c.args.lines.now in
    let i = c.loop-line.line-index in
    let firms : List ℕ = c.push_firm_of.new.firms.items in
    record {
      seen = firms-more lines i c.line-item.result c.loop-line.firms.items firms c.loop-line-test.true c.line-item.is c.loop-line.invariant.seen c.in_ok-push_firm_of.ensures;
      few = omega (arith, sym c.len.ensures, c.if-len-gt-FIRM_ROW_LIMIT.false);
    }
