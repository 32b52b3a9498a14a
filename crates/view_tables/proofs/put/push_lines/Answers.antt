-- The rows of one more line are appended.
use Rattle.std.proofs.Common.{◌++◌, List, Some, take, ap, ◌∙◌}
use Rattle.csv_table.specs.Tables.{rows_text}
use Rattle.trace_lines.specs.declared.line.TraceLine.{TraceLine}
use Rattle.view_tables.specs.Tables.{rows_from}
use Rattle.view_tables.proofs.LineTexts.{line_rows-more}
use Rattle.view_tables.proofs.put.push_lines.Goals as goal

pub loop-i-preserved : goal.loop-i-preserved
loop-i-preserved c text is =
    let lines : List TraceLine = c.args.lines.now in
    let line : TraceLine = c.index-lines-i.result in
    let i = c.loop-i.i in
    let n = c.args.number in
    let before = rows_from c.args.table n (take i lines) in
    let pushed = c.in_ok-push_line.ensures (text ++ rows_text before) (c.loop-i.invariant text is) in
    let more = line_rows-more c.args.table text n lines i line c.loop-i-test.true c.index-lines-i.is in
    pushed ∙ ap (λ t. Some t) more
