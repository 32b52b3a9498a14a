-- The row of one more span is appended.
use Rattle.std.proofs.Common.{◌≡◌, ◌+◌, ◌++◌, List, Some, map, take, get_or, pos, ap, ◌∙◌, arith}
use Rattle.std.proofs.lemmas.List.{get_or_default}
use Rattle.std.specs.List.{enumerate_from}
use Rattle.csv_table.specs.Tables.{rows_text}
use Rattle.trace_lines.specs.declared.line.TraceLine.{TraceLine}
use Rattle.trace_lines.specs.declared.line.ShownSpan.{ShownSpan}
use Rattle.view_tables.specs.LineRows.{span_fields}
use Rattle.view_tables.proofs.LineTexts.{span_rows-more}
use Rattle.view_tables.proofs.spans.push_spans.Goals as goal

pub loop-i-preserved : goal.loop-i-preserved
loop-i-preserved c text is =
    let line : TraceLine = c.args.line.now in
    let spans : List ShownSpan = c.items-spans.result.now in
    let i = c.loop-i.i in
    let before = map (span_fields c.args.number line) (enumerate_from 1 (take i spans)) in
    let pushed = c.in_ok-push.ensures.text (text ++ rows_text before) (c.loop-i.invariant text is) in
    let span : ShownSpan = get_or spans i (record { start = 0; end = 0; spare = pos 0 }) in
    let next : i + 1 ≡ 1 + i = omega arith in
    let fields = c.span_cells-cells.ensures ∙ ap (λ k. span_fields c.args.number line (k, span)) next in
    let there = get_or_default spans i (record { start = 0; end = 0; spare = pos 0 }) span c.loop-i-test.true in
    pushed ∙ ap (λ t. Some t) (span_rows-more text c.args.number line spans i span c.span_cells-cells.result c.loop-i-test.true there fields)
