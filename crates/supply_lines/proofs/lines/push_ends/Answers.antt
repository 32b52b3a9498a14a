-- One line more.
use Rattle.std.proofs.Common.{◌++◌, get_or, sym, ap, ◌∙◌}
use Rattle.supply_lines.specs.Lines.{line_in}
use Rattle.supply_lines.proofs.Tables.{line-in, lines-more}
use Rattle.supply_lines.proofs.lines.push_ends.Goals as goal

pub loop-end-preserved : goal.loop-end-preserved
loop-end-preserved c =
    let ends = c.args.ends.now in
    let table = c.args.table.now in
    let i = c.loop-end.end-index in
    let low = c.requires i 0 c.loop-end-test.true in
    let one = c.in_ok-push_line.ensures ∙ ap (λ l. c.loop-end.text.items ++ l) (sym (line-in table (get_or ends i 0) _ low)) in
    lines-more (line_in table) c.args.text.now.items c.loop-end.text.items c.push_line.new.text.items ends i 0 c.loop-end-test.true c.loop-end.invariant one
