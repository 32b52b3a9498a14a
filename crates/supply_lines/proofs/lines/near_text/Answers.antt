-- The entry of the table is what is found.
use Rattle.std.proofs.Common.{◌++◌, ap, ◌∙◌, arith}
use Rattle.supply_find.specs.Found.{supply_of}
use Rattle.supply_lines.specs.Lines.{line_of}
use Rattle.supply_lines.proofs.Tables.{table-at, table-length}
use Rattle.supply_lines.proofs.lines.near_text.Goals as goal

pub bounds-items-within : goal.bounds-items-within
bounds-items-within c =
    omega (arith, c.requires, table-length c.args.plan.now.tasks c.items.result.now (c.items.ensures ∙ c.in_ok-table.ensures))

pub returns : goal.returns
returns c =
    let within = c.args.within in
    let set = c.args.plan.now.tasks in
    c.in_ok-push_line.ensures
    ∙ ap (λ s. c.new-text.result.items ++ line_of (within, s)) (table-at set c.items.result.now within _ (c.items.ensures ∙ c.in_ok-table.ensures) c.requires)
    ∙ ap (λ l. l ++ line_of (within, supply_of set within)) c.new-text.ensures.items
