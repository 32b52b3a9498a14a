-- The lines in the table of the search are those of the set.
use Rattle.std.proofs.Common.{◌+◌, ◌<◌, ◌++◌, length, sym, ap, subst, ◌∙◌, arith}
use Rattle.std.specs.Prelude.{All, flat_map}
use Rattle.std.proofs.lemmas.List.Elements.{All-from_recursion}
use Rattle.std.proofs.lemmas.List.FromFn.{length-map-range_with_len}
use Rattle.slot_core.specs.Sets.Cycles.{cycle_of}
use Rattle.slot_facts.proofs.Offline.Jobs.{cycle-at_most}
use Rattle.supply_find.specs.Found.{supply_slots}
use Rattle.supply_find.specs.Stairs.{flat_ends}
use Rattle.supply_lines.specs.Lines.{ends_of, line_in}
use Rattle.supply_lines.proofs.Tables.{ends-inside, lines-are, table-length, table-slots}
use Rattle.supply_lines.proofs.lines.supply_text.Goals as goal

pub flat_ends-requires : goal.flat_ends-requires
flat_ends-requires c =
    let set = c.args.plan.now.tasks in
    let slots = c.items-2.ensures ∙ c.in_ok-slots.ensures ∙ table-slots set c.items.result.now (c.items.ensures ∙ c.in_ok-table.ensures) in
    let long = ap length slots ∙ length-map-range_with_len (supply_slots set) 0 (cycle_of set + 1) in
    omega (arith, long, cycle-at_most set c.cycle-cycle.ensures.plan.sound)

pub push_ends-requires : goal.push_ends-requires
push_ends-requires c =
    let set = c.args.plan.now.tasks in
    let slots = c.items-2.ensures ∙ c.in_ok-slots.ensures ∙ table-slots set c.items.result.now (c.items.ensures ∙ c.in_ok-table.ensures) in
    let ends = c.items-3.ensures ∙ c.in_ok-ends.ensures ∙ ap flat_ends slots in
    let long = table-length set c.items-4.result.now (c.items-4.ensures ∙ c.in_ok-table.ensures) in
    let all = All-from_recursion (λ k. k < cycle_of set + 1) (ends_of set) (ends-inside set) in
    subst (λ xs. All (λ k. k < length c.items-4.result.now) xs) (sym ends) (subst (λ n. All (λ k. k < n) (ends_of set)) (sym long) all)

pub returns : goal.returns
returns c =
    let set = c.args.plan.now.tasks in
    let slots = c.items-2.ensures ∙ c.in_ok-slots.ensures ∙ table-slots set c.items.result.now (c.items.ensures ∙ c.in_ok-table.ensures) in
    let ends = c.items-3.ensures ∙ c.in_ok-ends.ensures ∙ ap flat_ends slots in
    let table = c.items-4.result.now in
    c.in_ok-push_ends.ensures
    ∙ ap (λ l. l ++ flat_map (line_in table) c.items-3.result.now) c.new-text.ensures.items
    ∙ ap (flat_map (line_in table)) ends
    ∙ lines-are set table (c.items-4.ensures ∙ c.in_ok-table.ensures)
