-- The sums are those of the set.
use Rattle.std.proofs.Common.{◌≡◌, ◌+◌, ◌-◌, ◌++◌, true, refl, ap, ◌∙◌, arith}
use Rattle.std.specs.Prelude.{sum_by}
use Rattle.std.proofs.lemmas.List.Elements.{All-same}
use Rattle.std.proofs.lemmas.List.Sums.{AllPass-from_list_all}
use Rattle.std.proofs.lemmas.Result.{on_ok_weaker}
use Rattle.slot_core.specs.Feasibility.Feasible.{demand}
use Rattle.slot_core.specs.Sets.Ranges.{sporadic_in_range}
use Rattle.slot_facts.proofs.Offline.Jobs.{cycle-at_most}
use Rattle.slot_facts.proofs.Sets.Ranges.{SetRanges-from_sound}
use Rattle.plan_answers.specs.Loads.{number_lines, planned_load, reserved_load, sporadic_load, sum_lines}
use Rattle.plan_answers.proofs.Sums.{loads-demand, reserved-small}
use Rattle.plan_answers.proofs.load.push_sums.Goals as goal

pub reserved_load-reserved-requires-clause-cycle : goal.reserved_load-reserved-requires-clause-cycle
reserved_load-reserved-requires-clause-cycle c =
    omega (arith, c.requires.cycle, cycle-at_most c.args.tasks.now c.requires.sound)

pub reserved_load-reserved-requires-clause-in_range : goal.reserved_load-reserved-requires-clause-in_range
reserved_load-reserved-requires-clause-in_range c =
    let set = c.args.tasks.now in
    All-same (λ s. sporadic_in_range s ≡ true) _ _ c.items.ensures (AllPass-from_list_all sporadic_in_range set.sporadics (SetRanges-from_sound set c.requires.sound).sporadics)

pub reserved_load-reserved-requires-clause-small : goal.reserved_load-reserved-requires-clause-small
reserved_load-reserved-requires-clause-small c =
    let set = c.args.tasks.now in
    rw c.items.ensures (reserved-small set c.args.cycle c.requires.sound (omega (arith, c.requires.cycle, cycle-at_most set c.requires.sound)))

pub overflow_sub-both : goal.overflow_sub-both
overflow_sub-both c =
    let set = c.args.tasks.now in
    let reserved : c.reserved_load-reserved.result ≡ reserved_load set c.args.cycle = c.reserved_load-reserved.ensures ∙ ap (sum_by (sporadic_load c.args.cycle)) c.items.ensures in
    omega (arith, reserved, c.total-both.ensures, loads-demand set c.args.cycle c.requires.sound)

pub returns : goal.returns
returns c =
    let set = c.args.tasks.now in
    let cycle = c.args.cycle in
    let both : c.total-both.result ≡ demand set cycle 0 cycle = c.total-both.ensures in
    let reserved : c.reserved_load-reserved.result ≡ reserved_load set cycle = c.reserved_load-reserved.ensures ∙ ap (sum_by (sporadic_load cycle)) c.items.ensures in
    let planned : c.total-both.result - c.reserved_load-reserved.result ≡ planned_load set cycle = omega (arith, reserved, both, loads-demand set cycle c.requires.sound) in
    let same : number_lines (c.total-both.result - c.reserved_load-reserved.result) c.reserved_load-reserved.result c.total-both.result c.from.result ≡ sum_lines set cycle =
    ap (λ n. number_lines n c.reserved_load-reserved.result c.total-both.result c.from.result) planned
    ∙ ap (λ n. number_lines (planned_load set cycle) n c.total-both.result c.from.result) reserved
    ∙ ap (λ n. number_lines (planned_load set cycle) (reserved_load set cycle) n c.from.result) both
    ∙ ap (number_lines (planned_load set cycle) (reserved_load set cycle) (demand set cycle 0 cycle)) c.from.ensures in
    on_ok_weaker c.push_numbers.result (λ told. told ∙ ap (λ l. c.args.text.now.items ++ l) same) c.push_numbers.ensures
