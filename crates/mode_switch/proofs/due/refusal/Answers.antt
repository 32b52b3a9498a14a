-- The table is that of the cycles that are looked at, and the reserve that of the second set.
use Rattle.std.proofs.Common.{◌*◌, ap, subst, ◌∙◌, arith}
use Rattle.slot_core.specs.Sets.Cycles.{cycle_of}
use Rattle.slot_facts.proofs.Plans.Items.{plan_cycle-bounds}
use Rattle.change_laws.specs.Carried.{cycles_of_change, jobs_after}
use Rattle.mode_switch.specs.DueTables.{IsDueTable}
use Rattle.mode_switch.proofs.Shortages.{few_places, first_reserve, refusal-from_short}
use Rattle.mode_switch.proofs.due.refusal.Goals as goal

pub cycles_of-cycles-requires-clause-some : goal.cycles_of-cycles-requires-clause-some
cycles_of-cycles-requires-clause-some c =
    omega (arith, c.cycle.ensures.cycle, plan_cycle-bounds c.args.plan.now c.cycle.ensures.plan)

pub first_short-requires-clause-near : goal.first_short-requires-clause-near
first_short-requires-clause-near c =
    let plan = c.args.plan.now in
    let is_plan = c.cycle.ensures.plan in
    let whole = is_plan.cycle in
    let table : IsDueTable (jobs_after plan.tasks c.args.at c.args.carried.now c.cycles_of-cycles.result) (c.cycles_of-cycles.result * cycle_of plan.tasks) c.in_ok-due.due.items = c.in_ok-due.ensures in
    let bounds = plan_cycle-bounds plan is_plan in
    omega (arith, table.len, few_places c.cycles_of-cycles.result (cycle_of plan.tasks) c.cycles_of-cycles.ensures.few (omega (arith, whole, bounds)))

pub returns-clause-refused : goal.returns-clause-refused
returns-clause-refused c =
    let set = c.args.plan.now.tasks in
    let at = c.args.at in
    let carried = c.args.carried.now in
    let due = c.in_ok-due.due.items in
    let table : IsDueTable (jobs_after set at carried c.cycles_of-cycles.result) (c.cycles_of-cycles.result * cycle_of set) due = c.in_ok-due.ensures in
    let same = c.cycles_of-cycles.ensures.cycles ∙ ap (λ cycle. cycles_of_change cycle at carried) (c.cycle.ensures.cycle ∙ c.cycle.ensures.plan.cycle) in
    let own = subst (λ n. IsDueTable (jobs_after set at carried n) (n * cycle_of set) due) same table in
    let all = c.new-reserve.ensures ∙ ap first_reserve c.sporadics.ensures.sporadics in
    refusal-from_short set at carried due c.new-reserve.result own all c.first_short.result c.first_short.ensures
