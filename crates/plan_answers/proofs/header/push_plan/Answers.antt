-- The numbers are those of the plan.
use Rattle.std.proofs.Common.{◌≡◌, ◌++◌, length, ap, ◌∙◌}
use Rattle.std.proofs.lemmas.Result.{on_ok_weaker}
use Rattle.slot_core.specs.declared.tasks.TaskSet.{TaskSet}
use Rattle.table_codec.specs.Grammar.{spelling}
use Rattle.plan_answers.specs.Headers.{arena_bytes, number_lines, plan_lines}
use Rattle.plan_answers.proofs.header.push_plan.Goals as goal

pub returns : goal.returns
returns c =
    let plan = c.args.plan.now in
    let cycle : c.from-cycle.result ≡ plan.cycle = c.from-cycle.ensures ∙ c.cycle.ensures.cycle in
    let soft : c.from-soft.result ≡ plan.tasks.soft_limit = c.from-soft.ensures ∙ ap (λ (set : TaskSet). set.soft_limit) c.tasks.ensures.tasks in
    let same : number_lines c.from-cycle.result c.from-soft.result c.arena_bytes.result c.args.table ≡ plan_lines plan =
    ap (λ n. number_lines n c.from-soft.result c.arena_bytes.result c.args.table) cycle
    ∙ ap (λ n. number_lines plan.cycle n c.arena_bytes.result c.args.table) soft
    ∙ ap (λ n. number_lines plan.cycle plan.tasks.soft_limit n c.args.table) c.arena_bytes.ensures
    ∙ ap (number_lines plan.cycle plan.tasks.soft_limit (arena_bytes plan)) c.requires in
    on_ok_weaker c.push_numbers.result (λ told. told ∙ ap (λ l. c.args.text.now.items ++ l) same) c.push_numbers.ensures
