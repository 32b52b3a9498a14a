-- The graph at this place has a doubled name, or it has none.
use Rattle.std.proofs.Common.{sym, ap, ◌∙◌, Some}
use Rattle.std.proofs.lemmas.Result.{err_from_is_err_and}
use Rattle.source_check.proofs.FaultSteps.{task_names_fault, graph_names_step, told, told_later, told_part, told_after_part}
use Rattle.source_check.proofs.names.check_graph_names.Goals as goal

pub returns-then-is_graph_name : goal.returns-then-is_graph_name
returns-then-is_graph_name c =
    let step = graph_names_step c.args.graphs.now c.loop-place.place c.index-graphs-place.result c.loop-place-test.true c.index-graphs-place.is in
    sym c.loop-place.invariant ∙ told _ _ _ _ step (sym c.is_graph_name.ensures ∙ c.if-is_graph_name.true) ∙ ap Some (sym c.doubled_name.ensures)

pub returns-in_err-check_task_names : goal.returns-in_err-check_task_names
returns-in_err-check_task_names c =
    let p = err_from_is_err_and c.from_residual.result c.from_residual.ensures.1 in
    let step = graph_names_step c.args.graphs.now c.loop-place.place c.index-graphs-place.result c.loop-place-test.true c.index-graphs-place.is in
    let distinct = told_later _ _ _ _ step (sym c.is_graph_name.ensures ∙ c.if-is_graph_name.false) in
    rw (p.1, p.2) (sym c.loop-place.invariant ∙ told_part _ _ _ _ distinct (ap (task_names_fault c.loop-place.place) (sym c.items.ensures) ∙ c.in_err-check_task_names.ensures))

pub loop-place-preserved : goal.loop-place-preserved
loop-place-preserved c =
    let step = graph_names_step c.args.graphs.now c.loop-place.place c.index-graphs-place.result c.loop-place-test.true c.index-graphs-place.is in
    let distinct = told_later _ _ _ _ step (sym c.is_graph_name.ensures ∙ c.if-is_graph_name.false) in
    sym (told_after_part _ _ _ distinct (ap (task_names_fault c.loop-place.place) (sym c.items.ensures) ∙ c.in_ok-check_task_names.ensures)) ∙ c.loop-place.invariant
