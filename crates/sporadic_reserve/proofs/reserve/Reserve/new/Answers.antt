use Rattle.std.proofs.Common.{map, ap, ◌∙◌, subst, sym}
use Rattle.std.proofs.lemmas.List.{take_all}
use Rattle.sporadic_reserve.specs.Rates.{first_rate, reserved, AreSporadicRates}
use Rattle.sporadic_reserve.proofs.FirstRates.{AreSporadicRates-first, reserved-first}
use Rattle.sporadic_reserve.proofs.reserve.Reserve.new.Goals as goal

pub invariant_of-result : goal.invariant_of-result
invariant_of-result c =
    let tasks = c.args.tasks.now in
    let kept = c.loop-task.invariant ∙ ap (map first_rate) (take_all c.loop-task.task-index tasks c.loop-task-test.false) in
    subst AreSporadicRates (sym kept) (AreSporadicRates-first tasks c.requires.in_range)

pub returns : goal.returns
returns c =
    let tasks = c.args.tasks.now in
    let kept = c.loop-task.invariant ∙ ap (map first_rate) (take_all c.loop-task.task-index tasks c.loop-task-test.false) in
    ap reserved kept ∙ reserved-first tasks
