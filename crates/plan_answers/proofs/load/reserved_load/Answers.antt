use Rattle.std.proofs.Common.{◌≡◌, get_or, ap, arith}
use Rattle.std.proofs.lemmas.List.Sums.{sum_by_more, sum_by_more_le}
use Rattle.plan_answers.specs.Loads.{sporadic_load}
use Rattle.plan_answers.proofs.load.reserved_load.Goals as goal

pub overflow_add-slots : goal.overflow_add-slots
overflow_add-slots c =
    let ss = c.args.sporadics.now in
    let s = c.sporadic-item.result in
    let load = sporadic_load c.args.cycle in
    let here : load s ≡ load (get_or ss c.loop-sporadic.sporadic-index s) = ap load c.sporadic-item.is in
    omega (arith, sum_by_more_le load ss c.loop-sporadic.sporadic-index s c.loop-sporadic-test.true, c.sporadic_load-slots.ensures, c.requires.small, c.loop-sporadic.invariant)

pub loop-sporadic-preserved : goal.loop-sporadic-preserved
loop-sporadic-preserved c =
    let ss = c.args.sporadics.now in
    let s = c.sporadic-item.result in
    let load = sporadic_load c.args.cycle in
    let here : load s ≡ load (get_or ss c.loop-sporadic.sporadic-index s) = ap load c.sporadic-item.is in
    omega (arith, sum_by_more load ss c.loop-sporadic.sporadic-index s c.loop-sporadic-test.true, c.sporadic_load-slots.ensures, c.loop-sporadic.invariant)
