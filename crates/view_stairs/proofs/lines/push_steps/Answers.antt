-- One line more, or the fault of the next one.
use Rattle.std.proofs.Common.{rules, ◌≡◌, ◌≢◌, ◌+◌, [], Some, None, Err, sym, subst, arith, length}
use Rattle.std.proofs.lemmas.Grind.{common_steps}
use Rattle.key_texts.specs.KeyTexts.{cut_at}
use Rattle.view_stairs.specs.declared.fault.StairsFault.TheVariants.{NoLine}
use Rattle.view_stairs.specs.Steps.{IsRead}
use Rattle.view_stairs.proofs.StepReads.{Breaks-line, Breaks-unended, IsRead-more}
use Rattle.view_stairs.proofs.lines.push_steps.Goals as goal

pub returns-in_default-clause-fault : goal.returns-in_default-clause-fault
returns-in_default-clause-fault c = λ n is.
    let nowhere : cut_at 10 c.loop-rest.rest.now ≡ None = search rules in
    let some : c.loop-rest.rest.now ≢ [] = (λ empty. grind (arith, common_steps, empty, c.is_empty.ensures, c.loop-rest-test.true)) in
    let count : length c.loop-rest.steps.items + 1 ≡ n = cc in
    Breaks-unended c.args.text.now c.loop-rest.rest.now c.loop-rest.steps.items c.loop-rest.last n c.loop-rest.invariant nowhere some count

pub returns-in_err-last-clause-fault : goal.returns-in_err-last-clause-fault
returns-in_err-last-clause-fault c = λ n is.
    let cut : cut_at 10 c.loop-rest.rest.now ≡ Some (c.in-Some.line.now, c.in-Some.after.now) = search rules in
    let was : c.push_step.result ≡ Err (NoLine n) = search (rules, is) in
    let (count, none) = c.push_step.ensures.fault n was in
    Breaks-line c.args.text.now c.loop-rest.rest.now c.in-Some.line.now c.in-Some.after.now c.loop-rest.steps.items c.loop-rest.last n c.loop-rest.invariant cut none count

pub loop-rest-preserved : goal.loop-rest-preserved
loop-rest-preserved c =
    let cut : cut_at 10 c.loop-rest.rest.now ≡ Some (c.in-Some.line.now, c.in-Some.after.now) = search rules in
    let (found, steps) = c.in_ok-last.ensures.ok in
    subst (λ ls. IsRead c.args.text.now ls c.in_ok-last.last c.in-Some.after.now) (sym steps)
    (IsRead-more c.args.text.now c.loop-rest.rest.now c.in-Some.after.now c.in-Some.line.now c.loop-rest.steps.items c.loop-rest.last c.in_ok-last.last c.loop-rest.invariant cut found)
