use Rattle.std.proofs.Common.{[], ◌∷◌, length, ap, ◌∙◌, arith}
use Rattle.std.proofs.lemmas.List.{length-append}
use Rattle.trace_verify.specs.Dues.{due_before}
use Rattle.trace_verify.proofs.DueFacts.{due_before-zero}
use Rattle.trace_verify.proofs.dues.push_zeros.Goals as goal

pub returns-in_err-push-clause-same : goal.returns-in_err-push-clause-same
returns-in_err-push-clause-same c =
    λ n. ap (λ xs. due_before xs n) c.in_err-push.ensures.items ∙ c.loop-i.invariant.same n

pub returns-in_err-push-clause-longer : goal.returns-in_err-push-clause-longer
returns-in_err-push-clause-longer c =
    omega (arith, ap length c.in_err-push.ensures.items, c.loop-i.invariant.longer)

pub loop-i-preserved : goal.loop-i-preserved
loop-i-preserved c =
    let items = c.loop-i.due.items in
    record {
      same = λ n. ap (λ xs. due_before xs n) c.in_ok-push.ensures.items ∙ due_before-zero items n ∙ c.loop-i.invariant.same n;
      longer = omega (arith, ap length c.in_ok-push.ensures.items, length-append items (0 ∷ []), c.loop-i.invariant.longer);
    }
