use Rattle.std.proofs.Common.{◌+◌, ◌∙◌, inl, inr, arith}
use Rattle.std.proofs.lemmas.Bool.{cases_eq}
use Rattle.std.proofs.lemmas.List.{get_or-set_same, get_or-set_other, length-set, get_or_default}
use Rattle.std.proofs.lemmas.List.Sums.{sum_by_more, sum_by-take-le}
use Rattle.demand_test.proofs.ends.add_up.Goals as goal

pub overflow_add-sum : goal.overflow_add-sum
overflow_add-sum c =
    let old = c.args.numbers.now.items in
    let inv = c.loop-place.invariant in
    let here = inv.after c.loop-place.place (omega arith) in
    let read = get_or_default c.loop-place.numbers.items c.loop-place.place c.index.result.now 0 (omega arith) in
    let step = sum_by_more (λ x. x) old c.loop-place.place 0 (omega (arith, inv.left)) in
    let most = sum_by-take-le (λ x. x) old (c.loop-place.place + 1) in
    omega (arith, inv.summed, here)

pub loop-place-preserved : goal.loop-place-preserved
loop-place-preserved c =
    let old = c.args.numbers.now.items in
    let now = c.loop-place.numbers.items in
    let i = c.loop-place.place in
    let value = c.loop-place.sum + c.index.result.now in
    let inv = c.loop-place.invariant in
    let here = inv.after i (omega arith) in
    let read = get_or_default now i c.index.result.now 0 (omega arith) in
    let step = sum_by_more (λ x. x) old i 0 (omega (arith, inv.left)) in
    record {
      left = length-set now i value ∙ inv.left;
      summed = omega (arith, inv.summed, here);
      before = λ b low.
          elim (cases_eq b i) [
            | inl same ↦ rw same (omega (arith, inv.summed, here, get_or-set_same now i value 0 (omega arith)))
            | inr other ↦ get_or-set_other now i b value 0 other ∙ inv.before b (omega arith)
          ];
      after = λ b low. get_or-set_other now i b value 0 (omega arith) ∙ inv.after b (omega arith);
    }
