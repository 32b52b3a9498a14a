use Rattle.std.proofs.Common.{◌≡◌, ℕ, ◌+◌, map, refl, ap, ◌∙◌, arith}
use Rattle.std.specs.List.{range_with_len}
use Rattle.supply_find.proofs.Tables.{pushed}
use Rattle.supply_find.proofs.spare.numbers_to.Goals as goal

pub loop-number-preserved : goal.loop-number-preserved
loop-number-preserved c =
    pushed (λ (n : ℕ). n) c.loop-number.numbers.items _ c.loop-number.number c.loop-number.number c.loop-number.invariant c.in_ok-push.ensures.items refl

pub returns : goal.returns
returns c =
    let last : c.loop-number.number ≡ c.args.last + 1 = omega (arith, c.loop-number-test.false, c.loop-number.auto.number-end) in
    c.loop-number.invariant ∙ ap (λ m. map (λ (n : ℕ). n) (range_with_len 0 m)) last
