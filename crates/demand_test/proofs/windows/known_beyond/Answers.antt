use Rattle.std.proofs.Common.{inl, inr, arith}
use Rattle.std.proofs.lemmas.Bool.{cases_lt}
use Rattle.demand_test.proofs.windows.known_beyond.Goals as goal

pub loop-after-preserved : goal.loop-after-preserved
loop-after-preserved c =
    let after = c.loop-after.after in (
      omega (arith, c.loop-after.invariant.0),
      λ b past low high.
          elim (cases_lt after b) [
            | inl more ↦ c.loop-after.invariant.1 b more low high
            | inr within ↦ let rises = c.requires.rising b after low within c.loop-after.invariant.0 in omega arith
          ],
    )
