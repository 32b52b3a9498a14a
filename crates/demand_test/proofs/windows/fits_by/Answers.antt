use Rattle.std.proofs.Common.{inl, inr, arith}
use Rattle.std.proofs.lemmas.Bool.{cases_lt}
use Rattle.demand_test.proofs.windows.fits_by.Goals as goal

pub loop-until-preserved : goal.loop-until-preserved
loop-until-preserved c =
    let until = c.loop-until.until in (
      omega (arith, c.loop-until.invariant.0),
      λ b past low high.
          elim (cases_lt until b) [
            | inl more ↦ c.loop-until.invariant.1 b more low high
            | inr within ↦ let rises = c.requires.rising b until low within c.loop-until.invariant.0 in omega arith
          ],
    )
