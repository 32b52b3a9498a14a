use Rattle.std.proofs.Common.{ℕ, arith}
use Rattle.demand_test.specs.EndTables.{IsKnown}
use Rattle.demand_test.proofs.windows.nothing_known.Goals as goal

-- after the last end there is none
IsKnown-none : (need : ℕ → ℕ) (a last : ℕ) → IsKnown need a last (record { after = last; spare = 0 })
IsKnown-none need a last =
    record {
      after = omega arith;
      spare = λ b past low high. absurd (omega arith);
    }

pub returns : goal.returns
returns c =
    λ need from. record {
      sought = IsKnown-none need from c.args.last;
      before = IsKnown-none need from c.args.last;
    }
