use Rattle.std.proofs.Common.{arith}
use Rattle.demand_test.proofs.windows.next_known.Goals as goal

pub returns-then-spare-eq0 : goal.returns-then-spare-eq0
returns-then-spare-eq0 c =
    λ need next from known moves. record {
      after = omega arith;
      spare = λ b past low high. absurd (omega arith);
    }

pub returns : goal.returns
returns c =
    λ need next from known moves. record {
      after = omega (arith, known.after);
      spare = λ b past low high.
          omega (
            arith,
            known.spare b (omega arith) (omega arith) high,
            moves b (omega arith) (omega arith) high,
          );
    }
